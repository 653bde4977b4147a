use Rattle.ac_util.proofs.Prelude.{◌≡◌, ◌∷◌, length, slice_index_or, ap, sym, subst, arith, inl, inr, ◌∙◌, Some, refl, slice_get, slice_get_within}
use Rattle.ac_engines.specs.Prelude.{alphabet_len, failure, AreNodes, plain_of, Trie, Filling}
use Rattle.ac_engines.proofs.OneRow.{inner-filled, inner-row}
use Rattle.ac_engines.proofs.StateRows.{classes-apart, classes-within, failed-to, row-of}
use Rattle.ac_engines.proofs.dfa.fill.Filler.fill_inner.Goals as goal

-- the state stands after the starts
pub fail-requires : goal.fail-requires
fail-requires g c =
    let (w, some, (nodes, m)) = c.requires in
    record {
      inner = inner-row c.args.self.now nodes (length c.args.table.now) c.args.sid w m.row some;
      numbered = rw (ap (λ (f : Filling). f.trie) c.self.view_is, sym m.row.may.are_nodes.numbered.count)
          (slice_get_within nodes c.args.sid (Some w) m.row.named);
    }

-- it has a row, and so has its failure target
pub first_row-from-requires : goal.first_row-from-requires
first_row-from-requires g c =
    let (w, some, (nodes, m)) = c.requires in
    let within = slice_get_within nodes c.args.sid (Some w) m.row.named in
    record {
      numbered = rw (ap (λ (f : Filling). f.numbers) c.self.view_is, m.row.may.laid.count)
          (omega (arith, c.fail.ensures.back, within));
    }

-- both rows lie in the table, and apart
pub copy_row-requires : goal.copy_row-requires
copy_row-requires g c =
    let (w, some, (nodes, m)) = c.requires in
    let f = c.args.self.now in
    let size = length c.args.table.now in
    let may = m.row.may in
    let sid = c.args.sid in
    let inner = inner-row f nodes size sid w m.row some in
    let count = may.laid.count in
    let within = slice_get_within nodes sid (Some w) m.row.named in
    let back = c.fail.ensures.back in
    let from = c.first_row-from.ensures.value ∙ ap (λ (f : Filling). slice_index_or f.numbers c.fail.result 0) c.self.view_is in
    let to = c.as_usize-to.ensures.value ∙ c.number.ensures nodes size w m.row
    ∙ sym (row-of f nodes size may sid (Some w) m.row.named (λ other. absurd (omega arith))) in
    let len = c.alphabet_len.ensures.value ∙ ap (λ (f : Filling). alphabet_len f.classes) c.self.view_is in
    let target = classes-within f nodes size may c.fail.result c.fail.ensures.start (omega arith) in
    let own = classes-within f nodes size may sid (λ other. absurd (omega arith)) (omega arith) in
    record {
      from_within = omega arith;
      to_within = omega arith;
      apart = elim (classes-apart f nodes size may c.fail.result sid back c.fail.ensures.start inner (omega arith)) [
        | inl before ↦ inl (omega arith)
        | inr after ↦ inr (omega arith)
      ];
    }

-- the row of the failure target was copied, and own transitions were set over it
pub returns : goal.returns
returns g c = λ w some nodes m.
    let f = c.args.self.now in
    let size = length c.args.table.now in
    let trie = ap (λ (f : Filling). f.trie) c.self.view_is in
    let named : slice_get nodes c.fail.result ≡ Some (failure f.trie.built.kind (plain_of f.trie.built) w) =
    failed-to f.trie.built.kind (plain_of f.trie.built) nodes c.args.sid c.fail.result w some
    (λ x u at. subst (λ (t : Trie). slice_get nodes c.fail.result ≡ Some (failure t.built.kind (plain_of t.built) (x ∷ u)))
    trie (c.fail.ensures.target nodes x u (subst (λ (t : Trie). AreNodes t nodes) (sym trie) m.row.may.are_nodes) at))
    m.row.named in
    let target = failure f.trie.built.kind (plain_of f.trie.built) w in
    let from = c.first_row-from.ensures.value
    ∙ ap (λ (f : Filling). slice_index_or f.numbers c.fail.result 0) c.self.view_is
    ∙ row-of f nodes size m.row.may c.fail.result target named c.fail.ensures.start in
    let to = c.as_usize-to.ensures.value ∙ c.number.ensures nodes size w m.row in
    let len = c.alphabet_len.ensures.value ∙ ap (λ (f : Filling). alphabet_len f.classes) c.self.view_is in
    let set = c.set_own.ensures nodes w (rw c.copy_row.ensures.same_length m.row) in
    inner-filled f nodes size c.args.sid w m.row c.first_row-from.result c.as_usize-to.result c.alphabet_len.result
    c.args.table.now c.copy_row.new.table c.set_own.new.table some
    (m.earlier refl c.fail.result target c.fail.ensures.back c.fail.ensures.start named) from to len
    c.copy_row.ensures.same_length (λ k from to. m.blank k to) c.copy_row.ensures.copied c.copy_row.ensures.below
    c.copy_row.ensures.above set
