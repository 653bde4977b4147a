use Rattle.ac_util.proofs.Prelude.{ap, sym, subst, arith, length, ◌∙◌, ◌++◌, ◌∷◌, [], Some, take_all}
use Rattle.ac_engines.specs.Prelude.{alphabet_len, class_at, plain_byte, AreNodes, IsOwn, transition_bytes_of, Trie, Filling, HasSet, row_input}
use Rattle.ac_engines.proofs.Owning.{next-row, own-more, transition_bytes_of-starts, row-room}
use Rattle.ac_engines.proofs.dfa.fill.Filler.set_own.Goals as goal

-- an own transition, as the reader says it
pub number-requires-in-loop-index : goal.number-requires-in-loop-index
number-requires-in-loop-index g c =
    let (nodes, w, h) = c.requires in
    let (byte, next) = c.own-byte.result in
    let trie = ap (λ (f : Filling). f.trie) c.self.view_is in
    let own = subst (λ (t : Trie). IsOwn t nodes w c.loop-index.index byte next) trie
    (c.own-byte.ensures nodes w (subst (λ (t : Trie). AreNodes t nodes) (sym trie) h.may.are_nodes) h.named) in (
      nodes,
      length c.args.table.now,
      w ++ plain_byte c.args.self.now.trie.built.ignores_case byte ∷ [],
      next-row c.args.self.now nodes (length c.args.table.now) c.args.sid w h c.loop-index.index byte next own,
    )

-- the row lies in the table
pub bounds-table-row : goal.bounds-table-row
bounds-table-row g c =
    let (nodes, w, h) = c.requires in
    let row = c.number.ensures nodes (length c.args.table.now) w h in
    let at = c.as_usize-row.ensures.value in
    let room = row-room c.args.self.now nodes (length c.args.table.now) c.args.sid w h c.args.anchored in
    let below = c.get.ensures.small in
    let len = ap (λ (f : Filling). alphabet_len f.classes) c.self.view_is in
    let fits = h.may.room in
    let long = c.loop-index.auto.table in
    omega arith

-- one more is set
pub loop-index-preserved : goal.loop-index-preserved
loop-index-preserved g c = λ nodes w h.
    let (byte, after) = c.own-byte.result in
    let trie = ap (λ (f : Filling). f.trie) c.self.view_is in
    let own = subst (λ (t : Trie). IsOwn t nodes w c.loop-index.index byte after)
    trie (c.own-byte.ensures nodes w (subst (λ (t : Trie). AreNodes t nodes) (sym trie) h.may.are_nodes) h.named) in
    let row = c.as_usize-row.ensures.value ∙ c.number.ensures nodes (length c.args.table.now) w h in
    let class = c.get.ensures.value ∙ ap (λ (f : Filling). class_at f.classes byte) c.self.view_is in
    let next = next-row c.args.self.now nodes (length c.args.table.now) c.args.sid w h c.loop-index.index
    byte after own in
    let number = c.number-in-loop-index.ensures nodes (length c.args.table.now)
    (w ++ plain_byte c.args.self.now.trie.built.ignores_case byte ∷ []) next in
    rw (row, class) (own-more c.args.self.now nodes (length c.args.table.now) c.args.sid w h c.loop-index.index
    byte after own c.args.anchored c.number-in-loop-index.result c.args.table.now
    c.loop-index.table c.loop-index.auto.table number (c.loop-index.invariant nodes w h))

-- all have been set
pub returns : goal.returns
returns g c = λ nodes w h.
    let trie = ap (λ (f : Filling). f.trie) c.self.view_is in
    let len = c.own_len-index-end.ensures.value nodes (Some w) (subst (λ (t : Trie). AreNodes t nodes) (sym trie) h.may.are_nodes) h.named
    ∙ ap (λ (t : Trie). length (transition_bytes_of t.built (Some w))) trie in
    let end = c.loop-index-test.false in
    rw (transition_bytes_of-starts c.args.self.now.trie.built c.args.self.now.start_kind (Some w))
    (subst (λ bytes. HasSet (row_input c.args.self.now nodes) c.args.anchored w bytes c.args.table.now c.loop-index.table)
    (take_all c.loop-index.index (transition_bytes_of c.args.self.now.trie.built (Some w)) (omega arith)) (c.loop-index.invariant nodes w h))
