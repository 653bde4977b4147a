use Rattle.ac_util.proofs.Prelude.{◌≡◌, ◌≢◌, ℕ, List, [], length, ◌∙◌, rules}
use Rattle.ac_engines.specs.Prelude.{Node, Filling, HasRow}
use Rattle.ac_engines.proofs.Numbered.{inner-string}
use Rattle.ac_engines.proofs.OneRow.{anchored-filled}
use Rattle.ac_engines.proofs.dfa.fill.Filler.fill_row.Goals as goal

-- after the start no string is empty
not-empty : (f : Filling) (nodes : List Node) (size s : ℕ) (w : List ℕ) → HasRow f nodes size s w → (s ≡ 2 → ⊥)
    → w ≢ []
not-empty f nodes size s w h other = search (rules, inner-string)

pub fill_inner-requires : goal.fill_inner-requires
fill_inner-requires g c =
    let (w, (nodes, may)) = c.requires in
    let m = rw c.in-No.is at may in
    let some = not-empty c.args.self.now nodes (length c.args.table.now) c.args.sid w m.row
    (λ start. c.if-as_usize-eq-START.false (c.as_usize.ensures.value ∙ start)) in
    (w, some, (nodes, m))

pub returns-in-Yes : goal.returns-in-Yes
returns-in-Yes g c = λ w nodes may.
    let m = rw c.in-Yes.is at may in
    rw c.in-Yes.is (anchored-filled c.args.self.now nodes (length c.args.table.now) c.args.sid w m.row c.args.table.now
    c.set_own.new.table m (c.set_own.ensures nodes w m.row))

pub returns-in-No-2 : goal.returns-in-No-2
returns-in-No-2 g c = λ w nodes may.
    let m = rw c.in-No.is at may in
    let some = not-empty c.args.self.now nodes (length c.args.table.now) c.args.sid w m.row
    (λ start. c.if-as_usize-eq-START.false (c.as_usize.ensures.value ∙ start)) in
    rw c.in-No.is (c.fill_inner.ensures w some nodes m)
