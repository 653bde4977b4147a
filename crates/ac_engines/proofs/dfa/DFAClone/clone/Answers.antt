use Rattle.ac_util.proofs.Prelude.{same_from_all_zip}
use Rattle.ac_engines.proofs.dfa.DFAClone.clone.Goals as goal

-- the table of the copy is that of the automaton
pub invariant_of-result : goal.invariant_of-result
invariant_of-result g c =
    let table = same_from_all_zip _ c.self.inside.table.items c.in_ok-clone-2.field-0.items c.in_ok-clone-2.ensures.cases.0 (λ x y same. cc) in
    rw (c.in_ok-clone.ensures.cases, table, c.in_ok-clone-3.ensures.cases, c.in_ok-clone-4.ensures.cases) c.self.invariant

pub returns : goal.returns
returns g c =
    let table = same_from_all_zip _ c.self.inside.table.items c.in_ok-clone-2.field-0.items c.in_ok-clone-2.ensures.cases.0 (λ x y same. cc) in
    rw (c.in_ok-clone.ensures.cases, table, c.in_ok-clone-3.ensures.cases) (record { cases = c.self.view_is })
