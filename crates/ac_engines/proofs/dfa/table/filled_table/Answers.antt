use Rattle.ac_util.proofs.Prelude.{◌∙◌}
use Rattle.ac_engines.proofs.dfa.table.filled_table.Goals as goal

-- the table is as long as it was made
pub fill-requires-clause-may : goal.fill-requires-clause-may
fill-requires-clause-may g c =
    let (nodes, may) = c.requires.may in (nodes, rw (c.deref_mut.ensures.len ∙ c.in_ok-table.ensures.len) may)
