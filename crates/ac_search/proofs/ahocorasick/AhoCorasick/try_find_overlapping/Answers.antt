use Rattle.ac_util.proofs.Prelude.{sym}
use Rattle.ac_automaton.specs.Util.{input_of}
use Rattle.ac_search.proofs.Served.{item-served}
use Rattle.ac_search.proofs.ahocorasick.AhoCorasick.try_find_overlapping.Goals as goal

pub returns-in-Contiguous : goal.returns-in-Contiguous
returns-in-Contiguous g c =
    rw (← c.self.view_is) (item-served c.self.inside.engine c.self.inside.start_kind (input_of c.args.input) c.self.invariant
    (rw (sym c.get_anchored.ensures) c.in_ok-check_start.ensures.0) _ _ c.try_find_overlapping-in-Contiguous.result
    (rw (c.in-Contiguous.is, sym c.as_ref-in-Contiguous.ensures) c.try_find_overlapping-in-Contiguous.ensures))

pub returns-in-Dfa : goal.returns-in-Dfa
returns-in-Dfa g c =
    rw (← c.self.view_is) (item-served c.self.inside.engine c.self.inside.start_kind (input_of c.args.input) c.self.invariant
    (rw (sym c.get_anchored.ensures) c.in_ok-check_start.ensures.0) _ _ c.try_find_overlapping-in-Dfa.result
    (rw (c.in-Dfa.is, sym c.as_ref-in-Dfa.ensures) c.try_find_overlapping-in-Dfa.ensures))
