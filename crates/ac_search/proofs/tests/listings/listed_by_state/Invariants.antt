use Rattle.ac_search.specs.Prelude.{HasPlace}
use Rattle.ac_search.specs.Input.{input_of}
use Rattle.ac_search.proofs.tests.listings.listed_by_state.Given as goal

-- the state stands for a place of the listing
abbrev pub invariant-loop : goal.invariant-loop
invariant-loop l = HasPlace l.searcher (input_of l.input) l.state
