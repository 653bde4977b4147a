use Rattle.ac_util.proofs.Prelude.{◌≡◌, List, length, Some, slice_get}
use Rattle.ac_engines.specs.Prelude.{Node, AreNodes}
use Rattle.ac_engines.proofs.Listing.{HasListed, MayRead, rest_of}
use Rattle.ac_engines.proofs.matches.list_matches.Given as goal

-- the matches so far that count are listed
abbrev pub invariant-loop-pattern : goal.invariant-loop-pattern
invariant-loop-pattern g l = record {
  may : MayRead l.nfa l.rest;
  listed : (nodes : List Node) (u : Node) → AreNodes l.nfa nodes → slice_get nodes l.fn.sid ≡ Some u
      → HasListed l.nfa l.anchored l.depth u l.matches.items l.rest;
}

abbrev pub decreases-loop-pattern : goal.decreases-loop-pattern
decreases-loop-pattern g l = length (rest_of l.nfa l.rest)
