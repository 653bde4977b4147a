use Rattle.std.proofs.Common.{◌≡◌, ◌-◌, length, take}
use Rattle.ac_search.specs.Prelude.{all, whole_input, HasPlace, rank_in, search_in}
use Rattle.examples.proofs.callers.listing.all_by_state.Given as goal

-- as many items as the state says were found
abbrev pub invariant-loop-m : goal.invariant-loop-m
invariant-loop-m l =
    record {
      placed : HasPlace l.searcher (whole_input l.haystack) l.state;
      found : l.found.items ≡ take (rank_in l.searcher (whole_input l.haystack) l.state)
          (all (search_in l.searcher.built (whole_input l.haystack)));
    }

abbrev pub decreases-loop-m : goal.decreases-loop-m
decreases-loop-m l =
    length (all (search_in l.searcher.built (whole_input l.haystack)))
    - rank_in l.searcher (whole_input l.haystack) l.state
