use Rattle.std.proofs.Common.{◌≡◌, flat_map, map}
use Rattle.examples.specs.Callers.{numbered_markers}
use Rattle.examples.proofs.callers.markers.markers_in.Given as goal

-- the pairs of the lines up to here were added
abbrev pub invariant-loop-number : goal.invariant-loop-number
invariant-loop-number l =
    l.found.items ≡ flat_map (numbered_markers l.searcher.built) (map (λ x. (x.0, x.1.now)) l.yielded)
