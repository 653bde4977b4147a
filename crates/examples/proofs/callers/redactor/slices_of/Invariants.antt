use Rattle.std.proofs.Common.{◌≡◌, ◌++◌, drop, map}
use Rattle.ac_search.specs.Patterns.{bytes_of}
use Rattle.examples.proofs.callers.redactor.slices_of.Given as goal

abbrev pub invariant-loop-text : goal.invariant-loop-text
invariant-loop-text l =
    bytes_of l.slices.items ++ map (λ t. t.items) (drop l.text-index l.texts) ≡ map (λ t. t.items) l.texts
