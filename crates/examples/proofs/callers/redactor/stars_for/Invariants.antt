use Rattle.std.proofs.Common.{◌≡◌, ◌++◌, drop, length, map}
use Rattle.examples.specs.Callers.{stars}
use Rattle.ac_search.specs.Patterns.{bytes_of}
use Rattle.examples.proofs.callers.redactor.stars_for.Given as goal

abbrev pub invariant-loop-secret : goal.invariant-loop-secret
invariant-loop-secret l =
    map (λ t. t.items) l.texts.items ++ map (λ s. stars (length s)) (bytes_of (drop l.secret-index l.secrets))
    ≡ map (λ s. stars (length s)) (bytes_of l.secrets)
