use Rattle.std.proofs.Common.{◌≡◌, ◌||◌, Bool, true, false, [], length, rules}
use Rattle.std.proofs.lemmas.List.FromFn.{fill_by_all}
use Rattle.examples.specs.Callers.{occurs_in}
use Rattle.examples.proofs.callers.markers.marks_of.Goals as goal

or-false : (b d : Bool) → (b || false) ≡ d → b ≡ d
or-false true d is = is
or-false false d is = is

-- no item is still to come
pub returns : goal.returns
returns c =
    let built = c.args.searcher.now.built in
    let invariant = c.loop-m.invariant in
    let none : c.loop-m.m-iterator.rest ≡ [] = search rules in
    fill_by_all (occurs_in built c.args.line.now) c.loop-m.marks.items (length built.patterns) false invariant.whole
    (λ k within. or-false _ _ (rw none at invariant.each k false within))
