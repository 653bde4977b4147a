use Rattle.ac_util.proofs.Prelude.{List, ◌∷◌, subst, rules, arith}
use Rattle.ac_search.specs.Occurrence.{Occurrence}
use Rattle.ac_c.specs.Steps.{StandsInListing}
use Rattle.ac_c.proofs.ListingSteps.{due-stepped, stands-few, stands-past, stands-stepped}
use Rattle.ac_c.proofs.overlapping.next.Goals as goal

-- no more occurrences end at the cursor than there are patterns
pub step-requires : goal.step-requires
step-requires c here =
    let q = c.loop-found.items.search in let rest = c.next.new.self.rest in let m = c.in-Some.found in
    let at = c.loop-found.here.at in let given = c.loop-found.here.given in
    let stands : StandsInListing q (m ∷ rest) at given =
    subst (λ (left : List Occurrence). StandsInListing q left at given) (search rules) c.loop-found.invariant.stands in
    let few = stands-few q rest m at given stands (search rules) in
    grind (arith, few, rules)

-- what ends there or later is counted
pub returns-then-end-here-clause-stands : goal.returns-then-end-here-clause-stands
returns-then-end-here-clause-stands c =
    let q = c.loop-found.items.search in let rest = c.next.new.self.rest in
    grind (arith, stands-stepped q rest c.in-Some.found c.loop-found.here, rules)

-- and was due
pub returns-then-end-here-clause-gives : goal.returns-then-end-here-clause-gives
returns-then-end-here-clause-gives c =
    let q = c.loop-found.items.search in let rest = c.next.new.self.rest in
    grind (arith, due-stepped q rest c.in-Some.found c.loop-found.here, rules)

-- what ends before it is passed over
pub loop-found-preserved : goal.loop-found-preserved
loop-found-preserved c =
    let q = c.loop-found.items.search in let rest = c.next.new.self.rest in let here = c.loop-found.here in
    grind (arith, stands-past q rest c.in-Some.found here.at here.given, rules)
