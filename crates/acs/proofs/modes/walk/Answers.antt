use Rattle.std.proofs.Common.{arith}
use Rattle.std.proofs.lemmas.Grind.{common_steps}
use Rattle.acs.proofs.modes.walk.Goals as goal

-- the lines of the walk were printed, or could not be
pub returns : goal.returns
returns g c = grind (arith, common_steps, c.print_all.ensures (λ w. w.rest) (λ s t m gives. gives.gives))
