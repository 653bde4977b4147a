use Rattle.ac_util.proofs.Prelude.{rules}
use Rattle.ac_util.proofs.Skips.{promised, says-nothing}
use Rattle.ac_util.proofs.prefilter.Prefilter.find_in.Goals as goal

-- nothing occurs in a span that starts past its end
pub returns-then-span-clause-says : goal.returns-then-span-clause-says
returns-then-span-clause-says g c = search (rules, says-nothing)

-- what is said is promised
pub returns-clause-promises : goal.returns-clause-promises
returns-clause-promises g c = search (rules, promised)
