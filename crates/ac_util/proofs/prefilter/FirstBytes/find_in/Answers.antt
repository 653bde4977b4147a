use Rattle.ac_util.proofs.Prelude.{rules}
use Rattle.ac_util.proofs.Skips.{first_in_range}
use Rattle.ac_util.proofs.prefilter.FirstBytes.find_in.Goals as goal

-- where the range has none the haystack has none there
pub returns-in_err-skipped : goal.returns-in_err-skipped
returns-in_err-skipped c = search (rules, first_in_range)

-- the first place of the range is that of the haystack
pub returns : goal.returns
returns c = search (rules, first_in_range)
