use Rattle.ac_util.proofs.Prelude.{rules}
use Rattle.ac_util.proofs.Skips.{needle_found, needle_match}
use Rattle.ac_util.proofs.prefilter.Needle.find_in.Goals as goal

-- no match is picked where the needle stands nowhere
pub returns-in_err-skipped : goal.returns-in_err-skipped
returns-in_err-skipped g c = search (rules, needle_found, needle_match)

-- the needle at its first place is the match that is picked
pub returns : goal.returns
returns g c = search (rules, needle_found, needle_match)
