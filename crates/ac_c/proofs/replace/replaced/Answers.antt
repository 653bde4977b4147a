use Rattle.ac_util.proofs.Prelude.{rules}
use Rattle.ac_c.proofs.TextLemmas.{count-texts}
use Rattle.ac_c.proofs.replace.replaced.Goals as goal

-- there are as many texts as ends, and so as patterns
pub replace_all_bytes-requires : goal.replace_all_bytes-requires
replace_all_bytes-requires c = search (rules, count-texts)
