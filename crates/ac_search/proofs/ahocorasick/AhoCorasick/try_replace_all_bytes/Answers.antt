use Rattle.ac_util.proofs.Prelude.{rules}
use Rattle.ac_util.proofs.Exchanges.{exchanged-in_order}
use Rattle.ac_search.proofs.ahocorasick.AhoCorasick.try_replace_all_bytes.Goals as goal

-- the matches of a walk are in order
pub replace_all_bytes-requires : goal.replace_all_bytes-requires
replace_all_bytes-requires g c = search (rules, exchanged-in_order)
