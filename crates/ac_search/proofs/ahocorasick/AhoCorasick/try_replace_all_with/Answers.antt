use Rattle.ac_util.proofs.Prelude.{length, rules}
use Rattle.ac_util.proofs.Exchanges.{exchanged-in_order}
use Rattle.ac_search.proofs.ahocorasick.AhoCorasick.try_replace_all_with.Goals as goal

-- the matches of a walk are in order
pub replace_all_with-requires-clause-in_order : goal.replace_all_with-requires-clause-in_order
replace_all_with-requires-clause-in_order g c = (length c.args.self.now.built.patterns, search (rules, exchanged-in_order))
