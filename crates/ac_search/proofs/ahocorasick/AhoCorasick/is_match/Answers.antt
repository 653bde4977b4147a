use Rattle.ac_util.proofs.Prelude.{rules}
use Rattle.ac_search.proofs.SomeMatch.{some-match}
use Rattle.ac_search.proofs.ahocorasick.AhoCorasick.is_match.Goals as goal

-- with `earliest` a find answers what Standard picks, which is something exactly if something occurs
pub returns : goal.returns
returns g c = search (rules, some-match)
