use Rattle.ac_util.proofs.Prelude.{rules}
use Rattle.ac_c.proofs.TextLemmas.{count-texts}
use Rattle.ac_c.proofs.replacer.begin.Goals as goal

-- there are as many texts as ends, and so as patterns
pub try_piece_replacer-requires : goal.try_piece_replacer-requires
try_piece_replacer-requires c = search (rules, count-texts)
