use Rattle.ac_util.proofs.Prelude.{rules, length-map}
use Rattle.ac_engines.proofs.PushingClasses.{class_words-one}
use Rattle.ac_engines.proofs.nfa.contiguous.state_fields.class_word.Goals as goal

-- the word has the first class in its low byte
pub returns : goal.returns
returns c = search (rules, class_words-one, length-map)
