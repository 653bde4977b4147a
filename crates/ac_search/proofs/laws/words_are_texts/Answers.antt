-- What is ASCII is a text.
use Rattle.ac_search.proofs.Words.{texts-from_words}
use Rattle.ac_search.proofs.laws.words_are_texts.Goals as goal

pub returns : goal.returns
returns g c = texts-from_words _ c.requires
