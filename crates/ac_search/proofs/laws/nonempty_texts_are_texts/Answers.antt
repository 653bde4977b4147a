use Rattle.ac_search.proofs.Words.{nonempty-texts}
use Rattle.ac_search.proofs.laws.nonempty_texts_are_texts.Goals as goal

pub returns : goal.returns
returns g c = nonempty-texts c.args.searcher.now.built c.requires.texts c.requires.nonempty
