use Rattle.ac_util.proofs.ReplacementLemmas.{text-begins, text-keeps, text-replaces}
use Rattle.ac_util.proofs.laws.answers.steps_replace.Goals as goal

pub returns-clause-whole : goal.returns-clause-whole
returns-clause-whole c = λ haystack texts ms s t. text-replaces _ haystack texts ms s t

pub returns-clause-begun : goal.returns-clause-begun
returns-clause-begun c = λ haystack texts ms s t end. text-begins _ haystack texts ms s t end

pub returns-clause-kept : goal.returns-clause-kept
returns-clause-kept c = λ haystack texts ms s t end. text-keeps _ haystack texts ms s t end
