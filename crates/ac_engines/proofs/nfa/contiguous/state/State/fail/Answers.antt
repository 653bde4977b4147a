use Rattle.ac_engines.proofs.PackedWords.{has-failure}
use Rattle.ac_engines.proofs.nfa.contiguous.state.State.fail.Goals as goal

-- the failure target is the second word
pub bounds-self-1 : goal.bounds-self-1
bounds-self-1 c =
    let (format, classes, s, begins, any) = c.requires in
    (has-failure c.args.self.words.now classes s format begins).within

pub returns : goal.returns
returns c = λ format classes s h. (has-failure c.args.self.words.now classes s format h).failure
