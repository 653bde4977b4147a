use Rattle.ac_util.proofs.Prelude.{rules}
use Rattle.ac_engines.proofs.Follow.{stands-within}
use Rattle.ac_engines.proofs.nfa.contiguous.NFA.state.Goals as goal

-- the number of a state is a place in the words
pub at-requires : goal.at-requires
at-requires g c =
    let (anchored, (u, stands)) = c.requires in search (rules, stands-within c.args.self.now anchored c.args.sid u stands)
