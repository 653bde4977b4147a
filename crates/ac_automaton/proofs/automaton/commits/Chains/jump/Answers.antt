use Rattle.ac_util.proofs.Prelude.{arith}
use Rattle.ac_automaton.proofs.Chains.{IsLast, link-read}
use Rattle.ac_automaton.proofs.automaton.commits.Chains.jump.Given.{Over}
use Rattle.ac_automaton.proofs.automaton.commits.Chains.jump.Goals as goal
use Rattle.ac_automaton.proofs.automaton.commits.Chains.jump.Goals.{After-index}

-- the link that was read
last : (g : Over) (c : After-index g) → IsLast c.args.self.now c.args.chain c.index.result.now
last g c = link-read c.self.invariant c.self.view_is c.if-chain-eq0.false c.requires.chained c.index.ensures

pub returns-clause-front : goal.returns-clause-front
returns-clause-front g c = (last g c).skips

pub returns-clause-back : goal.returns-clause-back
returns-clause-back g c = (let l = last g c in omega (arith, l.jump))
