use Rattle.ac_util.proofs.Prelude.{length, ap, sym}
use Rattle.ac_automaton.proofs.Chains.{chain-none, IsLast, link-read}
use Rattle.ac_automaton.proofs.automaton.commits.Chains.count.Given.{Over}
use Rattle.ac_automaton.proofs.automaton.commits.Chains.count.Goals as goal
use Rattle.ac_automaton.proofs.automaton.commits.Chains.count.Goals.{After-index}

pub returns-then-chain-eq0-clause-value : goal.returns-then-chain-eq0-clause-value
returns-then-chain-eq0-clause-value g c = rw c.if-chain-eq0.true (sym (ap length (chain-none c.self.inside.links.items c.self.view_is)))

-- the link that was read
last : (g : Over) (c : After-index g) → IsLast c.args.self.now c.args.chain c.index.result.now
last g c = link-read c.self.invariant c.self.view_is c.if-chain-eq0.false c.requires.chained c.index.ensures

pub returns-clause-value : goal.returns-clause-value
returns-clause-value g c = (last g c).count

pub returns-clause-few : goal.returns-clause-few
returns-clause-few g c = (last g c).few
