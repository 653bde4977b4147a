use Rattle.ac_util.proofs.Prelude.{ap, sym, ◌∙◌, subst}
use Rattle.ac_automaton.specs.Prelude.{AreLinks, chains_of}
use Rattle.ac_automaton.proofs.Chains.{no-chains, no-links}
use Rattle.ac_automaton.proofs.automaton.commits.Chains.new.Goals as goal

pub invariant_of-result : goal.invariant_of-result
invariant_of-result g c = subst AreLinks (sym c.new.ensures.items) no-links

pub returns : goal.returns
returns g c = ap chains_of c.new.ensures.items ∙ no-chains
