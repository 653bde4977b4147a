use Rattle.ac_util.proofs.Prelude.{rules, arith, common_steps}
use Rattle.ac_engines.specs.Prelude.{bytes_of}
use Rattle.ac_engines.proofs.PackedBuilt.{packed-built}
use Rattle.ac_engines.proofs.nfa.contiguous.builder.Builder.build.Goals as goal

-- the automaton is built by these settings
pub returns : goal.returns
returns g c = grind (arith, common_steps, packed-built c.args.self.now (bytes_of c.args.patterns.now) c.in_ok-nfa.nfa (search rules) c.build_from_noncontiguous.result c.build_from_noncontiguous.ensures)
