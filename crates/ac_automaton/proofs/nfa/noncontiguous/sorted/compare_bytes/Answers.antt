-- Where case counts, the plain bytes are the bytes.
use Rattle.ac_util.proofs.Prelude.{◌∙◌, sym, nat_cmp, map-id}
use Rattle.std.specs.Cmp.Lexicographic.{slice_cmp}
use Rattle.ac_automaton.proofs.nfa.noncontiguous.sorted.compare_bytes.Goals as goal

pub returns : goal.returns
returns c = c.cmp.ensures ∙ (λ i. slice_cmp nat_cmp (sym (map-id c.args.a.now) i) (sym (map-id c.args.b.now) i))
