-- The two chains give the plain bytes of both patterns, which the call compares.
use Rattle.ac_util.proofs.Prelude.{◌≡◌, true, rules, ap, refl, ◌∙◌, nat_cmp}
use Rattle.ac_automaton.specs.Prelude.{plain_byte}
use Rattle.std.proofs.lemmas.Iterator.{YieldsList-from_slice, YieldsList-from_map}
use Rattle.std.specs.Iterator.Adapters.{map_callee}
use Rattle.std.proofs.lemmas.Iterator.Search.{cmp_from_yields_List}
use Rattle.ac_automaton.proofs.nfa.noncontiguous.sorted.compare_letters.Goals as goal

pub returns : goal.returns
returns c =
    cmp_from_yields_List (λ x y. y ≡ x) _ nat_cmp _ c.cmp.ensures.ran
    (YieldsList-from_map _ (plain_byte true)
    (YieldsList-from_slice c.args.a.now (cc)) c.map.ensures.closure
    (λ x r q k. search rules))
    (λ it e. YieldsList-from_map _ (plain_byte true) (YieldsList-from_slice c.args.b.now (cc))
    (ap map_callee e ∙ c.map-2.ensures.closure) (λ x r q k. search rules))
    (λ x y. refl)
