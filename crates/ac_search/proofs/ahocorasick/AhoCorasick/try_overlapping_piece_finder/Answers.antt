use Rattle.ac_util.proofs.Prelude.{◌≡◌, None, arith, subst, common_steps}
use Rattle.ac_search.specs.Prelude.{No, start_refusal, piece_listing_refusal, nothing_listed, built_of}
use Rattle.ac_automaton.specs.Util.{Built}
use Rattle.ac_search.proofs.Served.{piece-listing-served}
use Rattle.ac_search.proofs.ahocorasick.AhoCorasick.try_overlapping_piece_finder.Goals.{in-Noncontiguous+in_ok-new-in-Noncontiguous, in-Contiguous+in_ok-new-in-Contiguous, in-Dfa+in_ok-new-in-Dfa}
use Rattle.ac_search.proofs.ahocorasick.AhoCorasick.try_overlapping_piece_finder.Goals as goal

-- the engine has the start, so it serves the listing of pieces as its searcher
pub returns : goal.returns
returns g c = elim c.match-self.branch [
  | in-Noncontiguous+in_ok-new-in-Noncontiguous w ↦ grind (arith, common_steps, piece-listing-served)
  | in-Contiguous+in_ok-new-in-Contiguous w ↦
      let finder = w.in_ok-new-in-Contiguous.field-0 in
      let begun = w.in_ok-new-in-Contiguous.ensures in
      let same : w.in-Contiguous.engine.value.built ≡ built_of c.self.inside.engine = grind (arith, common_steps) in
      let free : start_refusal c.self.inside.start_kind No ≡ None = grind (arith, common_steps) in
      let served = piece-listing-served (built_of c.self.inside.engine) c.self.inside.start_kind c.self.invariant free finder
      (subst (λ (b : Built). piece_listing_refusal b ≡ None) same begun.0)
      (subst (λ (b : Built). finder ≡ nothing_listed b) same begun.1) in
      grind (arith, common_steps, served)
  | in-Dfa+in_ok-new-in-Dfa w ↦
      let finder = w.in_ok-new-in-Dfa.field-0 in
      let begun = w.in_ok-new-in-Dfa.ensures in
      let same : w.in-Dfa.engine.value.built ≡ built_of c.self.inside.engine = grind (arith, common_steps) in
      let free : start_refusal c.self.inside.start_kind No ≡ None = grind (arith, common_steps) in
      let served = piece-listing-served (built_of c.self.inside.engine) c.self.inside.start_kind c.self.invariant free finder
      (subst (λ (b : Built). piece_listing_refusal b ≡ None) same begun.0)
      (subst (λ (b : Built). finder ≡ nothing_listed b) same begun.1) in
      grind (arith, common_steps, served)
]
