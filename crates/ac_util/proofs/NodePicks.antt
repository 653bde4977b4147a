-- What is picked in the string of a node, and what a walk gives that stands there as it reads on.
use Rattle.ac_util.proofs.Prelude.{◌≡◌, ℕ, ◌+◌, ◌-◌, ◌<◌, true, List, [], ◌∷◌, ◌++◌, length, drop, ap, sym, ◌∙◌, arith, None, Some}
use Rattle.ac_util.specs.Prelude.{is_leftmost, matches, MatchKind, No, Node, Occurrence, pattern_of, reached, step, standing_at, IsPickIn}
use Rattle.ac_util.proofs.Advance.{head, pick-becomes, pick-stays}
use Rattle.ac_util.proofs.DeadSteps.{BeginsBefore}
use Rattle.ac_util.proofs.Found.{matches-reached}
use Rattle.ac_util.proofs.Living.{dead-begins}
use Rattle.ac_util.proofs.Participants.{begins-from_Prefixes, leader}
use Rattle.ac_util.proofs.Reached.{step-reached}
use Rattle.ac_util.proofs.Standing.{Stands-end}

module _ (kind : MatchKind) (patterns : List (List ℕ)) (leftmost : is_leftmost kind ≡ true) where
  -- where a node has matches the first is the pick, and ends with the string
  pub record EndsWithPick (u : List ℕ) (number : ℕ) : Type 0 where
    pub start : ℕ
    pub whole : start + length (pattern_of patterns number) ≡ length u
    pub picked : IsPickIn kind patterns No u (Some (standing_at patterns number start))

  pub match-picked : (u : List ℕ) (i : ℕ) (rest : List ℕ) → matches kind patterns No (Some u) ≡ i ∷ rest → EndsWithPick u i
  match-picked u i rest e =
      let h = head kind patterns No u i rest e in
      record { start = h.0; whole = h.1.whole; picked = pick-becomes kind patterns No u i h.0 leftmost h.1 }

  -- a node from which a byte leads to the dead one has a pick
  pub dead-has_pick : (u : List ℕ) (b : ℕ) → reached kind patterns No u ≡ Some u
      → step kind patterns No (Some u) b ≡ None → IsPickIn kind patterns No u None → ⊥
  dead-has_pick u b stands dead none =
      let gone : reached kind patterns No (u ++ b ∷ []) ≡ None =
      sym (step-reached kind patterns No u b) ∙ ap (λ (n : Node). step kind patterns No n b) stands ∙ dead in
      let nothing = sym (matches-reached kind patterns No (u ++ b ∷ [])) ∙ ap (matches kind patterns No) gone in
      let still = pick-stays kind patterns No u b None nothing none in
      let begun = dead-begins kind patterns (u ++ b ∷ []) gone in
      let first = leader patterns (drop begun.place (u ++ b ∷ [])) begun.begins in
      still first.0 begun.place (record { within = begun.within; prefixes = first.1.prefixes; at_front = λ e. absurd (cc) })

  -- a pattern begins where the pick does, before what follows the pick
  pub pick-before : (u : List ℕ) (m : Occurrence) → IsPickIn kind patterns No u (Some m) → m.start < m.end
      → BeginsBefore patterns u (length u - m.end)
  pick-before u m picked some = record {
    place = m.start;
    early = (let ends = Stands-end patterns No u m.pattern m.start picked.stands in let long = picked.as_long in omega arith);
    begins = begins-from_Prefixes patterns (drop m.start u) m.pattern picked.stands.prefixes;
  }
