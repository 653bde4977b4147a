-- Pushing the words of one state after another.
use Rattle.ac_util.proofs.Prelude.{◌≡◌, ◌≢◌, ℕ, ◌+◌, ◌<◌, ◌≤◌, Bool, true, false, List, ◌++◌, length, inl, inr, refl, ap, sym, subst, ◌∙◌, arith, Some, slice_get, rules, cases_lt, append_assoc, append-nil, length-append}
use Rattle.ac_engines.specs.Prelude.{alphabet_len, Node, AreReady, before, format_for, has_matches, HasPushedUpTo, Packer, size_at, size_of, packed_state, state_words}
use Rattle.ac_automaton.proofs.Places.{get-same}
use Rattle.ac_engines.proofs.PackedSums.{total-grows}
use Rattle.ac_engines.proofs.PlanSums.{before-starts, takes}
use Rattle.ac_engines.proofs.PushedStates.{begins-before, begins-after, length-format_words}
use Rattle.ac_engines.proofs.PackedForms.{state-spells}
use Rattle.ac_engines.proofs.PackedNodes.{edges-count, matches-packed_at}

module _ (f : Packer) (nodes : List Node) where
  -- none was pushed at first
  pub pushed-none : (front : Bool) (words : List ℕ) → HasPushedUpTo f nodes front 2 words words
  pushed-none front words = search (rules, append-nil, before-starts)

  module _ (ready : AreReady f nodes) (front : Bool) (s : ℕ) (u : Node) (reached : 2 ≤ s)
      (named : slice_get nodes s ≡ Some u) where
    -- a state takes as many words as its node
    length-state_words : length (state_words f nodes s u) ≡ size_of f.plan nodes u
    length-state_words = search (rules, edges-count, length-format_words, matches-packed_at, state-spells)

    -- one that is asked for takes up its words
    grows-asked : (wanted : Bool) → has_matches f.plan nodes u ≡ wanted
        → before f.plan nodes wanted (s + 1) ≡ before f.plan nodes wanted s + size_of f.plan nodes u
    grows-asked true input = (takes f.plan nodes s u reached named true _ (sym input) refl).front
    grows-asked false input = (takes f.plan nodes s u reached named false _ (sym input) refl).back

    -- and another one none
    stays-other : (wanted t : Bool) → has_matches f.plan nodes u ≡ t → t ≢ wanted
        → before f.plan nodes wanted (s + 1) ≡ before f.plan nodes wanted s
    stays-other true true is other = absurd (other refl)
    stays-other true false is other = search (rules, takes f.plan nodes s u reached named false _ (sym is) refl)
    stays-other false true is other = search (rules, takes f.plan nodes s u reached named true _ (sym is) refl)
    stays-other false false is other = absurd (other refl)

    module _ (old words : List ℕ) (h : HasPushedUpTo f nodes front s old words) where
      -- one that isn't asked for is passed over
      pub passed-over : has_matches f.plan nodes u ≢ front → HasPushedUpTo f nodes front (s + 1) old words
      passed-over other = record {
        pushed = h.pushed;
        same = h.same;
        long =
            let next = stays-other front (has_matches f.plan nodes u) refl other in
            let long = h.long in
            omega arith;
        each = λ t v from less is input. h.each t v from (earlier t v less is input) is input;
      }
        where
          earlier : (t : ℕ) (v : Node) → t < s + 1 → slice_get nodes t ≡ Some v → has_matches f.plan nodes v ≡ front
              → t < s
          earlier t v less is input = search (rules, cases_lt, get-same)

      -- one that is asked for is pushed
      pub pushed-next : (new : List ℕ) → has_matches f.plan nodes u ≡ front → new ≡ words ++ state_words f nodes s u
          → HasPushedUpTo f nodes front (s + 1) old new
      pushed-next new input now = record {
        pushed = h.pushed ++ state_words f nodes s u;
        same = now ∙ ap (λ (ws : List ℕ). ws ++ state_words f nodes s u) h.same
            ∙ append_assoc old h.pushed (state_words f nodes s u);
        long =
            let next = grows-asked front input in
            let long = h.long in
            let both = ap (λ (ws : List ℕ). length ws) now ∙ length-append words (state_words f nodes s u) in
            let last = length-state_words in
            omega arith;
        each = λ t v from within is has. elim (cases_lt t s) [
          | inl less ↦
              let most = total-grows (size_at f.plan nodes front) t s (omega arith) in
              let long = h.long in
              rw now (begins-before (format_for f.plan v) (alphabet_len f.plan.classes)
              (packed_state f nodes t v) words (state_words f nodes s u)
              (length old + before f.plan nodes front t) (omega arith) (h.each t v from less is has))
          | inr more ↦
              let at : t ≡ s = omega arith in
              let same : u ≡ v = get-same nodes s u v named (subst (λ n. slice_get nodes n ≡ Some v) at is) in
              let spells = state-spells f nodes ready s u reached named in
              rw (at, sym same, sym h.long)
              (begins-after (format_for f.plan u) (alphabet_len f.plan.classes)
              (packed_state f nodes s u) words new now spells.fits spells.few spells.below spells.ascending
              spells.few_matches spells.numbers)
        ];
      }
