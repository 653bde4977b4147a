-- The start of a trie: all patterns begin with the empty string.
use Rattle.ac_util.proofs.Prelude.{◌≡◌, ◌≢◌, ℕ, ◌<◌, ◌≤◌, Bool, true, false, ◌&&◌, List, [], ◌∷◌, length, inl, inr, refl, ap, ◌∙◌, arith, Some, None, bytes_eq, slice_get, rules, cases_Bool, cases_lt, cond-true, cond-false, false_from_ne_true, common_steps}
use Rattle.ac_automaton.specs.Prelude.{begins_with_pattern, equal_to, is_leftmost, MatchKind, participants, pattern_of, ANCHORED_START, byte_at, DEAD, IsOrder, IsRangeOf, Keyed, fallback, QueuedState, START, Waits}
use Rattle.ac_util.proofs.Prefixes.{starts_with-length}
use Rattle.ac_util.proofs.Lists.{IsIn-from_filter, nil-from_none, none-from_nil}
use Rattle.ac_util.proofs.Participants.{IsIn-equal_to, equal_to-none_begins, leader, leader-takes_part}
use Rattle.ac_automaton.proofs.Ranges.{equal_to-some, equal_to-none, place-at}

-- a string without bytes is empty
no-bytes : (w : List ℕ) → length w ≤ 0 → w ≡ []
no-bytes [] l = refl
no-bytes (x ∷ w) l = absurd (omega arith)

module _ (kind : MatchKind) (patterns : List (List ℕ)) (sorted : List Keyed)
    (order : IsOrder kind patterns sorted) where
  -- all patterns begin with the empty string
  all-range : IsRangeOf sorted [] 0 (length sorted)
  all-range = grind (arith, common_steps)

  -- a pattern that is empty and takes part is there exactly if some pattern is empty
  begins-some : begins_with_pattern patterns [] ≡ true → equal_to kind patterns [] ≢ []
  begins-some h none =
      let l = leader patterns [] h in
      none-from_nil l.0 (equal_to kind patterns []) none
      (IsIn-equal_to kind patterns [] l.0 (record {
        numbered = l.1.prefixes.numbered;
        takes_part = leader-takes_part patterns kind [] l.0 l.1;
        same = no-bytes (pattern_of patterns l.0)
            (starts_with-length [] (pattern_of patterns l.0) l.1.prefixes.front);
      }))

  -- where some pattern is empty, the empty string begins with a pattern
  some-begins : equal_to kind patterns [] ≢ [] → begins_with_pattern patterns [] ≡ true
  some-begins some = search (rules, cases_Bool, equal_to-none_begins)

  -- under a leftmost kind an empty pattern lets no match start later
  fallback-dead : is_leftmost kind ≡ true → 0 < length sorted → byte_at sorted 0 0 ≡ None
      → fallback kind patterns (Some []) ≡ None
  fallback-dead leftmost some ends =
      let begins =
      some-begins (equal_to-some kind patterns sorted order [] 0 (length sorted) all-range some ends) in
      cond-true (is_leftmost kind && begins_with_pattern patterns []) None (Some [])
      (ap (λ (t : Bool). t && begins_with_pattern patterns []) leftmost ∙ begins)

  -- and where the first pattern has a byte, it does not
  none-begins : (0 < length sorted → byte_at sorted 0 0 ≢ None) → begins_with_pattern patterns [] ≡ false
  none-begins goes_on = false_from_ne_true _ (λ t. begins-some t (elim (cases_lt 0 (length sorted)) [
    | inl some ↦ equal_to-none kind patterns sorted order [] 0 (length sorted) all-range (goes_on some)
    | inr none ↦ nil-from_none (equal_to kind patterns []) (λ n h.
        let s =
        place-at kind patterns sorted order n
        (IsIn-from_filter (λ m. bytes_eq (pattern_of patterns m) []) n (participants kind patterns) h).0 in
        absurd (omega (arith, s.stands.within)))
  ]))

  -- then a search stays at the start
  fallback-stays : (is_leftmost kind ≡ true → 0 < length sorted → byte_at sorted 0 0 ≢ None)
      → fallback kind patterns (Some []) ≡ Some []
  fallback-stays goes_on = search (rules, cases_Bool, cond-false, none-begins)

  -- the start as it waits for its children
  abbrev pub queued_start : ℕ → QueuedState
  queued_start fail = record { from = 0; to = length sorted; depth = 0; fail = fail }

  -- the start waits with a failure target that stands for where it goes on
  waits : (fail : ℕ) → slice_get (None ∷ None ∷ Some [] ∷ Some [] ∷ []) fail ≡ Some
      (fallback kind patterns (Some []))
      → fail ≢ ANCHORED_START → Waits kind patterns sorted [] START (queued_start fail)
  waits fail e unanchored = grind (arith, common_steps)

  -- with an empty pattern a leftmost search ends there
  pub waits-dead : is_leftmost kind ≡ true → 0 < length sorted → byte_at sorted 0 0 ≡ None
      → Waits kind patterns sorted [] START (queued_start DEAD)
  waits-dead leftmost some ends = search (rules, fallback-dead, waits)

  -- and else it stays there
  pub waits-start : (is_leftmost kind ≡ true → 0 < length sorted → byte_at sorted 0 0 ≢ None)
      → Waits kind patterns sorted [] START (queued_start START)
  waits-start goes_on = search (rules, fallback-stays, waits)
