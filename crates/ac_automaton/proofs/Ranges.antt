-- The patterns that begin with one string stand side by side: first those that are the string, then a run for
-- each next byte.
use Rattle.ac_util.proofs.Prelude.{◌≡◌, ◌≢◌, ℕ, suc, ◌+◌, ◌-◌, ◌<◌, ◌≤◌, true, List, [], ◌∷◌, ◌++◌, length, inl, inr, refl, ap, sym, ◌∙◌, arith, Option, Some, None, get_or, nat_eq, slice_get, slice_range, rules, starts_with, nat_cmp, ordering_reverse, cases_lt, length-map, slice_get-map, slice_get-get_or, common_steps}
use Rattle.ac_automaton.specs.Prelude.{equal_to, is_node, MatchKind, participants, pattern_of, byte_at, IsOrder, IsRangeOf, key_at, Keyed, numbers}
use Rattle.std.specs.Cmp.Lexicographic.{slice_cmp, nat_list_cmp_total}
use Rattle.std.specs.declared.cmp.Ordering.TheVariants.{Less, Greater}
use Rattle.std.proofs.lemmas.Slice.Eq.{bytes_eq-Decides}
use Rattle.ac_util.proofs.Prefixes.{starts_with-itself, starts_with-front, list_any-from_IsIn}
use Rattle.ac_util.proofs.LimitLemmas.{All-slice_get}
use Rattle.ac_util.proofs.Lists.{IsIn, IsIn-filter, IsIn-from_filter, IsOrdered, IsOrdered-unique, Contains-from_IsIn, IsIn-from_Contains, nil-from_none, none-from_nil}
use Rattle.ac_util.proofs.NodeCount.{any_passes}
use Rattle.ac_util.proofs.Participants.{equal_to-ordered}
use Rattle.ac_automaton.proofs.Prefixes.{ended, starts_with-ended, starts_with-last, starts_with-push}
use Rattle.ac_automaton.proofs.Orders.{rank, byte_at-ascends}
use Rattle.ac_automaton.proofs.Places.{get-same, get-range, get-from_range, place-of, IsIn-place, IsOrdered-places}

-- no string is less than itself
not-less : (u : List ℕ) → slice_cmp nat_cmp u u ≡ Less → ⊥
not-less u e =
    let flip : Less ≡ Greater = sym e ∙ nat_list_cmp_total.antisymm u u ∙ ap ordering_reverse e in absurd (cc)

-- the pattern at a place, and its number in the list of the numbers
abbrev pub pattern_at : List Keyed → ℕ → Keyed
pattern_at sorted k = get_or sorted k (record { key = []; number = 0 })

-- the list of the numbers has it at the same place
number-at : (sorted : List Keyed) (k : ℕ) → k < length sorted
    → slice_get (numbers sorted) k ≡ Some (pattern_at sorted k).number
number-at sorted k within = search (rules, slice_get-get_or, slice_get-map)

-- what the rank of a byte says of it
rank-None : (r : Option ℕ) → rank r ≤ 0 → r ≡ None
rank-None None l = refl
rank-None (Some b) l = absurd (omega arith)

-- or of its being there
rank-Some : (r : Option ℕ) (b : ℕ) → rank r ≡ suc b → r ≡ Some b
rank-Some None b e = absurd (omega arith)
rank-Some (Some x) b e = ap (λ (z : ℕ). Some z) (let same : x ≡ b = omega arith in same)

module _ (kind : MatchKind) (patterns : List (List ℕ)) (sorted : List Keyed)
    (order : IsOrder kind patterns sorted) where
  -- what stands at a place: a pattern that takes part, by its number and its bytes
  pub record Stands (k n : ℕ) : Type 0 where
    pub within : k < length sorted
    pub number : slice_get (numbers sorted) k ≡ Some n
    pub key : key_at sorted k ≡ pattern_of patterns n
    pub takes_part : IsIn n (participants kind patterns)

  -- each place has such a pattern
  pub at-place : (k : ℕ) → k < length sorted → Stands k (pattern_at sorted k).number
  at-place k within =
      grind (
        arith,
        common_steps,
        slice_get-get_or,
        number-at sorted k within,
        All-slice_get,
        IsIn-from_Contains (pattern_at sorted k).number (participants kind patterns) ((order.lists (pattern_at sorted k).number).0 (Contains-from_IsIn
            (pattern_at sorted k).number (numbers sorted) (IsIn-place (pattern_at sorted k).number (numbers sorted) k (number-at sorted k within)))),
      )

  -- the pattern of a number stands somewhere
  pub record IsInRange (n : ℕ) : Type 0 where
    pub place : ℕ
    pub stands : Stands place n

  -- and each pattern that takes part has a place
  pub place-at : (n : ℕ) → IsIn n (participants kind patterns) → IsInRange n
  place-at n h =
      search (
        rules,
        Contains-from_IsIn,
        IsIn-from_Contains,
        at-place,
        get-same,
        length-map,
        place-of,
        place-of n (numbers sorted) (IsIn-from_Contains n (numbers sorted) ((order.lists n).1 (Contains-from_IsIn n (participants kind patterns) h))),
        IsIn-from_Contains n (numbers sorted) ((order.lists n).1 (Contains-from_IsIn n (participants kind patterns) h)),
        Contains-from_IsIn n (participants kind patterns) h,
      )

  -- a prefix of a pattern leads to a node
  pub pattern-node : (k : ℕ) (u : List ℕ) → k < length sorted → starts_with nat_eq (key_at sorted k) u ≡ true
      → is_node kind patterns u ≡ true
  pattern-node k u within front = grind (arith, common_steps, at-place k within, list_any-from_IsIn)

  -- and a node that isn't the start is a prefix of some pattern
  pub node-pattern : (x : ℕ) (u : List ℕ) → is_node kind patterns (x ∷ u) ≡ true
      → (k : ℕ) × (k < length sorted) × (starts_with nat_eq (key_at sorted k) (x ∷ u) ≡ true)
  node-pattern x u node = search (rules, any_passes, place-at)

  module _ (u : List ℕ) (from to : ℕ) (range : IsRangeOf sorted u from to) where
    -- each in the range begins with the string
    begins : (k : ℕ) → from ≤ k → k < to → starts_with nat_eq (key_at sorted k) u ≡ true
    begins k low high = (range.begins k (omega (arith, range.within))).0 (low, high)

    -- where one in the range has a byte after the string, all later ones have one that isn't less
    pub range-ascends : (j k : ℕ) → from ≤ j → j ≤ k → k < to
        → rank (byte_at sorted (length u) j) ≤ rank (byte_at sorted (length u) k)
    range-ascends j k low le high =
        byte_at-ascends kind patterns sorted order u j k le (omega (arith, range.within))
        (begins j low (omega arith)) (begins k (omega arith) high)

    -- a pattern that is the string has a place in the range
    record IsStringAt (n : ℕ) : Type 0 where
      place : ℕ
      stands : Stands place n
      key : key_at sorted place ≡ u
      low : from ≤ place
      high : place < to

    string-at : (n : ℕ) → IsIn n (equal_to kind patterns u) → IsStringAt n
    string-at n h = search (rules, IsIn-from_filter, bytes_eq-Decides, place-at, starts_with-itself)

    -- the patterns that are the string stand before the range
    module _ (end : ℕ) (later : from ≤ end) (within : end ≤ to)
        (ends : (k : ℕ) → from ≤ k → k < end → byte_at sorted (length u) k ≡ None)
        (other : end < to → byte_at sorted (length u) end ≢ None) where
      -- each before the end is the string
      whole : (k : ℕ) → from ≤ k → k < end → key_at sorted k ≡ u
      whole k low high = starts_with-ended (key_at sorted k) u (begins k low (omega arith)) (ends k low high)

      -- each from the end on is longer
      pub longer : (k : ℕ) → end ≤ k → k < to → byte_at sorted (length u) k ≢ None
      longer k low high none =
          let up = range-ascends end k later low high in
          let zero : rank (byte_at sorted (length u) k) ≡ 0 = ap rank none in
          other (omega arith) (rank-None (byte_at sorted (length u) end) (omega arith))

      -- each before the end is one of the patterns that are the string
      among-equal_to : (n : ℕ) → IsIn n (slice_range (numbers sorted) from end)
          → IsIn n (equal_to kind patterns u)
      among-equal_to n h = search (rules, IsIn-filter, at-place, get-from_range, get-same, place-of, whole)

      -- and each of these stands before the end
      equal_to-among : (n : ℕ) → IsIn n (equal_to kind patterns u)
          → IsIn n (slice_range (numbers sorted) from end)
      equal_to-among n h =
          let s = string-at n h in
          elim (cases_lt s.place end) [
            | inl before ↦
                IsIn-place n (slice_range (numbers sorted) from end) (s.place - from)
                (get-range (numbers sorted) from end (s.place - from) (omega (arith, s.low))
                ∙ ap (slice_get (numbers sorted))
                (let at : from + (s.place - from) ≡ s.place = omega (arith, s.low) in at) ∙ s.stands.number)
            | inr beyond ↦
                absurd
                (longer s.place beyond s.high (ap (λ (w : List ℕ). slice_get w (length u)) s.key ∙ ended u))
          ]

      -- their numbers ascend there
      among-ordered : IsOrdered (λ m n. m < n) (slice_range (numbers sorted) from end)
      among-ordered = IsOrdered-places (λ m n. m < n) (slice_range (numbers sorted) from end) (λ j k m n l e f.
          let p = get-from_range (numbers sorted) from end j m e in
          let q = get-from_range (numbers sorted) from end k n f in
          let inside = range.within in
          let first : (pattern_at sorted (from + j)).number ≡ m =
          get-same (numbers sorted) (from + j) _ m (number-at sorted (from + j) (omega (arith, p.0))) p.1 in
          let second : (pattern_at sorted (from + k)).number ≡ n =
          get-same (numbers sorted) (from + k) _ n (number-at sorted (from + k) (omega (arith, q.0))) q.1 in
          elim (order.ascending (from + j) (from + k) (record { key = []; number = 0 }) (omega arith)
          (omega (arith, q.0))) [
            | inl less ↦
                let a = whole (from + j) (omega arith) p.0 in
                let b = whole (from + k) (omega arith) q.0 in
                absurd (not-less u
                (sym (ap (λ (w : List ℕ). slice_cmp nat_cmp w (key_at sorted (from + k))) a
                ∙ ap (slice_cmp nat_cmp u) b) ∙ less))
            | inr below ↦ omega (arith, below.1)
          ])

      -- so these are the patterns that are the string
      pub range-equal_to : slice_range (numbers sorted) from end ≡ equal_to kind patterns u
      range-equal_to = search (rules, IsOrdered-unique, among-equal_to, among-ordered, equal_to-among, equal_to-ordered)

    -- the first of the range is the string exactly if some pattern that takes part is
    pub equal_to-some : from < to → byte_at sorted (length u) from ≡ None → equal_to kind patterns u ≢ []
    equal_to-some some ends none =
        search (
          rules,
          IsIn-filter,
          at-place,
          begins,
          none-from_nil,
          starts_with-ended,
          at-place from (omega (arith, range.within)),
          starts_with-ended (key_at sorted from) u (begins from (omega arith) some) ends,
          begins from (omega arith) some,
        )

    -- and where it is longer, none is
    pub equal_to-none : byte_at sorted (length u) from ≢ None → equal_to kind patterns u ≡ []
    equal_to-none goes_on = nil-from_none (equal_to kind patterns u) (λ n h.
        let s = string-at n h in
        let up = range-ascends from s.place (omega arith) s.low s.high in
        let zero : rank (byte_at sorted (length u) s.place) ≡ 0 =
        ap rank (ap (λ (w : List ℕ). slice_get w (length u)) s.key ∙ ended u) in
        goes_on (rank-None (byte_at sorted (length u) from) (omega arith)))

    -- a run of one byte is the range of the string with that byte
    module _ (place end b : ℕ) (low : from ≤ place) (some : place < end) (high : end ≤ to)
        (byte : byte_at sorted (length u) place ≡ Some b)
        (smaller : (k : ℕ) → from ≤ k → k < place → rank (byte_at sorted (length u) k) < suc b)
        (same : (k : ℕ) → place ≤ k → k < end → byte_at sorted (length u) k ≡ byte_at sorted (length u) place)
        (other : end < to → byte_at sorted (length u) end ≢ byte_at sorted (length u) place) where
      -- the byte after the run is greater
      pub next-greater : end < to → suc b < rank (byte_at sorted (length u) end)
      next-greater more = elim (cases_lt (suc b) (rank (byte_at sorted (length u) end))) [
        | inl above ↦ above
        | inr le ↦
            let up = range-ascends place end low (omega arith) more in
            let at : rank (byte_at sorted (length u) place) ≡ suc b = ap rank byte in
            absurd (other more (rank-Some (byte_at sorted (length u) end) b (omega arith) ∙ sym byte))
      ]

      -- each in the run begins with the longer string
      child-within : (k : ℕ) → place ≤ k → k < end → starts_with nat_eq (key_at sorted k) (u ++ b ∷ []) ≡ true
      child-within k a c = search (rules, begins, starts_with-push)

      -- and only these do
      child-only : (k : ℕ) → k < length sorted → starts_with nat_eq (key_at sorted k) (u ++ b ∷ []) ≡ true
          → (place ≤ k) × (k < end)
      child-only k within h =
          let there = (range.begins k within).1 (starts_with-front (key_at sorted k) u b h) in
          let r : rank (byte_at sorted (length u) k) ≡ suc b =
          ap rank (starts_with-last (key_at sorted k) u b h) in (
            elim (cases_lt k place) [
              | inl before ↦ absurd (omega (arith, smaller k there.0 before))
              | inr le ↦ le
            ],
            elim (cases_lt k end) [
              | inl before ↦ before
              | inr le ↦
                  let up = range-ascends end k (omega arith) le there.1 in
                  let above = next-greater (omega (arith, there.1)) in
                  absurd (omega arith)
            ],
          )

      -- so the run is its range
      pub run-range : IsRangeOf sorted (u ++ b ∷ []) place end
      run-range = search (rules, begins, child-only, child-within)
