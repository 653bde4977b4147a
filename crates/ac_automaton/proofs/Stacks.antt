-- The stack of the kept prefixes of a pattern, as all patterns are gone through in order.
use Rattle.ac_util.proofs.Prelude.{◌≡◌, ◌≢◌, ℕ, ◌+◌, ◌-◌, ◌<◌, ◌≤◌, true, false, List, [], ◌∷◌, ◌++◌, length, take, get_or, ◌⊎◌, inl, inr, refl, ap, sym, ◌∙◌, subst, arith, length-take, nat_eq, AllPairs, rules, range_with_len, starts_with, is_gt, is_lt, nat_cmp, cases_lt, false≢true, not_from_true, get_or-take, All-contains, common_steps}
use Rattle.ac_automaton.specs.Prelude.{Prefixes, LeftmostFirst, participants, participates, pattern_of, Standard, Keyed, Precedes, IsOrder, key_at, numbers}
use Rattle.std.specs.Cmp.Lexicographic.{slice_cmp}
use Rattle.std.proofs.lemmas.Cmp.{nat_list_cmp_total, tied_itself}
use Rattle.std.proofs.lemmas.List.Quantifiers.{all_pairs_push}
use Rattle.ac_util.proofs.Lists.{IsIn, IsIn-at, IsIn-map, IsIn-from_map, IsIn-filter, IsIn-from_filter, IsIn-range, IsIn-from_range, IsIn-append_cases, IsIn-append_left, IsIn-append_right, Contains-from_IsIn, IsIn-from_Contains}
use Rattle.ac_util.proofs.Prefixes.{starts_with-itself}
use Rattle.ac_util.proofs.Participants.{IsLeader, begins-before, begins-from_Prefixes, leader, leader-least, leader-takes_part}
use Rattle.ac_automaton.proofs.Places.{place-of, place-read, place-take, read-place, IsIn-take, IsIn-from_take}
use Rattle.ac_automaton.proofs.Prefixes.{front-between, front-no_less}

-- what comes before isn't greater
no_greater-from_Precedes : (a b : Keyed) → Precedes a b → is_gt (slice_cmp nat_cmp a.key b.key) ≡ false
no_greater-from_Precedes a b (inl less) = ap is_gt less
no_greater-from_Precedes a b (inr same) = search (rules, nat_list_cmp_total, tied_itself)

-- what is read past the end
abbrev pub none : Keyed
none = record { key = []; number = 0 }

-- at a place of all patterns, the stack has those before it that take part and are prefixes of a later one
pub record Standing (patterns : List (List ℕ)) (all : List Keyed) (at : ℕ) (stack : List Keyed) : Type 0 where
  pub falling : AllPairs (λ a b. b.number < a.number) stack
  pub before : (m : Keyed) → IsIn m stack → IsIn m (take at all)
  pub stands : (m : Keyed) → IsIn m (take at all) → participates LeftmostFirst patterns m.number ≡ true
      → (j : ℕ) → at ≤ j → j < length all → starts_with nat_eq (key_at all j) m.key ≡ true → IsIn m stack

module _ (patterns : List (List ℕ)) (all : List Keyed) (order : IsOrder Standard patterns all) where
  -- a pattern is the pattern of its number
  pub named : (m : Keyed) → IsIn m all → m.key ≡ pattern_of patterns m.number
  named m h = search (rules, All-contains, Contains-from_IsIn)

  -- a pattern's number is one of a pattern
  pub numbered : (m : Keyed) → IsIn m all → m.number < length patterns
  numbered m h =
      let c =
      (order.lists m.number).0 (Contains-from_IsIn m.number (numbers all) (IsIn-map (λ k. k.number) m all h)) in
      let f = IsIn-from_filter (participates Standard patterns) m.number (range_with_len 0 (length patterns))
      (IsIn-from_Contains m.number (participants Standard patterns) c) in
      omega (arith, IsIn-from_range m.number 0 (length patterns) f.0)

  -- each pattern is a pattern
  pub sorted_of : (n : ℕ) → n < length patterns → (m : Keyed) × IsIn m all × (m.number ≡ n)
  sorted_of n within =
      let c = (order.lists n).1 (Contains-from_IsIn n (participants Standard patterns)
      (IsIn-filter (participates Standard patterns) n (range_with_len 0 (length patterns))
      (IsIn-range n 0 (length patterns) (omega arith) (omega arith)) refl)) in
      IsIn-from_map (λ k. k.number) n all (IsIn-from_Contains n (numbers all) c)

  -- a pattern that is a prefix of another has its pattern as a prefix
  Prefixes-from_sorted : (w : List ℕ) (m : Keyed) → IsIn m all → starts_with nat_eq w m.key ≡ true
      → Prefixes patterns w m.number
  Prefixes-from_sorted w m h front = search (rules, named, numbered)

  -- a pattern comes before a later one
  precedes : (i j : ℕ) → i < j → j < length all → Precedes (get_or all i none) (get_or all j none)
  precedes i j below within = order.ascending i j none below within

  -- patterns at two places have two numbers
  differ : (a b : Keyed) → IsIn a all → IsIn b all → Precedes a b → a.number ≢ b.number
  differ a b h k (inl less) same =
      let keys : a.key ≡ b.key = named a h ∙ ap (pattern_of patterns) same ∙ sym (named b k) in
      let tied = ap (λ w. slice_cmp nat_cmp a.key w) (sym keys) ∙ tied_itself nat_list_cmp_total a.key in
      absurd (false≢true (ap is_lt (sym tied ∙ less)))
  differ a b h k (inr later) same = omega (arith, later.1)

  module _ (at : ℕ) (within : at < length all) where
    -- the pattern at the place
    abbrev here : Keyed
    here = get_or all at none

    -- it is one
    here-in : IsIn here all
    here-in = IsIn-at here none all at within refl

    -- a pattern before this place that is a prefix of a later one is a prefix of this one
    front-here : (m : Keyed) → IsIn m (take at all) → (j : ℕ) → at ≤ j → j < length all
        → starts_with nat_eq (key_at all j) m.key ≡ true → starts_with nat_eq here.key m.key ≡ true
    front-here m h j le below front =
        let p = place-take m at all h in
        let first = subst (λ (w : Keyed). is_gt (slice_cmp nat_cmp w.key here.key) ≡ false)
        (place-read none m all p.whole)
        (no_greater-from_Precedes (get_or all p.whole.place none) here
        (precedes p.whole.place at p.below within)) in
        elim (cases_lt at j) [
          | inl more ↦
              let second = no_greater-from_Precedes here (get_or all j none) (precedes at j more below) in
              front-between m.key here.key (key_at all j) first second front
          | inr less ↦
              let same : j ≡ at = omega arith in
              subst (λ (i : ℕ). starts_with nat_eq (key_at all i) m.key ≡ true) same front
        ]

    -- a pattern with an earlier pattern as a prefix takes no part
    pub no_part : (m : Keyed) → IsIn m all → starts_with nat_eq here.key m.key ≡ true → m.number < here.number
        → participates LeftmostFirst patterns here.number ≡ false
    no_part m h front below = search (rules, begins-before, here-in, named, not_from_true, numbered)

    module _ (stack : List Keyed) (s : Standing patterns all at stack) where
      -- those from a place of the stack on that are no prefix can go
      pub Standing-shrink : (n : ℕ)
          → ((k : ℕ) → n ≤ k → k < length stack → starts_with nat_eq here.key (key_at stack k) ≡ false)
          → Standing patterns all at (take n stack)
      Standing-shrink n gone = record {
        falling = λ i j d below more.
            let long = length-take n stack in
            let first = ap (λ (w : Keyed). w.number) (get_or-take n stack i d (omega arith)) in
            let second = ap (λ (w : Keyed). w.number) (get_or-take n stack j d (omega arith)) in
            let falls = s.falling i j d below (omega arith) in omega arith;
        before = λ m h. s.before m (IsIn-from_take m n stack h);
        stands = λ m h takes j le below front.
            let p = place-of m stack (s.stands m h takes j le below front) in
            elim (cases_lt p.place n) [
              | inl kept ↦ IsIn-take m n stack p kept
              | inr dropped ↦
                  let other = subst (λ (w : Keyed). starts_with nat_eq here.key w.key ≡ false)
                  (place-read none m stack p) (gone p.place dropped p.within) in
                  absurd (false≢true (sym other ∙ front-here m h j le below front))
            ];
      }

      -- an earlier pattern that is a prefix and takes part stands in the stack
      leader_stands : (j : ℕ) → IsLeader patterns here.key j → j < here.number
          → (m : Keyed) × IsIn m stack × (m.number ≡ j)
      leader_stands j lead below =
          let m = sorted_of j lead.prefixes.numbered in
          let front : starts_with nat_eq here.key m.0.key ≡ true =
          subst (λ (p : List ℕ). starts_with nat_eq here.key p ≡ true)
          (ap (pattern_of patterns) (sym m.2) ∙ sym (named m.0 m.1)) lead.prefixes.front in
          let p = place-of m.0 all m.1 in
          let takes =
          ap (participates LeftmostFirst patterns) m.2
          ∙ leader-takes_part patterns LeftmostFirst here.key j lead in
          elim (cases_lt p.place at) [
            | inl earlier ↦ (
              m.0,
              s.stands m.0 (IsIn-take m.0 at all p earlier) takes at (omega arith) within front,
              m.2,
            )
            | inr later ↦
                absurd (not_later m.0 p.place m.2 p.within (place-read none m.0 all p) front later)
          ]
        where
          not_later : (m : Keyed) (p : ℕ) → m.number ≡ j → p < length all → get_or all p none ≡ m
              → starts_with nat_eq here.key m.key ≡ true → at ≤ p → ⊥
          not_later m p number more is front later = elim (cases_lt at p) [
            | inl beyond ↦ elim (subst (λ (w : Keyed). Precedes here w) is (precedes at p beyond more)) [
              | inl less ↦ false≢true (sym (front-no_less m.key here.key front) ∙ ap is_lt less)
              | inr after ↦ omega (arith, after.1)
            ]
            | inr reached ↦
                let same : p ≡ at = omega arith in
                let one = ap (λ (w : Keyed). w.number) (sym is ∙ ap (λ (i : ℕ). get_or all i none) same) in
                omega arith
          ]

      -- a pattern takes part if none in the stack has a lesser number
      pub takes_part_here : ((m : Keyed) → IsIn m stack → here.number ≤ m.number)
          → participates LeftmostFirst patterns here.number ≡ true
      takes_part_here least =
          search (rules, Prefixes-from_sorted, begins-from_Prefixes, here-in, leader, leader-least, leader_stands, named, starts_with-itself)

      -- a pattern before here is among those up to here
      later-in : (m : Keyed) → IsIn m (take at all) → IsIn m (take (at + 1) all)
      later-in m h =
          let p = place-take m at all h in
          IsIn-take m (at + 1) all p.whole (omega (arith, p.below))

      -- a pattern among those up to here is before here or here
      earlier-or-here : (m : Keyed) → IsIn m (take (at + 1) all) → IsIn m (take at all) ⊎ (here ≡ m)
      earlier-or-here m h =
          let p = place-take m (at + 1) all h in
          elim (cases_lt p.whole.place at) [
            | inl earlier ↦ inl (IsIn-take m at all p.whole earlier)
            | inr reached ↦
                let same : at ≡ p.whole.place = omega (arith, p.below) in
                inr (ap (λ (i : ℕ). get_or all i none) same ∙ place-read none m all p.whole)
          ]

      -- where the pattern here takes no part the stack stays
      pub Standing-skip : participates LeftmostFirst patterns here.number ≡ false
          → Standing patterns all (at + 1) stack
      Standing-skip none_here = record {
        falling = s.falling;
        before = λ m h. later-in m (s.before m h);
        stands = λ m h takes j le below front. elim (earlier-or-here m h) [
          | inl earlier ↦ s.stands m earlier takes j (omega arith) below front
          | inr same ↦
              absurd (false≢true
              (sym none_here ∙ ap (λ (w : Keyed). participates LeftmostFirst patterns w.number) same
              ∙ takes))
        ];
      }

      -- where it takes part it goes on the stack
      pub Standing-keep : ((m : Keyed) → IsIn m stack → here.number ≤ m.number)
          → Standing patterns all (at + 1) (stack ++ here ∷ [])
      Standing-keep least = record {
        falling = all_pairs_push (λ a b. b.number < a.number) stack here s.falling (λ k d l.
            let m = get_or stack k d in
            let h : IsIn m stack = IsIn-at m d stack k l refl in
            let p = place-take m at all (s.before m h) in
            let apart = differ m here (IsIn-from_take m at all (s.before m h)) here-in
            (subst (λ (w : Keyed). Precedes w here) (place-read none m all p.whole)
            (precedes p.whole.place at p.below within)) in
            omega (arith, least m h));
        before = λ m h. elim (IsIn-append_cases m stack (here ∷ []) h) [
          | inl old ↦ later-in m (s.before m old)
          | inr last ↦ elim last [
            | inl e ↦
                subst (λ (w : Keyed). IsIn w (take (at + 1) all)) e
                (IsIn-take here (at + 1) all (read-place none all at within) (omega arith))
            | inr nothing ↦ absurd nothing
          ]
        ];
        stands = λ m h takes j le below front. elim (earlier-or-here m h) [
          | inl earlier ↦
              IsIn-append_left m stack (here ∷ []) (s.stands m earlier takes j (omega arith) below front)
          | inr same ↦ IsIn-append_right m stack (here ∷ []) (inl same)
        ];
      }

-- the last of a stack has the least number
pub least-from_last : (stack : List Keyed) (d : Keyed) (n : ℕ) → AllPairs (λ a b. b.number < a.number) stack
    → (0 < length stack → n ≤ (get_or stack (length stack - 1) d).number) → (m : Keyed) → IsIn m stack
    → n ≤ m.number
least-from_last stack d n falling last m h = grind (arith, common_steps, place-read d m stack (place-of m stack h))
