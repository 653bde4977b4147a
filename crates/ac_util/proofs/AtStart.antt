-- Where an unanchored automaton is at its start: nothing that occurs has begun before and ends there or later.
use Rattle.ac_util.proofs.Prelude.{◌≡◌, ℕ, zero, suc, ◌-◌, ◌<◌, ◌≤◌, Bool, true, false, cond, List, [], ◌∷◌, length, take, drop, inl, inr, refl, ap, sym, ◌∙◌, subst, arith, nat_eq, length-drop, Option, None, Some, rules, starts_with, cases_lt, false≢true, length-map, take_all, take-take}
use Rattle.ac_util.specs.Prelude.{from, is_node, IsPick, MatchKind, No, Occurrence, Occurs, participates, pattern_of, pick, plain, plain_patterns, reached, Search, text}
use Rattle.ac_util.proofs.Participants.{is_node-participant}
use Rattle.ac_util.proofs.Picks.{pick-IsPick, pick-from_IsPick}
use Rattle.ac_util.proofs.Prefixes.{front-is, starts_with-take}
use Rattle.ac_util.proofs.Reached.{reached-cons}
use Rattle.ac_util.proofs.Spans.{part, pattern_length, Stands-from_Occurs, text_length}

module _ (kind : MatchKind) (patterns : List (List ℕ)) where
  -- the same, by recursion on what was read
  rest-no_node : (x : ℕ) (w : List ℕ) (t s : Bool) → is_node kind patterns (x ∷ w) ≡ t
      → cond t (Some (x ∷ w)) (cond s None (reached kind patterns No w)) ≡ Some []
      → (reached kind patterns No w ≡ Some [] → (j : ℕ) → j < length w → is_node kind patterns (drop j w) ≡ false)
      → (k : ℕ) → k < length (x ∷ w) → is_node kind patterns (drop k (x ∷ w)) ≡ false
  rest-no_node x w true s is e on k within = absurd (cc)
  rest-no_node x w false true is e on k within = absurd (cc)
  rest-no_node x w false false is e on zero within = is
  rest-no_node x w false false is e on (suc k) within = on e k (omega arith)

  -- no suffix of what was read leads to a node but the empty one
  pub no-node : (w : List ℕ) → reached kind patterns No w ≡ Some [] → (k : ℕ) → k < length w
      → is_node kind patterns (drop k w) ≡ false
  no-node [] e k within = absurd (omega arith)
  no-node (x ∷ w) e k within =
      rest-no_node x w (is_node kind patterns (x ∷ w)) _ refl (sym (reached-cons kind patterns x w) ∙ e)
      (λ f j h. no-node w f j h) k within

-- an unanchored search, and a place of its span to which its automaton has read, and is at its start
module _ (kind : MatchKind) (q : Search) (free : q.anchored ≡ No) (place : ℕ) (ordered : q.low ≤ place)
    (within : place ≤ q.high) (inside : q.high ≤ length q.haystack)
    (all : (n : ℕ) → n < length q.patterns → participates kind (plain_patterns q) n ≡ true)
    (at_start : reached kind (plain_patterns q) No (text (record q { high = place })) ≡ Some []) where
  -- the search as far as the place
  abbrev read : Search
  read = record q { high = place }

  -- what was read of an occurrence that began before is a prefix of its pattern
  front : (m : Occurrence) → Occurs q m → m.start < place → place ≤ m.end
      → starts_with nat_eq (pattern_of (plain_patterns q) m.pattern) (drop (m.start - q.low) (text read)) ≡ true
  front m o begun ends =
      let k = m.start - q.low in
      let n = place - m.start in
      let low = o.from_low in
      let high = o.to_high in
      let long = o.as_long in
      let up : q.low ≤ q.high = omega arith in
      let up_to : place ≤ length q.haystack = omega arith in
      let pattern = pattern_of (plain_patterns q) m.pattern in
      let as_long = pattern_length q up inside m.pattern in
      let stands = Stands-from_Occurs q up inside m o in
      let has_read = text_length read ordered up_to in
      let dropped = length-drop k (text read) in
      let all_of = take_all n (drop k (text read)) (omega (arith, dropped, has_read)) in
      let same = sym all_of ∙ part read ordered up_to k n (omega arith) ∙ sym (part q up inside k n (omega arith)) in
      let whole = front-is (drop k (text q)) pattern stands.prefixes.front in
      let cut : take n (drop k (text q)) ≡ take n pattern =
      sym (take-take n (length pattern) (drop k (text q)) (omega (arith, as_long))) ∙ ap (take n) whole in
      subst (λ u. starts_with nat_eq pattern u ≡ true) (sym (same ∙ cut)) (starts_with-take n pattern)

  -- so none goes on
  none-across : (m : Occurrence) → Occurs q m → m.start < place → m.end < place
  none-across m o begun = elim (cases_lt m.end place) [
    | inl before ↦ before
    | inr ends ↦
        let k = m.start - q.low in
        let low = o.from_low in
        let has_read = text_length read ordered (omega (arith, within, inside)) in
        let numbered : m.pattern < length (plain_patterns q) =
        subst (λ n. m.pattern < n) (sym (length-map q.patterns (plain q.ignores_case))) o.numbered in
        let node = is_node-participant kind (plain_patterns q) m.pattern (drop k (text read)) numbered
        (all m.pattern o.numbered) (front m o begun ends) in
        absurd (false≢true (sym (no-node kind (plain_patterns q) (text read) at_start k (omega (arith, has_read, low, begun)))
        ∙ node))
  ]

  -- what ends no later occurs in what was read
  has-read : (m : Occurrence) → Occurs q m → m.end ≤ place → Occurs read m
  has-read m o ends = search rules

  module _ (nothing : (m : Occurrence) → ¬ Occurs read m) where
    -- what occurs does so in the rest of the span
    later : (m : Occurrence) → Occurs q m → Occurs (from q place) m
    later m o = search (rules, cases_lt, has-read, none-across)

    -- and the other way round
    earlier : (m : Occurrence) → Occurs (from q place) m → Occurs q m
    earlier m o = search rules

    is_pick : (order : MatchKind) (r : Option Occurrence) → IsPick order (from q place) r → IsPick order q r
    is_pick order None h = λ o occurs. h o (later o occurs)
    is_pick order (Some m) h = (earlier m h.0, λ o occurs. h.1 o (later o occurs))

    -- so what is picked in the rest of the span is picked
    pub pick-rest : (order : MatchKind) → pick order (from q place) ≡ pick order q
    pick-rest order = search (rules, is_pick, pick-IsPick, pick-from_IsPick)
