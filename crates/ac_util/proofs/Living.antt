-- Where a leftmost automaton is alive: its node begins no later than anything that occurs in what was read.
use Rattle.ac_util.proofs.Prelude.{◌≡◌, ◌≢◌, ℕ, zero, suc, ◌+◌, ◌-◌, ◌≤◌, Bool, true, false, cond, List, [], ◌∷◌, length, take, drop, inl, inr, refl, ap, sym, ◌∙◌, arith, None, Some, ◌&&◌, find, option_map, if◌then◌else◌, rules, and_parts, false≢true, common_steps}
use Rattle.ac_util.specs.Prelude.{begins_with_pattern, is_leftmost, is_node, least_start, longest_len, MatchKind, No, Occurrence, pick, plain_patterns, reached, Search, suffixes, text}
use Rattle.ac_util.proofs.Lists.{IsIn, IsIn-from_filter, IsIn-from_range}
use Rattle.ac_util.proofs.NodeCount.{any_passes}
use Rattle.ac_util.proofs.Participants.{begins-from_Prefixes, leader}
use Rattle.ac_util.proofs.Reached.{reached-cons, reached-nil}
use Rattle.ac_util.proofs.Shortest.{longest-most}
use Rattle.ac_util.proofs.Spans.{Stands-from_Occurs, pattern_length, pick-in_text}
use Rattle.ac_util.proofs.Walks.{pick-Occurs}

-- what is found is one of them
find-in : (f : List ℕ → Bool) (ws : List (List ℕ)) (u : List ℕ) → find f ws ≡ Some u → IsIn u ws
find-in f [] u e = absurd (cc)
find-in f (x ∷ ws) u e = by (f x) e (λ h. find-in f ws u h)
  where
    by : (t : Bool) → (if t then Some x else find f ws) ≡ Some u → (find f ws ≡ Some u → IsIn u ws) → IsIn u (x ∷ ws)
    by true h on = inl (let same : x ≡ u = cc in same)
    by false h on = inr (on h)

-- of the first suffixes none is shorter by more than there are before it
suffix-long : (c : ℕ) (w u : List ℕ) → IsIn u (take (suc c) (suffixes w)) → length w ≤ length u + c
suffix-long c [] u h = omega arith
suffix-long c (b ∷ w) u (inl same) = let long = ap (λ (v : List ℕ). length v) same in omega arith
suffix-long zero (b ∷ w) u (inr h) = absurd h
suffix-long (suc c) (b ∷ w) u (inr h) = let long = suffix-long c w u h in omega arith

-- where something begins at a place the first beginning is no later
module _ (patterns : List (List ℕ)) where
  pub record BeginsBy (w : List ℕ) (place : ℕ) : Type 0 where
    pub start : ℕ
    pub least : least_start patterns w ≡ Some start
    pub early : start ≤ place

  begins-by : (w : List ℕ) (place : ℕ) → place ≤ length w → begins_with_pattern patterns (drop place w) ≡ true
      → BeginsBy w place
  begins-by [] place inside h = grind (arith, common_steps)
  begins-by (b ∷ w) place inside h =
      by (begins_with_pattern patterns (b ∷ w)) refl place inside h (λ k within begins. begins-by w k within begins)
    where
      by : (t : Bool) → begins_with_pattern patterns (b ∷ w) ≡ t → (place : ℕ) → place ≤ length (b ∷ w)
          → begins_with_pattern patterns (drop place (b ∷ w)) ≡ true
          → ((k : ℕ) → k ≤ length w → begins_with_pattern patterns (drop k w) ≡ true → BeginsBy w k)
          → BeginsBy (b ∷ w) place
      by true e place inside h on = search rules
      by false e zero inside h on = absurd (false≢true (sym e ∙ h))
      by false e (suc place) inside h on =
          let later = on place (omega arith) h in
          record {
            start = suc later.start;
            least = ap (λ (t : Bool). if t then Some 0 else option_map suc (least_start patterns w)) e
                ∙ ap (option_map suc) later.least;
            early = (let k = later.early in omega arith);
          }

  -- so the node that is reached begins no later either
  pub begins-early : (kind : MatchKind) (w u : List ℕ) (place : ℕ) → is_leftmost kind ≡ true
      → reached kind patterns No w ≡ Some u → place ≤ length w → begins_with_pattern patterns (drop place w) ≡ true
      → length w ≤ place + length u
  begins-early kind w u place leftmost stands inside h = grind (arith, common_steps, begins-by w place inside h, suffix-long, find-in)

-- where it is dead, a pattern has occurred
module _ (kind : MatchKind) (patterns : List (List ℕ)) where
  pub record BeginsIn (w : List ℕ) : Type 0 where
    pub place : ℕ
    pub within : place ≤ length w
    pub begins : begins_with_pattern patterns (drop place w) ≡ true

  pub dead-begins : (w : List ℕ) → reached kind patterns No w ≡ None → BeginsIn w
  dead-begins [] dead = let start = reached-nil kind patterns No in absurd (cc)
  dead-begins (x ∷ w) dead =
      by (is_node kind patterns (x ∷ w)) (sym (reached-cons kind patterns x w) ∙ dead) (λ gone. dead-begins w gone)
    where
      rest : (t : Bool) → is_leftmost kind && begins_with_pattern patterns (x ∷ w) ≡ t
          → cond t None (reached kind patterns No w) ≡ None → (reached kind patterns No w ≡ None → BeginsIn w)
          → BeginsIn (x ∷ w)
      rest true e gone on = search (rules, and_parts)
      rest false e gone on =
          let later = on gone in
          record { place = suc later.place; within = (let l = later.within in omega arith); begins = later.begins }

      by : (t : Bool)
          → cond t (Some (x ∷ w))
          (cond (is_leftmost kind && begins_with_pattern patterns (x ∷ w)) None (reached kind patterns No w)) ≡ None
          → (reached kind patterns No w ≡ None → BeginsIn w) → BeginsIn (x ∷ w)
      by true gone on = absurd (cc)
      by false gone on = rest (is_leftmost kind && begins_with_pattern patterns (x ∷ w)) refl gone on

-- what is found passes
find-passes : (f : List ℕ → Bool) (ws : List (List ℕ)) (u : List ℕ) → find f ws ≡ Some u → f u ≡ true
find-passes f [] u e = absurd (cc)
find-passes f (x ∷ ws) u e = by (f x) refl e (λ h. find-passes f ws u h)
  where
    by : (t : Bool) → f x ≡ t → (if t then Some x else find f ws) ≡ Some u → (find f ws ≡ Some u → f u ≡ true)
        → f u ≡ true
    by true is h on = let same : x ≡ u = cc in ap f (sym same) ∙ is
    by false is h on = on h

-- so the node that is reached is one
pub node-passes : (kind : MatchKind) (patterns : List (List ℕ)) (w u : List ℕ) → reached kind patterns No w ≡ Some u
    → is_node kind patterns u ≡ true
node-passes kind patterns w u stands = find-passes (is_node kind patterns) _ u stands

-- an automaton that has read the text of a search, unanchored
module _ (kind : MatchKind) (q : Search) (free : q.anchored ≡ No) (ordered : q.low ≤ q.high)
    (inside : q.high ≤ length q.haystack) where
  -- where it is dead something is picked
  pub dead-picked : reached kind (plain_patterns q) No (text q) ≡ None → (order : MatchKind) → pick order q ≢ None
  dead-picked dead order none =
      grind (arith, common_steps, dead-begins kind (plain_patterns q) (text q) dead, pick-in_text q ordered inside order, leader)

  -- under a leftmost kind its node begins no later than what is picked
  pub pick-beyond : is_leftmost kind ≡ true → (u : List ℕ) → reached kind (plain_patterns q) No (text q) ≡ Some u
      → (order : MatchKind) (m : Occurrence) → pick order q ≡ Some m → q.high ≤ m.start + length u
  pick-beyond leftmost u stands order m is =
      grind (
        arith,
        common_steps,
        pick-Occurs order q m is,
        begins-early (plain_patterns q) kind (text q) u (m.start - q.low) leftmost stands (Stands-from_Occurs q ordered inside m (pick-Occurs order q m
            is)).within (begins-from_Prefixes (plain_patterns q) (drop (m.start - q.low) (text q)) m.pattern (Stands-from_Occurs q ordered inside m
            (pick-Occurs order q m is)).prefixes),
      )

  -- and its node is no longer than the longest pattern
  pub node-short : (u : List ℕ) → reached kind (plain_patterns q) No (text q) ≡ Some u → length u ≤ longest_len q.patterns
  node-short u stands = grind (arith, common_steps, any_passes, IsIn-from_range, IsIn-from_filter, pattern_length, longest-most, find-passes)
