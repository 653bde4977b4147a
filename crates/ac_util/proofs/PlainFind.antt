-- The plain find: it tries one place after another and keeps the best match so far.
use Rattle.ac_util.proofs.Prelude.{◌≡◌, ℕ, ◌+◌, ◌<◌, ◌≤◌, Bool, true, false, cond, List, [], length, get_or, ◌⊎◌, inl, inr, refl, ap, subst, arith, Option, Some, None, MatchOption, rules, Bor, length-map, common_steps}
use Rattle.ac_util.specs.Prelude.{beats, better, bytes_of, IsFirst, IsPick, MatchKind, Occurrence, occurrence, Occurs, pattern_of, pick, Search}
use Rattle.ac_util.proofs.Picks.{pick-from_IsPick, same_occurrence, end_from}

-- r is the pick among the occurrences at places that were tried
abbrev pub IsBestOf : MatchKind → Search → (Occurrence → Type 0) → Option Occurrence → Type 0
IsBestOf kind q Tried r =
    MatchOption r ((o : Occurrence) → Occurs q o → ¬ Tried o)
    (λ m. Occurs q m × ((o : Occurrence) → Occurs q o → Tried o → IsFirst kind m o))

-- o is one of the first n numbers
abbrev pub IsBelow : ℕ → Occurrence → Type 0
IsBelow n o = o.pattern < n

-- o is of an earlier number than n, or of number n and starts before `at`
pub record IsReached (n at : ℕ) (o : Occurrence) : Type 0 where
  pub patterns : o.pattern ≤ n
  pub starts : o.pattern ≡ n → o.start < at

-- fewer places tried
fewer : (kind : MatchKind) (q : Search) (P Q : Occurrence → Type 0) (r : Option Occurrence)
    → ((o : Occurrence) → Occurs q o → Q o → P o) → IsBestOf kind q P r → IsBestOf kind q Q r
fewer kind q P Q None w h = λ o occurs tried. h o occurs (w o occurs tried)
fewer kind q P Q (Some m) w h = (h.0, λ o occurs tried. h.1 o occurs (w o occurs tried))

-- m or the best so far, as the kind prefers
better_of : (kind : MatchKind) (q : Search) (P Q : Occurrence → Type 0) (m b : Occurrence) (t : Bool)
    → beats kind b m ≡ t → Occurs q m → ((o : Occurrence) → Occurs q o → Q o → P o ⊎ (o ≡ m))
    → IsBestOf kind q P (Some b) → IsBestOf kind q Q (Some (cond t b m))
better_of kind q P Q m b true e om w h = grind (arith, common_steps)
better_of kind q P Q m b false e om w h = search rules

-- one more place tried, where m occurs
one_more : (kind : MatchKind) (q : Search) (P Q : Occurrence → Type 0) (m : Occurrence) (r : Option Occurrence)
    → Occurs q m → ((o : Occurrence) → Occurs q o → Q o → P o ⊎ (o ≡ m))
    → IsBestOf kind q P r → IsBestOf kind q Q (Some (better kind m r))
one_more kind q P Q m None om w h = grind (arith, common_steps)
one_more kind q P Q m (Some b) om w h = better_of kind q P Q m b (beats kind b m) refl om w h

-- up to a start and with it: before it, or at it
reached_or_at : (q : Search) (n at : ℕ) (o : Occurrence) → Occurs q o → IsReached n (at + 1) o
    → IsReached n at o ⊎ ((o.pattern ≡ n) × (o.start ≡ at))
reached_or_at q n at o occurs tried = grind (arith, common_steps)

-- one more start, where m occurs
place_with : (kind : MatchKind) (q : Search) (m : Occurrence) (r : Option Occurrence) → Occurs q m
    → IsBestOf kind q (IsReached m.pattern m.start) r
    → IsBestOf kind q (IsReached m.pattern (m.start + 1)) (Some (better kind m r))
place_with kind q m r om h =
    one_more kind q (IsReached m.pattern m.start) (IsReached m.pattern (m.start + 1)) m r om
    (λ o occurs tried. elim (reached_or_at q m.pattern m.start o occurs tried) [
      | inl p ↦ inl p
      | inr p ↦ inr (same_occurrence o m p.0 p.1 (end_from q o m occurs om p.0 p.1))
    ]) h

-- the best of all numbers is the pick
all_tried : (kind : MatchKind) (q : Search) (r : Option Occurrence)
    → IsBestOf kind q (IsBelow (length q.patterns)) r → r ≡ pick kind q
all_tried kind q r h = pick-from_IsPick kind q r (at r h)
  where
    at : (r : Option Occurrence) → IsBestOf kind q (IsBelow (length q.patterns)) r → IsPick kind q r
    at None h = λ o occurs. h o occurs occurs.numbered
    at (Some m) h = (h.0, λ o occurs. h.1 o occurs occurs.numbered)

-- what is borrowed under a number is the pattern of that number
pub pattern_of-bytes_of : (strings : List (Bor (List ℕ))) (n : ℕ) (d : Bor (List ℕ)) → d.now ≡ []
    → pattern_of (bytes_of strings) n ≡ (get_or strings n d).now
pattern_of-bytes_of strings n d empty = grind (arith, common_steps)

-- one more start, where the pattern occurs
pub start_with : (kind : MatchKind) (q : Search) (n start end : ℕ) (m : Occurrence)
    (best new : Option Occurrence) → Occurs q (occurrence n start end) → m ≡ occurrence n start end
    → new ≡ Some (better kind m best)
    → IsBestOf kind q (IsReached n start) best → IsBestOf kind q (IsReached n (start + 1)) new
start_with kind q n start end m best new occurs is new_is h = search (rules, place_with)

-- one more start, where it does not: `end` is right where the pattern has room in the span
pub start_without : (kind : MatchKind) (q : Search) (n start end : ℕ) (best new : Option Occurrence)
    → (start + length (pattern_of q.patterns n) ≤ q.high → end ≡ start + length (pattern_of q.patterns n))
    → ¬ Occurs q (occurrence n start end) → new ≡ best → IsBestOf kind q (IsReached n start) best
    → IsBestOf kind q (IsReached n (start + 1)) new
start_without kind q n start end best new right none new_is h = search rules

-- all numbers were tried
pub numbers_tried : (kind : MatchKind) (q : Search) (n : ℕ) (strings : List (Bor (List ℕ)))
    (best : Option Occurrence) → q.patterns ≡ bytes_of strings → n ≤ length strings → length strings ≤ n
    → IsBestOf kind q (IsBelow n) best → best ≡ pick kind q
numbers_tried kind q n strings best is l m h =
    let all : n ≡ length q.patterns =
    omega (arith, ap length is, length-map strings (λ (s : Bor (List ℕ)). s.now)) in
    all_tried kind q best (subst (λ (k : ℕ). IsBestOf kind q (IsBelow k) best) all h)
