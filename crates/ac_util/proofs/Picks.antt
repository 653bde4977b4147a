-- The computed pick is the occurrence that comes first by the kind's order, and the only one.
use Rattle.ac_util.proofs.Prelude.{◌≡◌, Bool, true, false, cond, List, [], ◌∷◌, inl, inr, refl, sym, subst, arith, Option, Some, None, MatchOption, slice_get, common_steps}
use Rattle.ac_util.specs.Prelude.{all, beats, best, better, IsBefore, IsFirst, IsFirstByEnd, IsPick, LeftmostFirst, LeftmostLongest, MatchKind, Occurrence, occurrence, Occurs, pick, Search, Standard}
use Rattle.ac_util.proofs.Lists.{IsIn, IsOrdered}
use Rattle.ac_util.proofs.Listing.{all-has, all-only, all-ordered}

-- nothing comes before itself
pub IsFirst-itself : (kind : MatchKind) (a : Occurrence) → IsFirst kind a a
IsFirst-itself Standard a = grind (arith, common_steps)
IsFirst-itself LeftmostFirst a = record { starts = omega arith; patterns = λ e. omega arith }
IsFirst-itself LeftmostLongest a = grind (arith, common_steps)

-- m is one of the list, and none of the list comes before it
abbrev IsFirstOf : MatchKind → List Occurrence → Occurrence → Type 0
IsFirstOf kind ms m = IsIn m ms × ((o : Occurrence) → IsIn o ms → IsFirst kind m o)

-- the better of the first element and the best of the rest is the best, by whether the rest beats it
better_of : (kind : MatchKind) (m b : Occurrence) (ms : List Occurrence) (t : Bool) → beats kind b m ≡ t
    → IsFirstOf kind ms b → IsFirstOf kind (m ∷ ms) (cond t b m)
better_of kind m b ms true e h = grind (arith, common_steps)
better_of kind m b ms false e h = grind (arith, common_steps)

-- the same where there may be no rest
better_first : (kind : MatchKind) (m : Occurrence) (ms : List Occurrence) (r : Option Occurrence)
    → MatchOption r (ms ≡ []) (IsFirstOf kind ms) → IsFirstOf kind (m ∷ ms) (better kind m r)
better_first kind m ms None h = grind (arith, common_steps)
better_first kind m ms (Some b) h = better_of kind m b ms (beats kind b m) refl h

-- the best of a list is one of it, and none of it comes before that
pub best-first : (kind : MatchKind) (ms : List Occurrence)
    → MatchOption (best kind ms) (ms ≡ []) (IsFirstOf kind ms)
best-first kind [] = refl
best-first kind (m ∷ ms) = better_first kind m ms (best kind ms) (best-first kind ms)

-- the best of a list of exactly the occurrences is the pick
picked : (kind : MatchKind) (q : Search) (ms : List Occurrence) (r : Option Occurrence)
    → ((o : Occurrence) → Occurs q o → IsIn o ms) → ((o : Occurrence) → IsIn o ms → Occurs q o)
    → MatchOption r (ms ≡ []) (IsFirstOf kind ms) → IsPick kind q r
picked kind q ms None has only h = λ o occurs. subst (λ (w : List Occurrence). IsIn o w) h (has o occurs)
picked kind q ms (Some m) has only h = (only m h.0, λ o occurs. h.1 o (has o occurs))

-- the computed pick meets the relation
pub pick-IsPick : (kind : MatchKind) (q : Search) → IsPick kind q (pick kind q)
unfolding pick
pick-IsPick kind q =
    picked kind q (all q) (best kind (all q)) (all-has q) (all-only q) (best-first kind (all q))

-- an occurrence is identified by its number and its two places
pub same_occurrence : (a b : Occurrence) → a.pattern ≡ b.pattern → a.start ≡ b.start → a.end ≡ b.end → a ≡ b
same_occurrence a b n s e = λ i. occurrence (n i) (s i) (e i)

-- two occurrences of one number at one start are one
pub end_from : (q : Search) (a b : Occurrence) → Occurs q a → Occurs q b → a.pattern ≡ b.pattern
    → a.start ≡ b.start → a.end ≡ b.end
end_from q a b x y n s = cc

-- two occurrences that both come first are one
pub first_unique : (kind : MatchKind) (q : Search) (a b : Occurrence) → Occurs q a → Occurs q b
    → IsFirst kind a b → IsFirst kind b a → a ≡ b
first_unique Standard q a b oa ob x y = grind (arith, common_steps)
first_unique LeftmostFirst q a b oa ob x y = grind (arith, common_steps)
first_unique LeftmostLongest q a b oa ob x y = grind (arith, common_steps)

-- the relation has one answer
pub IsPick-unique : (kind : MatchKind) (q : Search) (r t : Option Occurrence) → IsPick kind q r
    → IsPick kind q t → r ≡ t
IsPick-unique kind q None None x y = refl
IsPick-unique kind q None (Some m) x y = absurd (x m y.0)
IsPick-unique kind q (Some m) None x y = absurd (y m x.0)
IsPick-unique kind q (Some m) (Some n) x y = grind (arith, common_steps)

-- what meets the relation is the pick
pub pick-from_IsPick : (kind : MatchKind) (q : Search) (r : Option Occurrence) → IsPick kind q r
    → r ≡ pick kind q
pick-from_IsPick kind q r h = IsPick-unique kind q r (pick kind q) h (pick-IsPick kind q)

-- the first of an ordered list of exactly the occurrences is what Standard picks
first_of_ordered : (q : Search) (ms : List Occurrence) → ((o : Occurrence) → Occurs q o → IsIn o ms)
    → ((o : Occurrence) → IsIn o ms → Occurs q o) → IsOrdered IsBefore ms → IsPick Standard q (slice_get ms 0)
first_of_ordered q [] has only o = has
first_of_ordered q (m ∷ ms) has only o = (only m (inl refl), λ x occurs. before x (has x occurs))
  where
    before : (x : Occurrence) → IsIn x (m ∷ ms) → IsFirstByEnd m x
    before x (inl same) = subst (λ (w : Occurrence). IsFirstByEnd m w) same (IsFirst-itself Standard m)
    before x (inr in') =
        let b = o.0 x in' in
        record {
          ends = omega arith;
          starts = λ e. omega arith;
          patterns = λ e s. let l = b.patterns e s in omega arith;
        }

-- what Standard picks is the first of the list
pub pick-Standard : (q : Search) → pick Standard q ≡ slice_get (all q) 0
pick-Standard q =
    sym (pick-from_IsPick Standard q (slice_get (all q) 0)
    (first_of_ordered q (all q) (all-has q) (all-only q) (all-ordered q)))
