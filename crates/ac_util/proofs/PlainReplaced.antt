-- The plain replacement: what is written at each match, and that a walk can be replaced.
use Rattle.ac_util.proofs.Prelude.{◌≡◌, ℕ, zero, suc, ◌+◌, ◌-◌, ◌<◌, ◌≤◌, Bool, true, false, List, ◌++◌, drop, length, get_or, refl, ◌∙◌, arith, Option, Some, None, All, AllPairs, slice_range, Bor, All-cons, All-nil, common_steps}
use Rattle.ac_util.specs.Prelude.{bytes_of, continued, EndsBy, from, IsReplaceable, MatchKind, next_match, Occurrence, pick, repeats, replaced, replaced_from, Search, unless_repeated, walk, walk_after}
use Rattle.ac_util.proofs.Walks.{pick-Occurs, next-in_span, walk-ordered}

-- the match of this number, where there is one, starts from this place on
abbrev pub StartsFrom : ℕ → List Occurrence → ℕ → Type 0
StartsFrom place ms k = (d : Occurrence) → k < length ms → place ≤ (get_or ms k d).start

-- a gap and a text are written
pub written : (haystack : List ℕ) (texts : List (Bor (List ℕ))) (ms : List Occurrence)
    (k place start number end : ℕ) (m : Occurrence) (t : Bor (List ℕ)) (bytes gap new : List ℕ)
    → k < length ms → m ≡ get_or ms k m → m.pattern < length texts → start ≡ m.start → number ≡ m.pattern
    → end ≡ m.end
    → gap ≡ bytes ++ slice_range haystack place start → new ≡ gap ++ (get_or texts number t).now
    → bytes ++ replaced_from haystack (bytes_of texts) place (drop k ms) ≡ replaced haystack (bytes_of texts) ms
    → new ++ replaced_from haystack (bytes_of texts) end (drop (k + 1) ms)
    ≡ replaced haystack (bytes_of texts) ms
written haystack texts ms k place start number end m t bytes gap new l is numbered s n e is_gap is_new whole = grind (arith, common_steps)

-- the next match, by whether the pick repeats
numbered_by : (kind : MatchKind) (q : Search) (p : Option Occurrence) (t : Bool) (m : Occurrence)
    → pick kind q ≡ p → unless_repeated kind q p t ≡ Some m → m.pattern < length q.patterns
numbered_by kind q p true m ep e = (pick-Occurs kind (from q (q.low + 1)) m e).numbered
numbered_by kind q p false m ep e = (pick-Occurs kind q m (ep ∙ e)).numbered

-- the next match has the number of a pattern
pub next-numbered : (kind : MatchKind) (q : Search) (last : Option ℕ) (m : Occurrence)
    → next_match kind q last ≡ Some m → m.pattern < length q.patterns
next-numbered kind q last m e = numbered_by kind q (pick kind q) (repeats (pick kind q) last) m refl e

-- a walk of at most n matches
continued-IsReplaceable : (kind : MatchKind) (bytes texts : ℕ) (q : Search) (n : ℕ) (last : Option ℕ)
    (r : Option Occurrence) → q.high ≤ bytes → length q.patterns ≤ texts → next_match kind q last ≡ r
    → All (IsReplaceable bytes texts) (continued kind q n r)
continued-IsReplaceable kind bytes texts q zero last r l t e = All-nil (IsReplaceable bytes texts)
continued-IsReplaceable kind bytes texts q (suc n) last None l t e = All-nil (IsReplaceable bytes texts)
continued-IsReplaceable kind bytes texts q (suc n) last (Some m) l t e =
    let o = next-in_span kind q last m e in
    let p = next-numbered kind q last m e in
    All-cons (IsReplaceable bytes texts) m
    (continued kind (from q m.end) n (next_match kind (from q m.end) (Some m.end)))
    (record { numbered = omega arith; ordered = o.in_order; within = (let h = o.to_high in omega arith) })
    (continued-IsReplaceable kind bytes texts (from q m.end) n (Some m.end)
    (next_match kind (from q m.end) (Some m.end)) l t refl)

-- each match of a walk can be exchanged, where each pattern has a text
pub walk-IsReplaceable : (kind : MatchKind) (bytes texts : ℕ) (q : Search) → q.high ≤ bytes
    → length q.patterns ≤ texts → All (IsReplaceable bytes texts) (walk kind q)
unfolding walk_after
walk-IsReplaceable kind bytes texts q l t =
    continued-IsReplaceable kind bytes texts q (q.high + 1 - q.low) None (next_match kind q None) l t refl

-- each match of a walk ends before all later ones
pub walk-EndsBy : (kind : MatchKind) (q : Search) → AllPairs EndsBy (walk kind q)
walk-EndsBy kind q = λ i j d l in'. (walk-ordered kind q i j d l in').apart
