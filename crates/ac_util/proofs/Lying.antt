-- Where the matches of an input lie, and how many a walk has.
use Rattle.ac_util.proofs.Prelude.{◌≡◌, ℕ, zero, suc, ◌+◌, ◌-◌, ◌≤◌, Bool, true, false, length, refl, ◌∙◌, arith, Option, Some, None, All, Contains, IfSome, rules, All-nil, All-cons, All-weaker, All-contains_itself, common_steps}
use Rattle.ac_util.specs.Prelude.{all, InputView, Built, continued, find_result, from, LiesIn, MatchKind, next_match, Occurrence, Occurs, order_of, pick, repeats, Search, search_in, unless_repeated, walk_after, walk_result}
use Rattle.ac_util.proofs.Listing.{Occurs-from_all}
use Rattle.ac_util.proofs.Walks.{pick-Occurs, next-in_span}

-- what occurs in a span of the haystack that begins no earlier than the input's lies in the input
Occurs-lies : (built : Built) (input : InputView) (k : ℕ) (m : Occurrence) → input.end ≤ length input.haystack
    → input.start ≤ k → Occurs (from (search_in built input) k) m → LiesIn built input m
Occurs-lies built input k m inside later o = grind (arith, common_steps)

-- what a find answers lies in the input
pub find_result-lies : (built : Built) (input : InputView) (m : Occurrence) → input.end ≤ length input.haystack
    → find_result built input ≡ Some m → LiesIn built input m
find_result-lies built input m inside e = search (rules, Occurs-lies, pick-Occurs)

-- the same where it may answer nothing
pub find_result-IfSome : (built : Built) (input : InputView) → input.end ≤ length input.haystack
    → IfSome (find_result built input) (LiesIn built input)
find_result-IfSome built input inside = search (rules, find_result-lies)

-- the next match of a walk occurs in a span that begins at the low end or after it
next-Occurs : (kind : MatchKind) (q : Search) (last : Option ℕ) (p : Option Occurrence) (t : Bool)
    (m : Occurrence) → pick kind q ≡ p → unless_repeated kind q p t ≡ Some m
    → (k : ℕ) × (q.low ≤ k) × Occurs (from q k) m
next-Occurs kind q last p true m ep e = grind (arith, common_steps, pick-Occurs kind (from q (q.low + 1)) m e)
next-Occurs kind q last p false m ep e = (q.low, omega arith, pick-Occurs kind q m (ep ∙ e))

-- what holds of all that occurs in a span from the low end on, or from after it, holds of each match of a walk
continued-All : (P : Occurrence → Type 0) (kind : MatchKind) (q : Search) (last : Option ℕ) (n : ℕ)
    (r : Option Occurrence) → next_match kind q last ≡ r
    → ((k : ℕ) (m : Occurrence) → q.low ≤ k → Occurs (from q k) m → P m)
    → All P (continued kind q n r)
continued-All P kind q last zero r e each = All-nil P
continued-All P kind q last (suc n) None e each = All-nil P
continued-All P kind q last (suc n) (Some m) e each =
    let o = next-Occurs kind q last (pick kind q) (repeats (pick kind q) last) m refl e in
    let s = next-in_span kind q last m e in
    All-cons P m (continued kind q n (next_match kind (from q m.end) (Some m.end)))
    (each o.0 m o.1 o.2)
    (continued-All P kind (from q m.end) (Some m.end) n (next_match kind (from q m.end) (Some m.end)) refl
    (λ k x later occurs. each k x (omega arith) occurs))

-- each match of a walk lies in the input
pub walk_result-lie : (built : Built) (input : InputView) → input.end ≤ length input.haystack
    → All (LiesIn built input) (walk_result built input)
unfolding walk_after
walk_result-lie built input inside =
    continued-All (LiesIn built input) (order_of built.kind input.earliest) (search_in built input) None
    (input.end + 1 - input.start)
    (next_match (order_of built.kind input.earliest) (search_in built input) None) refl
    (λ k m later o. Occurs-lies built input k m inside later o)

-- each item of the listing lies in the input
pub listed-lie : (built : Built) (input : InputView) → input.end ≤ length input.haystack
    → All (LiesIn built input) (all (search_in built input))
listed-lie built input inside =
    All-weaker (Contains (all (search_in built input))) (LiesIn built input)
    (λ m h. Occurs-lies built input input.start m inside (omega arith)
    (Occurs-from_all (search_in built input) m h))
    (all (search_in built input)) (All-contains_itself (all (search_in built input)))

-- a walk has no more matches than it may have
length-continued : (kind : MatchKind) (q : Search) (n : ℕ) (r : Option Occurrence)
    → length (continued kind q n r) ≤ n
length-continued kind q zero r = omega arith
length-continued kind q (suc n) None = omega arith
length-continued kind q (suc n) (Some m) =
    omega (arith, length-continued kind (from q m.end) n (next_match kind (from q m.end) (Some m.end)))

-- so it has at most one more than the span has bytes
pub length-walk_result : (built : Built) (input : InputView) → length (walk_result built input) ≤ input.end + 1 - input.start
unfolding walk_after
length-walk_result built input =
    length-continued (order_of built.kind input.earliest) (search_in built input) (input.end + 1 - input.start)
    (next_match (order_of built.kind input.earliest) (search_in built input) None)
