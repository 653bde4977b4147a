-- The matches of a walk as a replacement meets them, and what it has written after each.
use Rattle.ac_util.proofs.Prelude.{◌≡◌, ℕ, zero, suc, ◌+◌, ◌-◌, ◌≤◌, Bool, true, false, List, [], ◌∷◌, length, refl, ap, arith, Option, Some, None, cond, common_steps}
use Rattle.ac_util.specs.Prelude.{AreInOrder, whole_input, Built, continued, exchanged, from, is_whole, MatchKind, next_match, Occurrence, order_of, Search, search_in, walk, walk_after, whole_characters}
use Rattle.std.specs.Str.{IsCharBoundary}
use Rattle.ac_util.proofs.PlainReplaced.{next-numbered}
use Rattle.ac_util.proofs.Walks.{next-in_span}

-- and so from each earlier place on
pub in_order-earlier : (bytes patterns place later : ℕ) (ms : List Occurrence) → place ≤ later
    → AreInOrder bytes patterns later ms → AreInOrder bytes patterns place ms
in_order-earlier bytes patterns place later [] l h = omega arith
in_order-earlier bytes patterns place later (m ∷ ms) l h = grind (arith, common_steps)

-- a walk of at most n matches
continued-in_order : (kind : MatchKind) (bytes : ℕ) (q : Search) (n : ℕ) (last : Option ℕ) (r : Option Occurrence)
    → q.low ≤ bytes → q.high ≤ bytes → next_match kind q last ≡ r
    → AreInOrder bytes (length q.patterns) q.low (continued kind q n r)
continued-in_order kind bytes q zero last r low high e = low
continued-in_order kind bytes q (suc n) last None low high e = low
continued-in_order kind bytes q (suc n) last (Some m) low high e =
    let o = next-in_span kind q last m e in
    let to_high = o.to_high in (
      o.from_low,
      o.in_order,
      omega arith,
      next-numbered kind q last m e,
      continued-in_order kind bytes (from q m.end) n (Some m.end) (next_match kind (from q m.end) (Some m.end))
          (omega arith) high refl,
    )

-- the matches of a walk are in order
pub walk-in_order : (kind : MatchKind) (bytes : ℕ) (q : Search) → q.low ≤ bytes → q.high ≤ bytes
    → AreInOrder bytes (length q.patterns) q.low (walk kind q)
unfolding walk_after
walk-in_order kind bytes q low high =
    continued-in_order kind bytes q (q.high + 1 - q.low) None (next_match kind q None) low high refl

-- the matches of a haystack are in order, and each has one of as many texts as there are patterns
pub exchanged-in_order : (built : Built) (haystack : List ℕ) (texts : ℕ) → texts ≡ length built.patterns
    → AreInOrder (length haystack) texts 0 (exchanged built haystack)
exchanged-in_order built haystack texts as_many =
    grind (
      arith,
      common_steps,
      walk-in_order (order_of built.kind false) (length haystack) (search_in built (whole_input haystack)) (omega arith) (omega arith),
    )

-- of a text in which the first match is whole, it is the first of those that are
pub whole_characters-take : (text : List ℕ) (m : Occurrence) (ms : List Occurrence) → is_whole text m ≡ true
    → whole_characters text (m ∷ ms) ≡ m ∷ whole_characters text ms
whole_characters-take text m ms e = ap (λ (t : Bool). cond t (m ∷ whole_characters text ms) (whole_characters text ms)) e

-- and where it isn't, it is none of them
pub whole_characters-skip : (text : List ℕ) (m : Occurrence) (ms : List Occurrence) → is_whole text m ≡ false
    → whole_characters text (m ∷ ms) ≡ whole_characters text ms
whole_characters-skip text m ms e = ap (λ (t : Bool). cond t (m ∷ whole_characters text ms) (whole_characters text ms)) e

-- a whole match starts and ends at boundaries
pub is_whole-ends : (text : List ℕ) (m : Occurrence) → is_whole text m ≡ true
    → IsCharBoundary text m.start × IsCharBoundary text m.end
is_whole-ends text m h = grind (arith, common_steps)
