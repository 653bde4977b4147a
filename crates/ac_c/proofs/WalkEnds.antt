-- What is left of a walk at a cursor; past the span nothing is.
use Rattle.ac_util.proofs.Prelude.{◌≡◌, refl, ap, ◌∙◌, ℕ, ◌<◌, Option, None, Some, arith, []}
use Rattle.ac_search.specs.Occurrence.{Occurrence, Search, from}
use Rattle.ac_search.specs.Walk.{next_match, walk_after}
use Rattle.ac_search.specs.declared.MatchKind.{MatchKind}
use Rattle.ac_c.specs.declared.search.Cursor.{Cursor}
use Rattle.ac_c.specs.Batches.{walk_from}
use Rattle.ac_util.proofs.Walks.{next-in_span, walk_after-None}

-- there is no next match past the span
past : (kind : MatchKind) (q : Search) (last : Option ℕ) (found : Option Occurrence) → next_match kind q last ≡ found
    → q.high < q.low → found ≡ None
past kind q last None e later = refl
past kind q last (Some m) e later =
    let inside = next-in_span kind q last m e in
    absurd (omega (inside.from_low, inside.in_order, inside.to_high, later, arith))

-- so nothing is left there
pub none_past : (kind : MatchKind) (q : Search) (last : Option ℕ) → q.high < q.low → walk_after kind q last ≡ []
none_past kind q last later = walk_after-None kind q last (past kind q last (next_match kind q last) refl later)

-- what is left at a cursor depends on the order and on the search but for its start
pub left-alike : (kind other : MatchKind) (q p : Search) (cursor : Cursor) → other ≡ kind → from p 0 ≡ from q 0
    → walk_from other p cursor ≡ walk_from kind q cursor
left-alike kind other q p cursor same search =
    ap (λ (k : MatchKind). walk_from k p cursor) same ∙ ap (λ (s : Search). walk_from kind s cursor) search
