-- A walk takes the next match after a cursor.
use Rattle.ac_util.proofs.Prelude.{◌≡◌, ◌≢◌, ◌⊎◌, inl, inr, ℕ, ◌==◌, if◌then◌else◌, Bool, true, false, ap, sym, ◌∙◌, subst, Option, None, Some, arith, common_steps}
use Rattle.ac_search.specs.Iterators.{GoesOn, Walking}
use Rattle.ac_search.specs.Occurrence.{Occurrence, Search, from}
use Rattle.ac_search.specs.Pick.{pick}
use Rattle.ac_search.specs.Walk.{next_match, repeats, unless_repeated}
use Rattle.ac_search.specs.declared.MatchKind.{MatchKind}
use Rattle.ac_c.specs.declared.search.Cursor.{Cursor}
use Rattle.ac_c.specs.Steps.{HasTaken, WalkStandsAt}

-- the next match where none came before is the next one after a place that it doesn't repeat
next-kept : (kind : MatchKind) (q : Search) (m : Occurrence) (place : ℕ) → next_match kind q None ≡ Some m
    → repeats (Some m) (Some place) ≡ false → next_match kind q (Some place) ≡ Some m
next-kept kind q m place first other = by (pick kind q) first
  where
    by : (r : Option Occurrence) → unless_repeated kind q r (repeats r None) ≡ Some m
        → unless_repeated kind q r (repeats r (Some place)) ≡ Some m
    by None e = e
    by (Some n) e =
        subst (λ (r : Option Occurrence). unless_repeated kind q r (repeats r (Some place)) ≡ Some m) (sym e)
        (ap (unless_repeated kind q (Some m)) other)

-- a match that has bytes, or ends elsewhere, doesn't repeat the one before it
repeats-not : (m : Occurrence) (place : ℕ) → (m.start ≢ m.end) ⊎ (m.end ≢ place) → repeats (Some m) (Some place) ≡ false
repeats-not m place (inl some) = grind (arith, common_steps)
repeats-not m place (inr apart) = grind (arith, common_steps)

-- it is the next one after a cursor
pub takes-first : {walking new_walking : Walking} {cursor : Cursor} {found : Option Occurrence} → WalkStandsAt walking cursor
    → GoesOn walking found new_walking → (m : Occurrence) → found ≡ Some m → (m.start ≢ m.end) ⊎ (m.end ≢ cursor.at)
    → HasTaken walking cursor found new_walking
takes-first {walking} {new_walking} {cursor} {found} stands goes m is unlike =
    subst (λ (r : Option Occurrence). HasTaken walking cursor r new_walking) (sym is) (record {
      next = sym (after (cursor.given == 0) stands.last);
      same = record {
        order = ap (λ (w : Walking). w.picking.order) some.same;
        left = ap (λ (w : Walking). from w.left 0) some.same;
      };
      beyond = (ap (λ (w : Walking). w.left.low) some.same, ap (λ (w : Walking). w.last) some.same);
    })
  where
    some : GoesOn walking (Some m) new_walking
    some = subst (λ (r : Option Occurrence). GoesOn walking r new_walking) is goes

    here : from walking.left cursor.at ≡ walking.left
    here = ap (from walking.left) (sym stands.at)

    after : (t : Bool) → (walking.last ≡ None) ⊎ (walking.last ≡ (if t then None else Some cursor.at))
        → next_match walking.picking.order (from walking.left cursor.at) (if t then None else Some cursor.at) ≡ Some m
    after true (inl e) =
        ap (λ (q : Search). next_match walking.picking.order q None) here
        ∙ ap (next_match walking.picking.order walking.left) (sym e) ∙ sym some.next
    after true (inr e) =
        ap (λ (q : Search). next_match walking.picking.order q None) here
        ∙ ap (next_match walking.picking.order walking.left) (sym e) ∙ sym some.next
    after false (inl e) =
        ap (λ (q : Search). next_match walking.picking.order q (Some cursor.at)) here
        ∙ next-kept walking.picking.order walking.left m cursor.at
        (ap (next_match walking.picking.order walking.left) (sym e) ∙ sym some.next) (repeats-not m cursor.at unlike)
    after false (inr e) =
        ap (λ (q : Search). next_match walking.picking.order q (Some cursor.at)) here
        ∙ ap (next_match walking.picking.order walking.left) (sym e) ∙ sym some.next
