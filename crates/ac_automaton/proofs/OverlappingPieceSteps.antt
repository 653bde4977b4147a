-- The listing of a text that comes in pieces begins, or is refused, and a call of it gives the next item.
use Rattle.ac_util.proofs.Prelude.{◌≡◌, ◌≢◌, ◌⊎◌, ℕ, ◌≤◌, Bool, true, List, [], length, Option, Some, None, inl, inr, refl, ap, sym, subst, ◌∙◌, arith, append-nil, common_steps, rules}
use Rattle.ac_automaton.specs.Prelude.{AutomatonView, Built, empty_refusal, GivesNextTaken, GivesTaken, has_empty, IsPieceListing, ListsTaken, MatchKind, matches_of, No, Node, Occurrence, piece_listing, PieceListing, piece_listing_refusal, Reached, scan_of, search_taken, shortest_len, Standard, start_refusal, StartKind, Stream, TakesToItem, UnsupportedEmpty, listed_taken, usize_max}
use Rattle.ac_automaton.specs.Finds.{between}
use Rattle.ac_util.proofs.ListingBeginning.{item-some}
use Rattle.ac_util.proofs.Shortest.{shortest-empty}
use Rattle.ac_automaton.proofs.Overlapping.{goes_on-start}
use Rattle.ac_automaton.proofs.PastSpan.{keeps-more}

-- where the next item was given, or none was left, no more were given than there are
gave-few : (v w : PieceListing) (result : Option Occurrence) → GivesNextTaken v result w
    → (v.given ≤ length (listed_taken v)) × (w.given ≤ length (listed_taken w))
gave-few v w None gives =
    let all = gives.all in (
      omega arith,
      subst (λ (x : PieceListing). x.given ≤ length (listed_taken x)) (sym gives.same) (omega arith),
    )
gave-few v w (Some m) gives =
    let some = (item-some (search_taken v) v.given m gives.next).0 in (
      omega arith,
      subst (λ (x : PieceListing). x.given ≤ length (listed_taken x)) (sym gives.same) (omega arith),
    )

-- an item that was left is given, and nothing is taken
pub lists-left : {old new : PieceListing} {m : Occurrence} → GivesTaken old m new → length new.bytes ≤ usize_max
    → (piece : List ℕ) → ListsTaken old piece (Some m) new piece
lists-left {old} {new} {m} gives small piece =
    let few = gave-few old new (Some m) gives in
    record {
      taken = [];
      parted = refl;
      kept = keeps-more old [] few.0;
      gives =
          subst (λ (bs : List ℕ). GivesTaken (piece_listing old.built bs old.given) m new) (sym (append-nil old.bytes)) gives;
      whole = λ none. absurd (let no : Some m ≡ None = none in cc);
      small = small;
      stays = λ more. keeps-more new more few.1;
    }

-- where none was left bytes are taken, and the next one is given, or none
pub lists-more : {old mid new : PieceListing} {piece left : List ℕ} {result : Option Occurrence}
    → old.given ≡ length (listed_taken old) → TakesToItem old piece mid left → GivesNextTaken mid result new
    → length new.bytes ≤ usize_max → ListsTaken old piece result new left
lists-more {old} {mid} {new} {piece} {left} {result} all takes gives small = record {
  taken = takes.taken;
  parted = takes.parted;
  kept = keeps-more old takes.taken (omega arith);
  gives = subst (λ (v : PieceListing). GivesNextTaken v result new) takes.same gives;
  whole = whole result gives;
  small = small;
  stays = λ more. keeps-more new more (gave-few mid new result gives).1;
}
  where
    whole : (r : Option Occurrence) → GivesNextTaken mid r new → r ≡ None → (left ≡ []) ⊎ (length new.bytes ≡ usize_max)
    whole None gave none = elim takes.enough [
      | inl empty ↦ inl empty
      | inr other ↦ elim other [
        | inl full ↦ inr (ap (λ (v : PieceListing). length v.bytes) gave.same ∙ full)
        | inr more ↦ absurd (let given = gave.all in omega arith)
      ]
    ]
    whole (Some m) gave none = absurd (let no : Some m ≡ None = none in cc)

-- a listing begins where its automaton has a start for it and is Standard
pub listing-begins : (a : AutomatonView) → a.built.kind ≡ Standard → {start : ℕ} → a.stands No start (Some [])
    → ((u : Node) → a.stands No start u → a.listed start ≡ matches_of a.built No u) → {stops : Bool} → stops ≡ true
    → {here : Reached} → here ≡ record { state = start; at = 0; rest = record { state = start; index = 0 } } → {bytes : List ℕ}
    → bytes ≡ [] → {given : ℕ} → given ≡ 0 → IsPieceListing a stops here (piece_listing a.built bytes given)
listing-begins a standard {start} starts lists {stops} stopping {here} is {bytes} none {given} zero =
    let begun = goes_on-start (scan_of a No true) [] (between 0 0) start starts lists standard (omega arith) (omega arith) in
    rw (is, none, zero) (record {
      standard = standard;
      stops = stopping;
      at = refl;
      small = omega arith;
      listed = begun.on;
      given = sym begun.as_many;
    })

-- it is refused for an empty pattern alone where it has the start and is Standard
refused-if : (built : Built) → start_refusal built.start_kind No ≡ None → built.kind ≡ Standard
    → piece_listing_refusal built ≡ empty_refusal Stream (has_empty built)
refused-if built starts standard = by (has_empty built) built.start_kind built.kind starts standard
  where
    by : (has : Bool) (start : StartKind) (kind : MatchKind) → start_refusal start No ≡ None → kind ≡ Standard
        → piece_listing_refusal (record built { start_kind = start; kind = kind }) ≡ empty_refusal Stream (has_empty built)
    by has start kind starts standard = grind (arith, common_steps)

pub refused-empty : (built : Built) → start_refusal built.start_kind No ≡ None → built.kind ≡ Standard
    → shortest_len built.patterns ≡ 0 → piece_listing_refusal built ≡ Some UnsupportedEmpty
refused-empty built starts standard none = search (rules, refused-if, shortest-empty)

pub unrefused : (built : Built) → start_refusal built.start_kind No ≡ None → built.kind ≡ Standard
    → shortest_len built.patterns ≢ 0 → piece_listing_refusal built ≡ None
unrefused built starts standard some = search (rules, refused-if, shortest-empty)
