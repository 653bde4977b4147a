-- A find on its way: where its scanner has come to, and what it picks so far.
use Rattle.ac_util.proofs.Prelude.{◌≡◌, ◌≤◌, ℕ, Bool, true, false, IsTrue, ◌↔◌, List, [], length, Some, refl, subst, sym, ◌∙◌, arith, Option, IfSome, rules, common_steps, ◌⊎◌, None, ◌≢◌}
use Rattle.ac_automaton.specs.Prelude.{Anchored, Counts, is_leftmost, Node, Occurrence, order_of, pick, Span, Standard, Taped, usize_max, AutomatonView, Cursor, finding_of, HasSearched, FindsIn, FitsIn, found_at, in_memory, IsAlive, IsAt, MayAdvance, MaySearch, node, PassesNoMatch, Scan, scan_of, ScannerView, ScansTo, ScanText, search_through, work_of, Advances, at, Point, tape_with, Work, WorkedTape, FindsAt, StandsIn}
use Rattle.std.specs.Option.{option_or}
use Rattle.ac_util.proofs.SearchLoop.{SearchGoesOn}
use Rattle.ac_automaton.proofs.FindAhead.{IsUnanswered, answer-there, decided-there, ends-or, ends-there, picked-or, unanswered-by}
use Rattle.ac_automaton.proofs.FindLoop.{goes_on-by, picked-start, picking_by, searched}
use Rattle.ac_automaton.proofs.ReadOn.{at-start, node-fits, scans-nothing, scans-on}

module _ (v : ScannerView) (bytes : List ℕ) (here : Cursor) (is_at : IsAt v.scan (in_memory bytes v.span) here.state here.at) where
  -- the node where it stands fits into what was read
  pub fits-there : FitsIn v.scan.anchored (node v.scan (in_memory bytes v.span) here.at) v.span.start here.at
  fits-there = node-fits v.scan (in_memory bytes v.span) here.state here.at is_at

  pub stands-there : here.at ≤ usize_max → StandsIn v here
  stands-there small =
      record { node = node v.scan (in_memory bytes v.span) here.at; stands = is_at.there; fits = fits-there; small = small }

  -- so what is found there is what the node finds
  pub found-there : {found : Option Occurrence} → FindsAt v here found
      → found ≡ found_at v.scan.built v.scan.anchored (node v.scan (in_memory bytes v.span) here.at) here.at
  found-there finds = finds _ is_at.there fits-there

-- it has gone on to a cursor, and has picked this so far; a match that it stops at ends there
pub record PicksOn (v : ScannerView) (stops : Bool) (cursor : Cursor) (tape : Taped) (counts : Counts) (new_cursor : Cursor)
    (new_tape : Taped) (new_counts : Counts) (picked : Option Occurrence) : Type 0 where
  pub bytes : new_tape.bytes ≡ tape.bytes
  pub within : new_cursor.at ≤ v.span.end
  pub is_at : IsAt v.scan (in_memory tape.bytes v.span) new_cursor.state new_cursor.at
  pub picks : picked
      ≡ pick (order_of v.scan.built.kind stops) (record (search_through v.scan (in_memory tape.bytes v.span)) { high = new_cursor.at })
  pub scans : ScansTo v.scan (in_memory tape.bytes v.span) cursor.at (work_of tape counts) new_cursor.at (work_of new_tape new_counts)
  pub ends : order_of v.scan.built.kind stops ≡ Standard → IfSome picked (λ m. m.end ≡ new_cursor.at)

-- a find may read on from here: of the text so far it picks what the node finds
pub record IsReady (s : Scan) (t : ScanText) (stops : Bool) (cursor : Cursor) : Type 0 where
  pub is_at : IsAt s t cursor.state cursor.at
  pub picked : found_at s.built s.anchored (node s t cursor.at) cursor.at
      ≡ pick (order_of s.built.kind stops) (record (search_through s t) { high = cursor.at })

-- a find that stops at the first match, or not, may read on from a cursor within its span
pub record MayFind (v : ScannerView) (stops : Bool) (tape : Taped) (cursor : Cursor) : Type 0 where
  pub leftmost : stops ≡ false → is_leftmost v.scan.built.kind ≡ true
  pub within : cursor.at ≤ v.span.end
  pub inside : v.span.end ≤ length tape.bytes
  pub unread : tape.place ≤ cursor.at
  pub small : v.span.end ≤ usize_max
  pub ready : IsReady v.scan (in_memory tape.bytes v.span) stops cursor

-- it has answered, whatever was done before the cursor
pub record FindsOn (v : ScannerView) (stops : Bool) (p : Point) (found : Option Occurrence) (q : WorkedTape) : Type 0 where
  pub bytes : q.bytes ≡ p.bytes
  pub searched : (begun : Work)
      → ScansTo v.scan (in_memory p.bytes v.span) v.span.start begun p.cursor.at p.work
      → HasSearched (picking_by v.scan stops) (search_through v.scan (in_memory p.bytes v.span)) found begun q.work

module _ {v : ScannerView} {stops : Bool} {start : Cursor} {tape : Taped} (may : MayFind v stops tape start) where
  abbrev text-there : ScanText
  text-there = in_memory tape.bytes v.span

  pub stands-first : StandsIn v start
  stands-first = stands-there v tape.bytes start may.ready.is_at (omega (arith, may.within, may.small))

  module _ {counts : Counts} where
    -- it begins with what is found where it begins
    pub picks-start : {found : Option Occurrence} → FindsAt v start found → PicksOn v stops start tape counts start tape counts found
    picks-start {found} finds =
        let is = found-there v tape.bytes start may.ready.is_at finds in
        record {
          bytes = refl;
          within = may.within;
          is_at = may.ready.is_at;
          picks = is ∙ may.ready.picked;
          scans = scans-nothing v.scan text-there may.unread;
          ends = λ standard. ends-there v.scan.built _ _ _ found is;
        }

    module _ {here : Cursor} {tape_here : Taped} {counts_here : Counts} {last : Option Occurrence}
        (on : PicksOn v stops start tape counts here tape_here counts_here last) where
      pub stands : v.scan.stands here.state (node v.scan text-there here.at)
      stands = on.is_at.there

      module _ {test : Bool}
          (says : (u : Node) → v.scan.stands here.state u → IsTrue test
          ↔ ((v.span.end ≤ here.at) ⊎ ((u ≡ None) ⊎ ((stops ≡ true) × (last ≢ None))))) where
        -- without its answer it may read on, and picks what is found where it has then come to, or else what it did
        module _ (fails : test ≡ false) where
          unanswered : IsUnanswered stops v.span.end here.at (node v.scan text-there here.at) last
          unanswered = unanswered-by test (says _ stands) fails

          alive : IsAlive v.scan text-there here
          alive = record { is_at = on.is_at; living = unanswered.living }

          pub may-read-on : MayAdvance v tape_here here
          may-read-on = search (rules, alive, unanswered)

          module _ {then_cursor : Cursor} {new_tape : Taped} {new_counts : Counts}
              (advances : Advances v (at here tape_here counts_here) (at then_cursor new_tape new_counts)) where
            passed : PassesNoMatch v.scan text-there here.at (work_of tape_here counts_here) then_cursor (work_of new_tape new_counts)
            passed = advances.passes text-there (sym on.bytes) alive

            goes : SearchGoesOn v.scan.built.kind (order_of v.scan.built.kind stops) last
            goes = goes_on-by v.scan.built.kind stops last may.leftmost unanswered.none

            pub stands-then : StandsIn v then_cursor
            stands-then = stands-there v tape.bytes then_cursor passed.is_at (omega (arith, advances.within, may.small))

            pub picks-then : {found new_last : Option Occurrence} → FindsAt v then_cursor found → new_last ≡ option_or found last
                → PicksOn v stops start tape counts then_cursor new_tape new_counts new_last
            picks-then {found} {new_last} finds chosen =
                let is = found-there v tape.bytes then_cursor passed.is_at finds in
                record {
                  bytes = advances.bytes ∙ on.bytes;
                  within = advances.within;
                  is_at = passed.is_at;
                  picks = chosen
                      ∙ picked-or v.scan stops tape.bytes v.span on.is_at.onward passed.is_at.inside last goes on.picks passed.none
                      advances.moved found is;
                  scans = scans-on on.scans passed.scans;
                  ends = λ standard.
                      subst (λ (r : Option Occurrence). IfSome r (λ m. m.end ≡ then_cursor.at)) (sym chosen)
                      (ends-or v.scan.built.kind _ then_cursor.at found last (ends-there v.scan.built _ _ _ found is) goes standard);
                }

        -- what is picked where it has its answer is the answer
        pub finds-on : test ≡ true → FindsOn v stops (at start tape counts) last (tape_with tape_here counts_here)
        finds-on holds =
            let answered = (says _ stands).0 holds in
            record {
              bytes = on.bytes;
              searched = λ begun before.
                  let done = scans-on before on.scans in
                  searched v.scan stops tape.bytes v.span on.is_at.inside on.is_at.alive done last
                  (answer-there v.scan stops tape.bytes v.span here.at on.is_at.onward on.within may.inside last on.picks may.leftmost
                  answered)
                  on.within on.picks on.ends
                  (λ same. decided-there v.scan stops tape.bytes v.span here.at on.is_at.onward on.within may.inside last on.picks
                  may.leftmost answered (done.whole same) on.scans.unread);
            }

-- at the start of the span a find may read on: what the start state finds is picked
ready-start : (s : Scan) (stops : Bool) (bytes : List ℕ) (span : Span) {state : ℕ} → s.stands state (Some [])
    → span.start ≤ length bytes → IsReady s (in_memory bytes span) stops (record { state = state; at = span.start })
ready-start s stops bytes span there inside = search (rules, at-start, picked-start)

pub may-find-first : (a : AutomatonView) (anchored : Anchored) (stops : Bool) {span : Span} {tape : Taped} {state : ℕ} → MaySearch span tape
    → span.end ≤ usize_max → span.start ≤ span.end → a.stands anchored state (Some []) → (stops ≡ false → is_leftmost a.built.kind ≡ true)
    → MayFind (record { scan = scan_of a anchored true; span = span }) stops tape (record { state = state; at = span.start })
may-find-first a anchored stops {span} {tape} may small ordered starts leftmost =
    let ready = ready-start (scan_of a anchored true) stops tape.bytes span starts (omega (arith, ordered, may.end_within)) in
    grind (arith, common_steps, ready)

-- what a find answers that begins there is said of its finder
pub finds-in : (a : AutomatonView) {anchored : Anchored} {span : Span} {stops : Bool} {tape new_tape : Taped}
    {counts new_counts : Counts} {found : Option Occurrence} {start : Cursor} → start.at ≡ span.start → tape.place ≤ span.start
    → FindsOn (record { scan = scan_of a anchored true; span = span }) stops (at start tape counts) found (tape_with new_tape new_counts)
    → FindsIn (finding_of a anchored stops) span (tape_with tape counts) found (tape_with new_tape new_counts)
finds-in a {anchored} {span} {stops} {tape} {new_tape} {counts} {new_counts} {found} {start} there unread finds =
    let s = scan_of a anchored true in
    record {
      searched = finds.searched (work_of tape counts)
          (subst (λ (k : ℕ). ScansTo s (in_memory tape.bytes span) span.start (work_of tape counts) k (work_of tape counts))
          (sym there) (scans-nothing s (in_memory tape.bytes span) unread));
      bytes = finds.bytes;
    }
