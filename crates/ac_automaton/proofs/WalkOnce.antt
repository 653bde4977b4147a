-- A walk that reads on past its matches: what it gives, and that what it counts is paid.
use Rattle.ac_util.proofs.Prelude.{◌≡◌, ◌⊎◌, ℕ, ◌+◌, ◌-◌, ◌*◌, ◌<◌, ◌≤◌, if◌then◌else◌, min, Bool, true, false, List, length, refl, ap, sym, ◌∙◌, subst, arith, Option, None, Some, IfSome, false≢true, IfSome_then}
use Rattle.ac_automaton.specs.Prelude.{Counts, from, may_skip, next_match, No, Occurrence, pick, Search, Span, Taped, usize_max, after, AutomatonView, Finding, finding_of, Cursor, GoesOn, Grows, IsPaid, last_after, looks_beyond, MovesApart, plain_of, reads_past, search_of, Walking, walking_of, Work, work_of, reads_on, reads_past_by, in_hand, GoesBy, MayGo, spot, IsCounted, IsOnward, IsReadingPast, reached_by, Onward, Position}
use Rattle.ac_util.proofs.Onward.{after-low}
use Rattle.ac_util.proofs.PickedWalks.{next-any}
use Rattle.ac_automaton.proofs.OnwardEnds.{HasGiven}
use Rattle.ac_automaton.proofs.OnwardGives.{within-end}
use Rattle.ac_automaton.proofs.OnwardGoes.{goes-apart, goes-given, goes-grow, may-go}
use Rattle.ac_automaton.proofs.OnwardLists.{on-leftmost, on-some}
use Rattle.ac_automaton.proofs.WalkLoop.{gives}

-- a tape of which nothing was read
abbrev pub fresh : List ℕ → Taped
fresh bytes = record { bytes = bytes; place = 0 }

-- what it has counted that goes on after a match, or has ended
module _ (a : AutomatonView) (bytes : List ℕ) (span : Span) (last : Option ℕ) (start : ℕ) (on : reads_on a.built ≡ true)
    (inside : span.end ≤ length bytes) (ordered : span.start ≤ span.end) (begun : start ≤ span.start)
    (beyond : IfSome last (λ e. e ≤ span.start)) where
  abbrev q : Search
  q = search_of a.built No bytes span.start span.end

  -- the walk at a place
  abbrev walking-at : Option Occurrence → Work → Walking
  walking-at found work =
      walking_of (finding_of a No false) bytes (record { start = after span.end found; end = span.end }) (last_after last found) start work

  -- so many looks it may have taken beyond those for each byte read
  beyond-is : (found : Option Occurrence) (work : Work) (to : ℕ) → looks_beyond (walking-at found work) to ≡ min to span.end - start
  beyond-is found work to = ap (λ (t : Bool). if t then min to span.end - start else 0) on

  paid-ended : {work : Work} → IsCounted a.most (may_skip a.wants_prefilter q) start span.end 0 (span.start - start) work.counts
      → (to : ℕ) → span.start ≤ to → IsPaid (walking-at None work) to
  paid-ended {work} counted to up = record {
    looked = counted.looked;
    looks = (let p = counted.paid in let b = beyond-is None work to in omega arith);
    reads = λ _. counted.reads;
    calls = λ _. counted.calls;
    quiet = counted.quiet;
    told = λ none some. IfSome_then last beyond (λ e b. let w = counted.whole none in omega arith);
    rest = λ none past over. counted.whole none;
  }

  module _ (m : Occurrence) {ms : List Occurrence} {cursor : Cursor} {byte : Option ℕ} {work : Work}
      (onward : IsOnward a (from q m.end) start ms cursor byte work) where
    high : cursor.at + in_hand byte ≤ span.end
    high = within-end bytes byte onward.stands.after.inside onward.stands.hand (omega arith)

    low : m.end ≤ cursor.at
    low =
        let first = after-low a.built.kind (plain_of a.built) (on-leftmost a.built on) (on-some a.built on) (from q m.end) ms
        onward.node cursor.at (record { free = refl; ordered = onward.ordered; inside = inside; same = refl }) onward.stands.after in
        let up = onward.stands.after.within in omega arith

    paid-given : work.counts.looks ≤ a.most * work.counts.reads + (span.start - start) → (place : ℕ)
        → IsPaid (walking-at (Some m) (record work { place = place })) span.start
    paid-given paid place =
        let c = onward.counted in let h = high in let l = low in let o = onward.ordered in
        record {
          looked = c.looked;
          looks = (let b = beyond-is (Some m) (record work { place = place }) span.start in omega arith);
          reads = λ _. (let r = c.reads in omega arith);
          calls = λ _. (let r = c.calls in omega arith);
          quiet = c.quiet;
          told = λ none some. let w = c.whole none in omega arith;
          rest = λ none past over. absurd (omega arith);
        }

-- such a walk reads on past its matches
module _ {A M : Type 0} {seen : A → AutomatonView} {o : Onward A M} {finding : Finding} {tape : Taped} {span : Span}
    {last : Option ℕ} {start : ℕ} {counts : Counts} (past : IsReadingPast seen o finding tape span last start counts) where
  pub reads-past : reads_past (walking_of finding tape.bytes span last start (work_of tape counts)) ≡ true
  reads-past =
      ap (λ (f : Finding). reads_past_by f.picking.order f.anchored f.built.patterns) past.finds ∙ past.lawful.core.on past.past

-- it has gone on, and is kept so
pub record HasGonePast {A M : Type 0} (seen : A → AutomatonView) (finding : Finding) (bytes : List ℕ) (span : Span) (last : Option ℕ)
    (start : ℕ) (work : Work) (found : Option Occurrence) (new : Onward A M) (new_tape : Taped) (new_counts : Counts) : Type 0 where
  pub goes_on : GoesOn (walking_of finding bytes span last start work) found
      (walking_of finding new_tape.bytes (record { start = after span.end found; end = span.end }) (last_after last found) start
      (record { place = reached_by new.here; counts = new_counts }))
  pub past : IsReadingPast seen new finding new_tape (record { start = after span.end found; end = span.end }) (last_after last found)
      start new_counts

-- where what it goes on with is paid, and it is on its way there or has ended
module _ {A M : Type 0} (seen : A → AutomatonView) (o : Onward A M) (tape : Taped) (span : Span) (last : Option ℕ) (start : ℕ)
    (counts : Counts) (inside : span.end ≤ length tape.bytes) (ordered : span.start ≤ span.end)
    (past : IsReadingPast seen o (finding_of (seen o.core.automaton.now) No false) tape span last start counts) where
  abbrev a : AutomatonView
  a = seen o.core.automaton.now

  abbrev asked : Search
  asked = search_of a.built No tape.bytes span.start span.end

  module _ (here : Position) (ends : here.end ≡ span.end) (new_counts : Counts) (place : ℕ) where
    abbrev work : Work
    work = record { place = place; counts = new_counts }

    -- what it has done, by where it has come to
    abbrev done : Work
    done = record { place = reached_by here; counts = new_counts }

    goes-by : Grows counts new_counts → MovesApart (record { place = reached_by o.here; counts = counts }) done → (found : Option Occurrence)
        → found ≡ pick a.built.kind asked
        → IsPaid (walking-at a tape.bytes span last start (past.lawful.core.on past.past) inside ordered past.begun past.beyond found done) span.start
        → GoesOn (walking_of (finding_of a No false) tape.bytes span last start (record { place = reached_by o.here; counts = counts })) found
        (walking-at a tape.bytes span last start (past.lawful.core.on past.past) inside ordered past.begun past.beyond found done)
    goes-by grows moves found answer paid =
        let same : found ≡ next_match a.built.kind asked last =
        answer ∙ sym (next-any a.built.kind (plain_of a.built) (on-some a.built (past.lawful.core.on past.past)) asked
        (record { free = refl; ordered = ordered; inside = inside; same = refl }) last) in
        record {
          gives = gives a.built.kind asked last found same;
          next = same;
          same = refl;
          finds = λ not. absurd (false≢true (sym not ∙ reads-past past));
          grows = grows;
          apart = λ _. moves;
          paid = paid;
        }

    past-by : Grows counts new_counts → MovesApart (record { place = reached_by o.here; counts = counts }) done → (found : Option Occurrence)
        → HasGiven a o.core.commits.now.chains asked start found here.rest here.cursor here.byte work
        → HasGonePast seen (finding_of a No false) tape.bytes span last start (record { place = reached_by o.here; counts = counts }) found
        (record o { here = here }) (record { bytes = tape.bytes; place = place }) new_counts
    past-by grows moves None given =
        let paid = paid-ended a tape.bytes span last start (past.lawful.core.on past.past) inside ordered past.begun past.beyond {work = done}
        given.goes in
        record {
          goes_on = goes-by grows moves None given.answer (paid span.start (omega arith));
          past = record {
            finds = refl;
            lawful = past.lawful;
            past = past.past;
            ends = ends;
            begun = (let b = past.begun in omega arith);
            legal = omega arith;
            beyond = IfSome_then last past.beyond (λ e b. omega arith);
            sound = λ up. absurd (omega arith);
            onward = λ up. absurd (omega arith);
            ended = λ _. paid (span.end + 1) (omega arith);
          };
        }
    past-by grows moves (Some m) given =
        let onward = given.goes.1 in
        record {
          goes_on = goes-by grows moves (Some m) given.answer
              (paid-given a tape.bytes span last start (past.lawful.core.on past.past) inside ordered past.begun past.beyond m onward given.looks
              (reached_by here));
          past = record {
            finds = refl;
            lawful = past.lawful;
            past = past.past;
            ends = ends;
            begun = onward.begun;
            legal = (let h = onward.ordered in omega arith);
            beyond = omega arith;
            sound = λ _. given.goes.0;
            onward = λ _. onward;
            ended = λ over. absurd (let h = onward.ordered in omega arith);
          };
        }

-- a new tape changes nothing of it
with-fresh : {A M : Type 0} {seen : A → AutomatonView} {o : Onward A M} {finding : Finding} {tape : Taped} {span : Span}
    {last : Option ℕ} {start : ℕ} {counts : Counts} → IsReadingPast seen o finding tape span last start counts
    → IsReadingPast seen o finding (fresh tape.bytes) span last start counts
with-fresh past = record {
  finds = past.finds;
  lawful = past.lawful;
  past = past.past;
  ends = past.ends;
  begun = past.begun;
  legal = past.legal;
  beyond = past.beyond;
  sound = past.sound;
  onward = λ ordered. let o = past.onward ordered in record {
    node = o.node;
    stands = o.stands;
    counted = o.counted;
    unread = omega arith;
    begun = o.begun;
    ordered = o.ordered;
  };
  ended = past.ended;
}

-- it may go on with a new tape
module _ {A M : Type 0} {seen : A → AutomatonView} {o : Onward A M} {finding : Finding} {tape : Taped} {span : Span} {last : Option ℕ}
    {start : ℕ} {counts : Counts} (inside : span.end ≤ length tape.bytes) (ordered : span.start ≤ span.end)
    (past : IsReadingPast seen o finding tape span last start counts) {new : Taped} (is : new ≡ fresh tape.bytes) where
  pub may-next : span.end < usize_max → MayGo seen o.core (spot o.here new counts)
  may-next small =
      let f = with-fresh past in
      subst (λ (t : Taped). MayGo seen o.core (spot o.here t counts)) (sym is)
      (may-go seen o.core past.lawful past.past (fresh tape.bytes) counts span.start span.end start inside o.here past.ends
      (f.onward ordered) (past.sound ordered) small)

  -- and has gone on by what it has given
  pub fresh-goes : ((seen o.core.automaton.now).most ≡ 1) ⊎ ((seen o.core.automaton.now).most ≡ 2) → (found : Option Occurrence)
      (here : Position) (new_tape : Taped) (new_counts : Counts) → new_tape.bytes ≡ new.bytes → here.end ≡ o.here.end
      → GoesBy seen o.core (spot o.here new counts) found (spot here new_tape new_counts)
      → HasGonePast seen finding tape.bytes span last start (record { place = reached_by o.here; counts = counts }) found
      (record o { here = here }) new_tape new_counts
  fresh-goes one_or_two found here new_tape new_counts bytes end goes =
      let f = with-fresh past in
      let g = subst (λ (t : Taped). GoesBy seen o.core (spot o.here t counts) found (spot here new_tape new_counts)) is goes in
      subst (λ (f : Finding). HasGonePast seen f tape.bytes span last start (record { place = reached_by o.here; counts = counts }) found
      (record o { here = here }) new_tape new_counts) (sym past.finds)
      (subst (λ (bs : List ℕ). HasGonePast seen (finding_of (seen o.core.automaton.now) No false) tape.bytes span last start
      (record { place = reached_by o.here; counts = counts }) found (record o { here = here })
      (record { bytes = bs; place = new_tape.place }) new_counts) (sym (bytes ∙ ap (λ (t : Taped). t.bytes) is))
      (past-by seen o (fresh tape.bytes) span last start counts inside ordered
      (subst (λ (f : Finding). IsReadingPast seen o f (fresh tape.bytes) span last start counts) past.finds f) here (end ∙ past.ends) new_counts new_tape.place
      (goes-grow g) (goes-apart g) found
      (goes-given seen o.core past.lawful past.past (fresh tape.bytes) counts span.start span.end start inside o.here past.ends (f.onward ordered)
      (past.sound ordered) one_or_two g)))
