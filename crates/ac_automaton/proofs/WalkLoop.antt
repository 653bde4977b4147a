-- A walk that finds match after match: what it has read and counted.
use Rattle.ac_util.proofs.Prelude.{◌≡◌, ℕ, ◌+◌, ◌-◌, ◌<◌, ◌≤◌, ◌||◌, not, if◌then◌else◌, ap, Bool, MatchBool, true, false, ◌∙◌, [], ◌∷◌, inl, inr, refl, sym, arith, Option, Some, None, IfSome, MatchOption, ◌==◌, max, min, rules, and_parts, cases_Bool, eqb-true, false≢true, IfSome_then, common_steps}
use Rattle.ac_automaton.specs.Prelude.{from, is_leftmost, LeftmostFirst, LeftmostLongest, MatchKind, next_match, Occurrence, pick, repeats, Search, shortest_len, Standard, walk_after, after, Finds, GoesOn, Grows, HasFound, HasSearched, IsByFinds, IsPaid, IsUnderWay, MovesApart, kept_place, last_after, Picking, reads_past, Walking, Work}
use Rattle.ac_util.proofs.OneLonger.{none-past_end}
use Rattle.ac_util.proofs.Shortest.{shortest-least}
use Rattle.ac_util.proofs.Walks.{pick-in_span, pick-Occurs, walk_after-None, walk_after-Some}
use Rattle.ac_automaton.proofs.ReadOn.{grows-trans}

-- a find of a walk reads from no place past the one read up to, and under Standard from just there
kept : (order : MatchKind) (place : ℕ)
    → (kept_place order place ≤ place) × (order ≡ Standard → kept_place order place ≡ place)
kept Standard place = (omega arith, λ standard. refl)
kept LeftmostFirst place = (omega arith, λ standard. absurd (cc))
kept LeftmostLongest place = (omega arith, λ standard. absurd (cc))

-- a find has found an empty match again at the low end of its span: some pattern is empty, and under Standard it
-- has read nothing of what is left and called no prefilter
pub record HasRepeated (picking : Picking) (q : Search) (work new_work : Work) : Type 0 where
  pub room : q.low ≤ q.high
  pub shortest : shortest_len q.patterns ≡ 0
  pub place : picking.order ≡ Standard → new_work.place ≤ max work.place q.low
  pub calls : picking.order ≡ Standard → new_work.counts.calls ≤ work.counts.calls

-- so it is where what was found repeats the match before, which ended no later than the span starts
pub repeated : {picking : Picking} {q : Search} {r : Option Occurrence} {work new_work : Work} (last : Option ℕ)
    → HasSearched picking q r work new_work → IfSome last (λ e. e ≤ q.low) → repeats r last ≡ true
    → HasRepeated picking q work new_work
repeated {r = None} last found beyond again = absurd (cc)
repeated {r = Some m} None found beyond again = absurd (cc)
repeated {picking = picking} {q = q} {r = Some m} (Some e) found beyond again =
    search (
      rules,
      and_parts,
      eqb-true,
      pick-Occurs,
      shortest-least,
      eqb-true m.end e (and_parts (m.start == m.end) (m.end == e) again).1,
      and_parts (m.start == m.end) (m.end == e) again,
      pick-Occurs picking.order q m (sym found.answer),
    )

-- a walk that goes on at a place, after a match that ended at `last`
abbrev pub going_on : Walking → ℕ → Option ℕ → Work → Walking
going_on walking stop last work = record walking {
  rest = walk_after walking.picking.order (from walking.left stop) last;
  left = from walking.left stop;
  last = last;
  work = work;
}

-- a walk that goes on once a find has answered: at the end of the match, or past the end of the span
abbrev pub next : Walking → Option Occurrence → Work → Walking
next walking r work = going_on walking (after walking.left.high r) (last_after walking.last r) work

-- a walk may go on at a place, after this work: under Standard nothing past it was read, and unless the prefilter
-- was called or some pattern is empty, each byte up to it was
record MayGoOn (walking : Walking) (work : Work) (stop : ℕ) (last : Option ℕ) : Type 0 where
  onward : walking.left.low ≤ stop
  legal : stop ≤ walking.left.high + 1
  beyond : IfSome last (λ e. e ≤ stop)
  place : walking.picking.order ≡ Standard
      → work.place ≤ max (kept_place walking.picking.order walking.work.place) stop
  calls : walking.picking.order ≡ Standard
      → work.counts.calls ≤ walking.work.counts.calls + (min stop walking.left.high - walking.left.low)
  covered : work.counts.calls ≡ walking.work.counts.calls → 0 < shortest_len walking.left.patterns
      → stop ≤ walking.left.high → walking.work.counts.reads + (stop - walking.left.low) ≤ work.counts.reads
  told : work.counts.calls ≡ 0 → 0 < shortest_len walking.left.patterns
      → IfSome last (λ e. e - walking.start ≤ work.counts.reads)

-- a walk that is under way is so still where it may go on after a find
under_way-on : {walking : Walking} {work : Work} {r : Option Occurrence} {stop : ℕ} {last : Option ℕ}
    → IsUnderWay walking → HasFound walking walking.left r walking.work work → MayGoOn walking work stop last
    → IsUnderWay (going_on walking stop last work)
under_way-on {walking = walking} {work = work} way found may = grind (arith, common_steps)

-- it may go on one place further on, where the match before was found again
under_way-further : {walking : Walking} {work : Work} {r : Option Occurrence} → IsUnderWay walking
    → HasFound walking walking.left r walking.work work → repeats r walking.last ≡ true
    → IsUnderWay (going_on walking (walking.left.low + 1) walking.last work)
under_way-further {walking = walking} way found again = grind (arith, common_steps, repeated walking.last found way.beyond again)

-- and it may go on after what was found
under_way-found : {walking : Walking} {work : Work} {r : Option Occurrence} → IsUnderWay walking
    → HasFound walking walking.left r walking.work work → IsUnderWay (next walking r work)
under_way-found {walking = walking} {r = None} way found =
    let read = found.read in let k = kept walking.picking.order walking.work.place in
    under_way-on way found (record {
      onward = omega arith;
      legal = omega arith;
      beyond = IfSome_then walking.last way.beyond (λ e b. omega arith);
      place = λ _. omega arith;
      calls = λ _. omega arith;
      covered = λ _ _ past. absurd (omega arith);
      told = λ none some. IfSome_then walking.last (way.told (omega arith) some) (λ e t. omega arith);
    })
under_way-found {walking = walking} {r = Some m} way found =
    let read = found.read in let span = pick-in_span walking.picking.order walking.left m (sym found.answer) in
    under_way-on way found (record {
      onward = omega arith;
      legal = omega arith;
      beyond = omega arith;
      place = λ standard. (found.stops standard).place;
      calls = λ standard. omega (arith, (found.stops standard).calls);
      covered = λ same _ _. found.says.reads same;
      told = λ none some.
          omega (arith, way.covered (omega arith) some (omega arith), found.says.reads (omega arith));
    })

-- a walk gives its first match, or has none: then a walk past the end of its span has none either
pub gives : (order : MatchKind) (q : Search) (last : Option ℕ) (r : Option Occurrence) → r ≡ next_match order q last
    → MatchOption r
    ((walk_after order q last ≡ []) × (walk_after order (from q (after q.high r)) (last_after last r) ≡ []))
    (λ m. walk_after order q last ≡ m ∷ walk_after order (from q (after q.high r)) (last_after last r))
gives order q last None is = search (rules, none-past_end, walk_after-None)
gives order q last (Some m) is = walk_after-Some order q last m (sym is)

-- a walk has gone on and is under way still
pub record HasGone (walking : Walking) (r : Option Occurrence) (new_walking : Walking) : Type 0 where
  pub goes_on : GoesOn walking r new_walking
  pub way : IsByFinds new_walking

-- what its finds have counted has grown
finds-grow : (walking : Walking) (work : Work) → Finds walking work → Grows walking.work.counts work.counts
finds-grow walking work finds = by (repeats (pick walking.picking.order walking.left) walking.last) finds
  where
    by : (t : Bool) → MatchBool t
        ((between : Work)
        × HasFound walking walking.left (pick walking.picking.order walking.left) walking.work between
        × HasFound walking (from walking.left (walking.left.low + 1))
        (pick walking.picking.order (from walking.left (walking.left.low + 1))) between work)
        (HasFound walking walking.left (pick walking.picking.order walking.left) walking.work work)
        → Grows walking.work.counts work.counts
    by true (between, first, second) = grows-trans first.read.grows second.read.grows
    by false found = found.read.grows

-- under Standard its finds go on where it had come to, and read no more bytes than lie between
finds-apart : (walking : Walking) (work : Work) → IsUnderWay walking → walking.picking.order ≡ Standard → Finds walking work
    → MovesApart walking.work work
finds-apart walking work way standard finds =
    let w = way.unread standard in let k = (kept walking.picking.order walking.work.place).1 standard in
    elim (cases_Bool (repeats (pick walking.picking.order walking.left) walking.last)) [
      | inl again ↦
          (let both = rw again at finds in
          let between = both.0 in let first = both.1.read in let second = both.2.read in
          let there = (repeated walking.last both.1 way.beyond again).place standard in
          let next = (kept walking.picking.order between.place).1 standard in
          let a = first.onward in let b = first.reads in let c = second.onward in let d = second.reads in
          record { onward = omega arith; reads = omega arith })
      | inr once ↦
          (let found = rw once at finds in let read = found.read in let a = read.onward in let b = read.reads in
          record { onward = omega arith; reads = omega arith })
    ]

-- under Standard alone a walk by finds reads no byte twice
once-standard : (order : MatchKind) (past : Bool) → past ≡ false → (not (is_leftmost order) || past) ≡ true → order ≡ Standard
once-standard Standard past finds once = refl
once-standard LeftmostFirst past finds once = absurd (false≢true (sym finds ∙ once))
once-standard LeftmostLongest past finds once = absurd (false≢true (sym finds ∙ once))

-- what it has counted is paid
paid-finds : {walking : Walking} → IsUnderWay walking → reads_past walking ≡ false → (to : ℕ) → IsPaid walking to
paid-finds {walking} way by_finds to =
    let none = ap (λ (t : Bool). if t then min to walking.left.high - walking.start else 0) by_finds in
    record {
      looked = way.looked;
      looks = (let l = way.looks in omega arith);
      reads = λ once. (let s = once-standard walking.picking.order (reads_past walking) by_finds once in
          let r = way.reads s in let w = way.within in omega arith);
      calls = λ once. (let s = once-standard walking.picking.order (reads_past walking) by_finds once in
          let c = way.called s in omega arith);
      quiet = way.quiet;
      told = way.told;
      rest = λ none past. absurd (false≢true (sym by_finds ∙ past));
    }

-- it has gone on where the next match is found by one find or by two
pub has-gone : {walking : Walking} {work : Work} {r : Option Occurrence} → IsUnderWay walking
    → walking.rest ≡ walk_after walking.picking.order walking.left walking.last
    → r ≡ next_match walking.picking.order walking.left walking.last → Finds walking work → reads_past walking ≡ false
    → HasGone walking r (next walking r work)
has-gone {walking = walking} {work = work} {r = r} way rest is finds by_finds =
    let still : IsUnderWay (next walking r work) =
    elim (cases_Bool (repeats (pick walking.picking.order walking.left) walking.last)) [
      | inl again ↦ let both = rw again at finds in
          rw (is, again) (under_way-found (under_way-further way both.1 again) both.2)
      | inr once ↦ rw (is, once) (under_way-found way (rw once at finds))
    ] in record {
      goes_on = record {
        gives = rw rest (gives walking.picking.order walking.left walking.last r is);
        next = is;
        same = refl;
        finds = λ _. finds;
        grows = finds-grow walking work finds;
        apart = λ once. finds-apart walking work way (once-standard walking.picking.order (reads_past walking) by_finds once) finds;
        paid = paid-finds still by_finds walking.left.low;
      };
      way = record { by_finds = by_finds; under_way = still };
    }
