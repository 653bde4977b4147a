-- What is seen of an iterator over matches.
use Rattle.std.specs.Prelude.{◌≡◌, ℕ, ◌+◌, ◌-◌, ◌*◌, ◌<◌, ◌≤◌, Bool, false, true, ◌&&◌, ◌||◌, not, if◌then◌else◌, length, MatchBool, List, Option, None, Some, IfSome, min}
use Rattle.std.specs.Iterator.{YieldsFirst}
use Rattle.ac_util.specs.declared.search.Anchored.{Anchored}
use Rattle.ac_automaton.specs.Util.{InputView, Built, from, input_of, is_leftmost, LeftmostFirst, LeftmostLongest, MatchKind, may_skip, next_match, no_counts, Occurrence, pick, repeats, Search, shortest_len, Span, Standard, walk_after}
use Rattle.ac_automaton.specs.declared.automaton.walk.TapedFinder.{TapedFinder}
use Rattle.ac_automaton.specs.Finds.{Finding, is_free, Picking, picking_of, HasSearched}
use Rattle.ac_automaton.specs.Scans.{Grows, Work, most_looks, search_of, work_of}

-- the matches still to come; the finds that it makes; the search that is left, and where the match before it ended, if
-- there was one; where the whole span began; and what was done so far
pub record Walking : Type 0 where
  pub rest : List Occurrence
  pub picking : Picking
  pub left : Search
  pub last : Option ℕ
  pub start : ℕ
  pub work : Work

-- a walk by these finds, which has come to this span of some bytes after a match that ended at `last`
abbrev pub walking_of : Finding → List ℕ → Span → Option ℕ → ℕ → Work → Walking
walking_of finding bytes span last start work = record {
  rest = walk_after finding.picking.order (search_of finding.built finding.anchored bytes span.start span.end) last;
  picking = finding.picking;
  left = search_of finding.built finding.anchored bytes span.start span.end;
  last = last;
  start = start;
  work = work;
}

-- where a walk in a span with this end goes on once a find has answered: at the end of the match, or past that of
-- the span
abbrev pub after : ℕ → Option Occurrence → ℕ
after end None = end + 1
after end (Some m) = m.end

-- where the match before ended, once a find has answered
abbrev pub last_after : Option ℕ → Option Occurrence → Option ℕ
last_after last None = last
last_after last (Some m) = Some m.end

-- from where a find of a walk reads: under Standard it goes on with its tape; else it has a new one, since a
-- leftmost search may have read on past its match
abbrev pub kept_place : MatchKind → ℕ → ℕ
kept_place Standard place = place
kept_place LeftmostFirst place = 0
kept_place LeftmostLongest place = 0

-- a find of a walk in a span has answered
abbrev pub HasFound : Walking → Search → Option Occurrence → Work → Work → Type 0
HasFound walking q found work new_work =
    HasSearched walking.picking q found (record work { place = kept_place walking.picking.order work.place }) new_work

-- a walk takes one find for a match; or two, where the first finds an empty match again where the one before it
-- ended: then the second is made one byte further on
abbrev pub Finds : Walking → Work → Type 0
Finds walking new_work =
    MatchBool (repeats (pick walking.picking.order walking.left) walking.last)
    ((work : Work)
    × HasFound walking walking.left (pick walking.picking.order walking.left) walking.work work
    × HasFound walking (from walking.left (walking.left.low + 1))
    (pick walking.picking.order (from walking.left (walking.left.low + 1))) work new_work)
    (HasFound walking walking.left (pick walking.picking.order walking.left) walking.work new_work)

module _ {A M : Type 0} (finder : TapedFinder A M) (span : Span) where
  -- a find may be made in a span by a finder with its tape: the tape has the bytes of the input, and the span lies in them;
  -- where it goes on with its tape, that hasn't lent a byte of the span
  pub record MayFindIn : Type 0 where
    pub whole : finder.tape.bytes ≡ (input_of finder.input).haystack
    pub inside : span.end ≤ length finder.tape.bytes
    pub legal : span.start ≤ span.end + 1
    pub unread : finder.finder.picking.order ≡ Standard → finder.tape.place ≤ span.start

  -- its search of the span
  abbrev pub search_by : Search
  search_by = search_of finder.finder.built finder.finder.anchored finder.tape.bytes span.start span.end

  -- the find has answered
  abbrev pub FindsBy : Option Occurrence → TapedFinder A M → Type 0
  FindsBy found new_finder = HasSearched finder.finder.picking search_by found
      (record { place = kept_place finder.finder.picking.order finder.tape.place; counts = finder.looks })
      (work_of new_finder.tape new_finder.looks)

  -- so have the finds of a walk that has come to the span, after a match that ended at `last`
  abbrev pub WalksBy : Option ℕ → TapedFinder A M → Type 0
  WalksBy last new_finder = (start : ℕ)
      → Finds (walking_of finder.finder finder.tape.bytes span last start (work_of finder.tape finder.looks))
      (work_of new_finder.tape new_finder.looks)

-- only the tape's place and the counts have changed
pub record KeepsInput {A M : Type 0} (old new : TapedFinder A M) : Type 0 where
  pub finder : new.finder ≡ old.finder
  pub input : new.input ≡ old.input
  pub bytes : new.tape.bytes ≡ old.tape.bytes

-- whether a walk reads on past its matches, so that it reads each byte once: it isn't anchored, it prefers what starts first, and no
-- pattern is empty
abbrev pub reads_past_by : MatchKind → Anchored → List (List ℕ) → Bool
reads_past_by order anchored patterns = is_leftmost order && is_free anchored patterns

abbrev pub reads_past : Walking → Bool
reads_past walking = reads_past_by walking.picking.order walking.left.anchored walking.left.patterns

-- what a walk has done that begins: nothing; one that reads on past its matches begins at its start
abbrev pub first_work : Finding → ℕ → Work
first_work finding start = record {
  place = if reads_past_by finding.picking.order finding.anchored finding.built.patterns then start else 0;
  counts = no_counts;
}

-- a walk that begins: all its matches are still to come
abbrev pub walk_begun : Finding → InputView → Walking
walk_begun finding input =
    walking_of finding input.haystack (record { start = input.start; end = input.end }) None input.start (first_work finding input.start)

abbrev pub initial_walk : ℕ → Built → Bool → InputView → Walking
initial_walk most built wants_prefilter input =
    walk_begun (record {
      built = built;
      anchored = input.anchored;
      picking = picking_of most built.kind wants_prefilter input.earliest;
    }) input

-- whether a walk reads no byte of its span twice: under Standard a find reads none past its match; and one that reads on past its
-- matches goes on from there
abbrev pub reads_once : Walking → Bool
reads_once walking = not (is_leftmost walking.picking.order) || reads_past walking

-- how many looks a walk may have taken beyond those for each byte read: where it reads on past its matches one for each byte from its
-- start to an offset
abbrev pub looks_beyond : Walking → ℕ → ℕ
looks_beyond walking to = if reads_past walking then min to walking.left.high - walking.start else 0

-- what a walk has counted since it was made: for each byte read it has looked at states at least once and at most `most` times on the
-- whole, or where it is anchored once, but for what is allowed as far as an offset; where it reads no byte twice it has read at most
-- its span, and called the prefilter at most as often; where it may not skip it has called none; and unless it called one it has read
-- each byte as far as the end of its last match if no pattern is empty, and where it reads on past its matches and none is left the
-- whole span
pub record IsPaid (walking : Walking) (to : ℕ) : Type 0 where
  pub looked : walking.work.counts.reads ≤ walking.work.counts.looks
  pub looks : walking.work.counts.looks
      ≤ most_looks walking.left.anchored walking.picking.most * walking.work.counts.reads + looks_beyond walking to
  pub reads : reads_once walking ≡ true → walking.work.counts.reads ≤ walking.left.high - walking.start
  pub calls : reads_once walking ≡ true → walking.work.counts.calls ≤ walking.left.high - walking.start
  pub quiet : may_skip walking.picking.wants_prefilter walking.left ≡ false → walking.work.counts.calls ≡ 0
  pub told : walking.work.counts.calls ≡ 0 → 0 < shortest_len walking.left.patterns
      → IfSome walking.last (λ e. e - walking.start ≤ walking.work.counts.reads)
  pub rest : walking.work.counts.calls ≡ 0 → reads_past walking ≡ true → walking.left.high < walking.left.low
      → walking.left.high - walking.start ≤ walking.work.counts.reads

-- reading goes on where it had come to, and no more bytes were read than lie between: so none is paid for twice
pub record MovesApart (work new_work : Work) : Type 0 where
  pub onward : work.place ≤ new_work.place
  pub reads : new_work.counts.reads ≤ work.counts.reads + (new_work.place - work.place)

-- a walk has given the first of the matches that were left, or had none, and has gone on: it is the same walk,
-- it made one find or two unless it reads on past its matches, it has counted on from what it had, where it reads no byte twice it goes
-- on where it had come to, and all is paid, as far as the end of the match before
pub record GoesOn (walking : Walking) (found : Option Occurrence) (new_walking : Walking) : Type 0 where
  pub gives : YieldsFirst (λ (w : Walking). w.rest) walking found new_walking
  pub next : found ≡ next_match walking.picking.order walking.left walking.last
  pub same : new_walking ≡ record walking {
    rest = new_walking.rest;
    left = from walking.left (after walking.left.high found);
    last = last_after walking.last found;
    work = new_walking.work;
  }
  pub finds : reads_past walking ≡ false → Finds walking new_walking.work
  pub grows : Grows walking.work.counts new_walking.work.counts
  pub apart : reads_once walking ≡ true → MovesApart walking.work new_walking.work
  pub paid : IsPaid new_walking walking.left.low

-- a walk by finds as its iterator keeps it: it has gone as far as the low end of what is left, and under Standard it has
-- read nothing of that; and what it has counted is paid by the bytes read
pub record IsUnderWay (walking : Walking) : Type 0 where
  pub looked : walking.work.counts.reads ≤ walking.work.counts.looks
  pub looks : walking.work.counts.looks ≤ most_looks walking.left.anchored walking.picking.most * walking.work.counts.reads
  pub quiet : may_skip walking.picking.wants_prefilter walking.left ≡ false → walking.work.counts.calls ≡ 0
  pub told : walking.work.counts.calls ≡ 0 → 0 < shortest_len walking.left.patterns
      → IfSome walking.last (λ e. e - walking.start ≤ walking.work.counts.reads)
  pub onward : walking.start ≤ walking.left.low
  pub legal : walking.left.low ≤ walking.left.high + 1
  pub beyond : IfSome walking.last (λ e. e ≤ walking.left.low)
  pub unread : walking.picking.order ≡ Standard → walking.work.place ≤ walking.left.low
  pub within : walking.work.place ≤ walking.left.high
  pub reads : walking.picking.order ≡ Standard → walking.work.counts.reads ≤ walking.work.place - walking.start
  pub called : walking.picking.order ≡ Standard
      → walking.work.counts.calls ≤ min walking.left.low walking.left.high - walking.start
  pub covered : walking.work.counts.calls ≡ 0 → 0 < shortest_len walking.left.patterns
      → walking.left.low ≤ walking.left.high → walking.left.low - walking.start ≤ walking.work.counts.reads

-- a walk by finds that is under way
pub record IsByFinds (walking : Walking) : Type 0 where
  pub by_finds : reads_past walking ≡ false
  pub under_way : IsUnderWay walking
