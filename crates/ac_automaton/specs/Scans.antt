-- What a search has done with its tape; a scan: an automaton under an anchoring, the text that it reads, how far it has come
-- in it, and how it skips.
use Rattle.std.specs.Prelude.{◌≡◌, ◌≢◌, ℕ, ◌+◌, ◌-◌, ◌*◌, ◌<◌, ◌≤◌, Bool, false, List, None, length, max, ◌⊎◌, ◌↔◌, IsTrue, [], Some, Option}
use Rattle.ac_util.specs.declared.search.Anchored.{Anchored}
use Rattle.ac_automaton.specs.Util.{Built, Counts, MatchKind, No, no_counts, Node, plain_patterns, reached, Search, Taped, text, Yes, credit, may_skip, Span, FirstOf, IsSkipFor, Skip, skip_for}
use Rattle.ac_automaton.specs.declared.automaton.scan.Cursor.{Cursor}
use Rattle.ac_automaton.specs.declared.automaton.scan.Scanner.{Scanner}
use Rattle.ac_automaton.specs.Automata.{AutomatonView, matches_of}

-- how many looks a search may take for each byte read, where an unanchored one may take `most`: an anchored one
-- follows no failure link, so it looks once
abbrev pub most_looks : Anchored → ℕ → ℕ
most_looks No most = most
most_looks Yes most = 1

-- the search of a span of these bytes
abbrev pub search_of : Built → Anchored → List ℕ → ℕ → ℕ → Search
search_of built anchored bytes start end = record {
  patterns = built.patterns;
  ignores_case = built.ignores_case;
  haystack = bytes;
  anchored = anchored;
  low = start;
  high = end;
}

-- the node that an automaton of this kind has reached once it has read the span as far as an offset
abbrev pub node_at : MatchKind → Search → ℕ → Node
node_at kind q at = reached kind (plain_patterns q) q.anchored (text (record q { high = at }))

-- no byte was read from the dead node on: there nothing more is found
abbrev pub StopsAtDead : MatchKind → Search → ℕ → Type 0
StopsAtDead kind q place = (at : ℕ) → q.low ≤ at → at < place → node_at kind q at ≢ None

-- an automaton of this kind stands at the node reached at an offset of a span, and was dead at none before it
pub record Reaches (stands : ℕ → Node → Type 0) (kind : MatchKind) (q : Search) (state at : ℕ) : Type 0 where
  pub there : stands state (node_at kind q at)
  pub onward : q.low ≤ at
  pub inside : at ≤ length q.haystack
  pub alive : StopsAtDead kind q at

-- nothing counted was taken back, and each byte read since brought a look
pub record Grows (counts new_counts : Counts) : Type 0 where
  pub reads : counts.reads ≤ new_counts.reads
  pub looks : counts.looks + (new_counts.reads - counts.reads) ≤ new_counts.looks
  pub calls : counts.calls ≤ new_counts.calls

-- what a search has done so far: the offset up to which its tape was read, and what was counted
pub record Work : Type 0 where
  pub place : ℕ
  pub counts : Counts

-- the work done on a tape
abbrev pub work_of : Taped → Counts → Work
work_of tape counts = record { place = tape.place; counts = counts }

-- the bytes of a tape, and the work done on it
pub record WorkedTape : Type 0 where
  pub bytes : List ℕ
  pub work : Work

abbrev pub tape_with : Taped → Counts → WorkedTape
tape_with tape counts = record { bytes = tape.bytes; work = work_of tape counts }

-- nothing was read or counted
abbrev pub nothing_done : Work
nothing_done = record { place = 0; counts = no_counts }

-- a search of start..end has read on from the start, each byte once and none past the end, and has counted that
-- it did: each byte that it passed over, unless it called the prefilter; it has looked at states at least once
-- and at most `most` times for each byte read, and has called the prefilter at most once for each byte of the
-- span, and not at all where it may not skip
pub record HasRead (most : ℕ) (skips : Bool) (start end : ℕ) (work new_work : Work) : Type 0 where
  pub onward : work.place ≤ new_work.place
  pub within : new_work.place ≤ max work.place end
  pub grows : Grows work.counts new_work.counts
  pub told : work.place < new_work.place → work.counts.reads < new_work.counts.reads
  pub whole : new_work.counts.calls ≡ work.counts.calls
      → work.counts.reads + (new_work.place - start) ≤ new_work.counts.reads
  pub reads : new_work.counts.reads ≤ work.counts.reads + (new_work.place - start)
  pub looks : new_work.counts.looks
      ≤ work.counts.looks + most * (new_work.counts.reads - work.counts.reads)
  pub calls : new_work.counts.calls ≤ work.counts.calls + (end - start)
  pub quiet : skips ≡ false → new_work.counts.calls ≡ work.counts.calls

-- an automaton under an anchoring: the nodes for which its states stand, and their match lists; what it was built from;
-- the anchoring, and whether it is to read no further than to a match; how many looks it may take for each byte where it
-- isn't anchored, and whether it was built to have a prefilter
pub record Scan : Type 1 where
  pub stands : ℕ → Node → Type 0
  pub listed : ℕ → List ℕ
  pub built : Built
  pub anchored : Anchored
  pub stops : Bool
  pub most : ℕ
  pub wants_prefilter : Bool

-- that of an automaton
abbrev pub scan_of : AutomatonView → Anchored → Bool → Scan
scan_of a anchored stops = record {
  stands = a.stands anchored;
  listed = a.listed;
  built = a.built;
  anchored = anchored;
  stops = stops;
  most = a.most;
  wants_prefilter = a.wants_prefilter;
}

-- what contracts see of a scanner: its scan, and the span of its tape that it reads
pub record ScannerView : Type 1 where
  pub scan : Scan
  pub span : Span

-- that of a scanner over an automaton of which this is seen
abbrev pub scanner : {A M : Type 0} → (A → AutomatonView) → Scanner A M → ScannerView
scanner seen s = record { scan = scan_of (seen s.automaton.now) s.anchored s.stops; span = s.span }

-- what a scan reads: the bytes of its tape, and where in these the span starts that it searches, and where that ends
pub record ScanText : Type 0 where
  pub bytes : List ℕ
  pub start : ℕ
  pub end : ℕ

-- the text of a haystack with a span
abbrev pub in_memory : List ℕ → Span → ScanText
in_memory bytes span = record { bytes = bytes; start = span.start; end = span.end }

module _ (s : Scan) (t : ScanText) where
  -- the search of the text
  abbrev pub search_through : Search
  search_through = search_of s.built s.anchored t.bytes t.start t.end

  -- the node reached at an offset of the tape
  abbrev pub node : ℕ → Node
  node at = node_at s.built.kind search_through at

  -- the automaton stands at an offset of the tape in a state for the node reached, and was dead at no offset before
  abbrev pub IsAt : ℕ → ℕ → Type 0
  IsAt state at = Reaches s.stands s.built.kind search_through state at

  -- and it isn't dead there
  pub record IsAlive (cursor : Cursor) : Type 0 where
    pub is_at : IsAt cursor.state cursor.at
    pub living : node cursor.at ≢ None

  -- at no offset between these has the node reached a match
  abbrev pub NoMatchBetween : ℕ → ℕ → Type 0
  NoMatchBetween from to = (k : ℕ) → from < k → k < to → matches_of s.built s.anchored (node k) ≡ []

  -- a scan has come from one offset of its tape to another: by bytes each of which it has read once, or passed over by
  -- the prefilter, which it called at most once for each, and not at all where it may not skip; and each look is paid
  -- for, by the bytes read and by what the nodes' lengths are worth
  pub record ScansTo (from : ℕ) (work : Work) (to : ℕ) (new_work : Work) : Type 0 where
    pub onward : from ≤ to
    pub forward : work.place ≤ new_work.place
    pub unread : new_work.place ≤ to
    pub grows : Grows work.counts new_work.counts
    pub told : work.place < new_work.place → work.counts.reads < new_work.counts.reads
    pub whole : new_work.counts.calls ≡ work.counts.calls → to ≤ max from new_work.place
    pub counted : new_work.counts.calls ≡ work.counts.calls
        → work.counts.reads + (to - from) ≤ new_work.counts.reads
    pub reads : new_work.counts.reads ≤ work.counts.reads + (new_work.place - from)
    pub paid : new_work.counts.looks + credit (most_looks s.anchored s.most) (node to)
        ≤ work.counts.looks + credit (most_looks s.anchored s.most) (node from)
        + most_looks s.anchored s.most * (new_work.counts.reads - work.counts.reads)
    pub calls : new_work.counts.calls ≤ work.counts.calls + (to - from)
    pub quiet : may_skip s.wants_prefilter search_through ≡ false → new_work.counts.calls ≡ work.counts.calls

  -- it has come to where its automaton stands now, and has passed over no match
  pub record PassesNoMatch (from : ℕ) (work : Work) (cursor : Cursor) (new_work : Work) : Type 0 where
    pub is_at : IsAt cursor.state cursor.at
    pub scans : ScansTo from work cursor.at new_work
    pub none : NoMatchBetween from cursor.at

-- a scanner may read on from a cursor: some text with the bytes of its tape has led there, the automaton isn't dead, and
-- a byte of the span is left, which the tape has not lent yet
pub record MayAdvance (v : ScannerView) (tape : Taped) (cursor : Cursor) : Type 0 where
  pub alive : (t : ScanText) × (t.bytes ≡ tape.bytes) × IsAlive v.scan t cursor
  pub before_end : cursor.at < v.span.end
  pub inside : v.span.end ≤ length tape.bytes
  pub unread : tape.place ≤ cursor.at

-- a test tells whether that is so of a scanner
abbrev pub TellsOver : ScannerView → Cursor → Bool → Type 0
TellsOver v cursor result = (u : Node) → v.scan.stands cursor.state u → IsTrue result
    ↔ ((v.span.end ≤ cursor.at) ⊎ (u ≡ None))

-- how an automaton skips that was built to have a prefilter, or not
abbrev pub skip_with : Bool → Built → Option Skip
skip_with wants_prefilter built = skip_for wants_prefilter built.ignores_case built.patterns

-- a search for the patterns of what was built may skip so
abbrev pub Serves : Built → Skip → Type 0
Serves built skip = IsSkipFor skip built.ignores_case built.patterns

-- an unanchored search of an automaton that was built to have a prefilter, or not, may skip so
pub record Skips (wants_prefilter : Bool) (built : Built) (skip : Skip) : Type 0 where
  pub built_so : skip_with wants_prefilter built ≡ Some skip
  pub serves : Serves built skip

-- a scan may skip to these first bytes
pub record SkipsTo (s : Scan) (bytes : List ℕ) : Type 0 where
  pub unanchored : s.anchored ≡ No
  pub skips : Skips s.wants_prefilter s.built (FirstOf bytes)
