-- By which order a find picks, what it answers, and when it has read enough.
use Rattle.std.specs.Prelude.{ℕ, Bool, ◌≡◌, ◌≢◌, ◌⊎◌, ◌↔◌, IsTrue, ◌+◌, ◌-◌, ◌≤◌, false, true, List, Option, None, IfSome, option_map, slice_get, length, max, nat_lt}
use Rattle.ac_util.specs.declared.search.Anchored.{Anchored}
use Rattle.ac_automaton.specs.Util.{Built, find_result, MatchKind, order_of, InputView, depth, may_skip, No, Node, Occurrence, occurrence, pattern_of, pick, Search, shortest_len, Span, Standard, Taped, usize_max, Yes}
use Rattle.ac_automaton.specs.Automata.{AutomatonView, matches_of}
use Rattle.ac_automaton.specs.declared.automaton.scan.Cursor.{Cursor}
use Rattle.ac_automaton.specs.Scans.{HasRead, StopsAtDead, Work, most_looks, node_at, search_of, ScannerView, WorkedTape}

-- how finds are made: the kind of their automaton, and the order by which they pick; how many looks it may take for each
-- byte where it isn't anchored, and whether it was built to have a prefilter
pub record Picking : Type 0 where
  pub kind : MatchKind
  pub order : MatchKind
  pub most : ℕ
  pub wants_prefilter : Bool

-- by an automaton of this kind, with `earliest` or without
abbrev pub picking_of : ℕ → MatchKind → Bool → Bool → Picking
picking_of most kind wants_prefilter earliest =
    record { kind = kind; order = order_of kind earliest; most = most; wants_prefilter = wants_prefilter }

-- what the automaton of a finder was built from, and the anchoring; and how its finds are made
pub record Finding : Type 0 where
  pub built : Built
  pub anchored : Anchored
  pub picking : Picking

-- the finder of an automaton
abbrev pub finding_of : AutomatonView → Anchored → Bool → Finding
finding_of a anchored earliest =
    record { built = a.built; anchored = anchored; picking = picking_of a.most a.built.kind a.wants_prefilter earliest }

-- whether a match may be picked anywhere in a span: the search isn't anchored, and no pattern is empty
abbrev pub is_free : Anchored → List (List ℕ) → Bool
is_free No patterns = nat_lt 0 (shortest_len patterns)
is_free Yes patterns = false

-- what a core is asked: a span of the bytes of a tape, and two options
abbrev pub asked : List ℕ → ℕ → ℕ → Anchored → Bool → InputView
asked bytes start end anchored earliest =
    record { haystack = bytes; start = start; end = end; anchored = anchored; earliest = earliest }

-- what it answers
abbrev pub found_by : AutomatonView → InputView → Option Occurrence
found_by a input = find_result a.built input

-- unless the prefilter was called, the place of reading is past the match, and each byte from the start of the
-- span to the end of the match was read
pub record HasReadMatch (start : ℕ) (work new_work : Work) (m : Occurrence) : Type 0 where
  pub place : new_work.counts.calls ≡ work.counts.calls → m.end ≤ max start new_work.place
  pub reads : new_work.counts.calls ≡ work.counts.calls
      → work.counts.reads + (m.end - start) ≤ new_work.counts.reads

-- nothing past the end of the match was read, and the prefilter was called at most once for each byte up to it
pub record ReadsTo (start : ℕ) (work new_work : Work) (m : Occurrence) : Type 0 where
  pub place : new_work.place ≤ max work.place m.end
  pub calls : new_work.counts.calls ≤ work.counts.calls + (m.end - start)

-- a search that picks by this order has read enough: it stops at the first match and has one, or it has read the
-- span to its end, or its automaton is dead
abbrev pub IsDecided : MatchKind → MatchKind → Search → Option Occurrence → ℕ → Type 0
IsDecided kind order q found place =
    ((order ≡ Standard) × (found ≢ None)) ⊎ ((q.high ≤ max q.low place) ⊎ (node_at kind q place ≡ None))

-- a find has answered: what it has done to its tape and its counts. One that stops at the first match has read nothing
-- past its end, and none has read from the dead node on; and unless it called the prefilter it has read enough
pub record HasSearched (picking : Picking) (q : Search) (found : Option Occurrence) (work new_work : Work) : Type 0 where
  pub answer : found ≡ pick picking.order q
  pub read : HasRead (most_looks q.anchored picking.most) (may_skip picking.wants_prefilter q) q.low q.high work new_work
  pub says : IfSome found (HasReadMatch q.low work new_work)
  pub stops : picking.order ≡ Standard → IfSome found (ReadsTo q.low work new_work)
  pub dead : StopsAtDead picking.kind q new_work.place
  pub decided : new_work.counts.calls ≡ work.counts.calls
      → IsDecided picking.kind picking.order q found new_work.place

-- where a pattern stands that ends at an offset
abbrev pub place_of : Built → ℕ → ℕ → Occurrence
place_of built end number = occurrence number (end - length (pattern_of built.patterns number)) end

-- the node fits into what was read from start to end, and in an anchored search is the whole of it or dead
pub record FitsIn (anchored : Anchored) (u : Node) (start end : ℕ) : Type 0 where
  pub ordered : start ≤ end
  pub short : depth u ≤ end - start
  pub whole : anchored ≡ Yes → u ≢ None → depth u ≡ end - start

-- what a state that stands for the node finds where the text read ends: the first of the matches that count
abbrev pub found_at : Built → Anchored → Node → ℕ → Option Occurrence
found_at built anchored u end = option_map (place_of built end) (slice_get (matches_of built anchored u) 0)

-- a scanner's state stands for a node that fits into what was read since its span began, and usize counts that
pub record StandsIn (v : ScannerView) (cursor : Cursor) : Type 0 where
  pub node : Node
  pub stands : v.scan.stands cursor.state node
  pub fits : FitsIn v.scan.anchored node v.span.start cursor.at
  pub small : cursor.at ≤ usize_max

-- this is what each such node finds
abbrev pub FindsAt : ScannerView → Cursor → Option Occurrence → Type 0
FindsAt v cursor found =
    (u : Node) → v.scan.stands cursor.state u → FitsIn v.scan.anchored u v.span.start cursor.at
    → found ≡ found_at v.scan.built v.scan.anchored u cursor.at

-- a test tells whether each node for which a scanner's state stands has it
abbrev pub TellsAnswer : ScannerView → Bool → Cursor → Option Occurrence → Bool → Type 0
TellsAnswer v stops cursor last result =
    (u : Node) → v.scan.stands cursor.state u → IsTrue result
    ↔ ((v.span.end ≤ cursor.at) ⊎ ((u ≡ None) ⊎ ((stops ≡ true) × (last ≢ None))))

-- the span from one offset to another
abbrev pub between : ℕ → ℕ → Span
between start end = record { start = start; end = end }

-- a find may be made in a span of a tape: it ends within the haystack, starts no later than one past its own end, and not
-- before the tape's place of reading
pub record MaySearch (span : Span) (tape : Taped) : Type 0 where
  pub end_within : span.end ≤ length tape.bytes
  pub start_within : span.start ≤ span.end + 1
  pub unread : tape.place ≤ span.start

-- a finder has made a find in a span of a tape
pub record FindsIn (finder : Finding) (span : Span) (p : WorkedTape) (found : Option Occurrence) (q : WorkedTape) : Type 0 where
  pub searched : HasSearched finder.picking
      (search_of finder.built finder.anchored p.bytes span.start span.end) found p.work q.work
  pub bytes : q.bytes ≡ p.bytes
