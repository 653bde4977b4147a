-- A search that goes on from match to match: what it gives where it stands, and how it finds its next match.
use Rattle.std.specs.Prelude.{◌≡◌, ◌⊎◌, ℕ, ◌+◌, ◌-◌, ◌<◌, ◌≤◌, Bool, false, true, List, [], length, map, drop, slice_get, Option, None, Some, IfSome, MatchOption, option_map}
use Rattle.ac_automaton.specs.Util.{Built, Counts, IsNeedleMatch, No, Occurrence, one_more_call, pattern_of, skip_of, Span, Taped, usize_max}
use Rattle.ac_util.specs.Prelude.{outward}
use Rattle.ac_automaton.specs.declared.automaton.commits.ChainMatch.{ChainMatch}
use Rattle.ac_automaton.specs.declared.automaton.onward.ChainRest.{ChainRest}
use Rattle.ac_automaton.specs.declared.automaton.onward.Core.{Core}
use Rattle.ac_automaton.specs.declared.automaton.onward.Given.{Given}
use Rattle.ac_automaton.specs.declared.automaton.onward.Position.{Position}
use Rattle.ac_automaton.specs.declared.automaton.scan.Cursor.{Cursor}
use Rattle.ac_automaton.specs.declared.automaton.skip.SkipBudget.{SkipBudget}
use Rattle.ac_automaton.specs.Automata.{AutomatonView, plain_of}
use Rattle.ac_automaton.specs.Commits.{AreCommits, chain_at, CommitsView, ending_in, reads_on}
use Rattle.ac_automaton.specs.Finds.{place_of}
use Rattle.ac_util.specs.Prefilters.Skip.{Needle}
use Rattle.ac_util.specs.Commits.{IsPickIn, Anything, NodeCommits}
use Rattle.ac_automaton.specs.Reads.{HasReadOn, IsAtStart, MayRead, Point, ReadsOn}
use Rattle.ac_automaton.specs.Scans.{Scan, scan_of, Skips, Work, work_of}

-- the matches of a chain that are still to be given
abbrev pub pending : Built → List (List ChainMatch) → Option ChainRest → List Occurrence
pending built chains None = []
pending built chains (Some rest) =
    map (outward rest.base) (map (ending_in built) (drop rest.index (chain_at chains rest.chain)))

-- a match of a chain can be given: it is one of a pattern, and its offsets are counted
pub record IsGivable (built : Built) (rest : ChainRest) (found : ChainMatch) : Type 0 where
  pub numbered : found.pattern < length built.patterns
  pub within : length (pattern_of built.patterns found.pattern) ≤ rest.base + found.end
  pub small : rest.base + found.end ≤ usize_max
  pub more : rest.index < usize_max

-- so can the next match of this rest of a chain, if one is left
pub record MayTakeFrom (built : Built) (chains : List (List ChainMatch)) (rest : ChainRest) : Type 0 where
  pub chained : rest.chain < length chains
  pub each : (found : ChainMatch) → slice_get (chain_at chains rest.chain) rest.index ≡ Some found → IsGivable built rest found

-- it was given, and what is left is less by it
pub record TakesFrom (built : Built) (chains : List (List ChainMatch)) (rest : ChainRest) (m : Occurrence) (new : Option ChainRest)
    : Type 0 where
  pub found : ChainMatch
  pub there : slice_get (chain_at chains rest.chain) rest.index ≡ Some found
  pub stands : m ≡ place_of built (rest.base + found.end) found.pattern
  pub left : new ≡ Some (record { chain = rest.chain; index = rest.index + 1; base = rest.base })

-- or nothing is to be given
abbrev pub TakesKnown : Built → List (List ChainMatch) → Option ChainRest → Option Occurrence → Option ChainRest → Type 0
TakesKnown built chains old result new =
    MatchOption result ((new ≡ None) × (pending built chains old ≡ []))
    (λ m. (rest : ChainRest) × (old ≡ Some rest) × TakesFrom built chains rest m new)

-- a search may skip to its only pattern
abbrev pub SkipsToOnly : AutomatonView → List ℕ → Type 0
SkipsToOnly a needle = Skips a.wants_prefilter a.built (Needle needle)

-- the chain by its number, or the empty one
abbrev pub chain_of : List (List ChainMatch) → Option ℕ → List ChainMatch
chain_of chains None = []
chain_of chains (Some number) = chain_at chains number

-- u is the string of a state of which this is given once a byte leads from it to the dead state
pub record IsGiven (a : AutomatonView) (chains : List (List ChainMatch)) (u : List ℕ) (given : Given) : Type 0 where
  pub picked : Occurrence
  pub number : picked.pattern ≡ given.pattern
  pub rest : picked.end + given.rest ≡ length u
  pub chained : IfSome given.chain (λ number. number < length chains)
  pub node : List ℕ
  pub stands : a.stands No given.next (Some node)
  pub gives : NodeCommits a.built.kind (plain_of a.built) u Anything picked (map (ending_in a.built) (chain_of chains given.chain)) node

-- a search begins at its automaton's start; and unless it stops at a match it reads on past its matches by the commits
pub record IsCore (a : AutomatonView) (c : CommitsView) (start : ℕ) (stops : Bool) : Type 0 where
  pub starts : a.stands No start (Some [])
  pub on : stops ≡ false → reads_on a.built ≡ true
  pub commits : stops ≡ false → AreCommits a c

-- what is given by the first of these matches, after which the search begins anew
abbrev pub first_given : ℕ → List ℕ → Option Given
first_given start listed = option_map (λ p. record { pattern = p; rest = 0; next = start; chain = None }) (slice_get listed 0)

-- what is given of a state, if it stops at a match that state's first one
abbrev pub GivesAt : AutomatonView → List (List ChainMatch) → ℕ → Bool → ℕ → Option Given → Type 0
GivesAt a chains start true s result = result ≡ first_given start (a.listed s)
GivesAt a chains start false s result =
    (u : List ℕ) → a.stands No s (Some u)
    → MatchOption result (IsPickIn a.built.kind (plain_of a.built) No u None) (IsGiven a chains u)

-- where a match ends, or else an end
abbrev pub end_of : ℕ → Option Occurrence → ℕ
end_of end None = end
end_of end (Some m) = m.end

-- a spot of a search: where it stands, the bytes of its tape, and what it has done
pub record Spot : Type 0 where
  pub here : Position
  pub bytes : List ℕ
  pub work : Work

abbrev pub spot : Position → Taped → Counts → Spot
spot here tape counts = record { here = here; bytes = tape.bytes; work = work_of tape counts }

-- its point
abbrev pub point_of : Spot → Point
point_of p = record { bytes = p.bytes; cursor = p.here.cursor; hand = p.here.byte; work = p.work }

-- a search gives this where it stands, and goes on from there; or it gives none, and stays
abbrev pub Leaves : Built → Position → Option Given → Option Occurrence → Position → Type 0
Leaves built old None found new = (found ≡ None) × (new ≡ old)
Leaves built old (Some given) found new = (found ≡ Some (place_of built (old.cursor.at - given.rest) given.pattern))
    × (new ≡ record old {
      cursor = record { state = given.next; at = old.cursor.at };
      rest = option_map (λ number. record { chain = number; index = 0; base = old.cursor.at - given.rest })
          given.chain;
    })

-- a scan stands for a node that is no longer than what it has read
pub record FitsBefore (s : Scan) (cursor : Cursor) : Type 0 where
  pub node : List ℕ
  pub there : s.stands cursor.state (Some node)
  pub short : length node ≤ cursor.at

-- where a search stands that begins where a span does
abbrev pub begun_by : {A M : Type 0} → Core A M → Span → SkipBudget → Position
begun_by k span budget = record {
  cursor = record { state = k.start; at = span.start };
  byte = None;
  rest = None;
  budget = budget;
  end = span.end;
}

module _ {A M : Type 0} (seen : A → AutomatonView) (k : Core A M) where
  abbrev pub view : AutomatonView
  view = seen k.automaton.now

  abbrev pub chains : List (List ChainMatch)
  chains = k.commits.now.chains

  -- how it reads
  abbrev pub scan_by : Scan
  scan_by = scan_of view No k.stops

  -- its commits are those of its automaton, and so is its prefilter
  pub record IsSearchBy : Type 0 where
    pub core : IsCore view k.commits.now k.start k.stops
    pub skips : IfSome k.prefilter (λ p. Skips view.wants_prefilter view.built (skip_of p.now))

  -- it gives what leaves the state where it stands
  pub record GivesHere (old : Position) (found : Option Occurrence) (new : Position) : Type 0 where
    pub given : Option Given
    pub is : GivesAt view chains k.start k.stops old.cursor.state given
    pub gives : Leaves view.built old given found new

  -- it has read on as far as it reads, and gives what is given there
  pub record PicksRead (p : Spot) (found : Option Occurrence) (q : Spot) : Type 0 where
    pub stop : Position
    pub bytes : List ℕ
    pub read : HasReadOn scan_by p.here.end (point_of p) (point_of (record { here = stop; bytes = bytes; work = q.work }))
    pub gives : GivesHere stop found q.here

  -- or it has read on to its start, and gives what its prefilter finds from there on
  pub record PicksNeedle (p : Spot) (found : Option Occurrence) (q : Spot) : Type 0 where
    pub needle : List ℕ
    pub skips : SkipsToOnly view needle
    pub bytes : List ℕ
    pub cursor : Cursor
    pub work : Work
    pub read : ReadsOn scan_by p.here.end (point_of p) (record { bytes = bytes; cursor = cursor; hand = None; work = work })
    pub at_start : IsAtStart scan_by cursor.state
    pub before : cursor.at < p.here.end
    pub called : q.work ≡ record work { counts = one_more_call work.counts }
    pub found_so : IsNeedleMatch needle bytes cursor.at p.here.end found
    pub there : q.here.cursor ≡ record { state = cursor.state; at = end_of p.here.end found }
    pub empty : q.here.byte ≡ None
    pub none : q.here.rest ≡ None

  -- so it finds its next match, or none
  abbrev pub PicksBy : Spot → Option Occurrence → Spot → Type 0
  PicksBy p found q = PicksRead p found q ⊎ PicksNeedle p found q

  -- in the same bytes, up to the same end
  pub record Picks (p : Spot) (found : Option Occurrence) (q : Spot) : Type 0 where
    pub bytes : q.bytes ≡ p.bytes
    pub end : q.here.end ≡ p.here.end
    pub by : PicksBy p found q

  -- it gives the next match of its chain
  pub record GivesKnown (p : Spot) (found : Option Occurrence) (q : Spot) : Type 0 where
    pub m : Occurrence
    pub is : found ≡ Some m
    pub takes : TakesKnown view.built chains p.here.rest (Some m) q.here.rest
    pub same : q.here ≡ record p.here { rest = q.here.rest }
    pub still : q.work ≡ p.work

  -- it gives that, or none is left and it finds the next one
  abbrev pub GoesBy : Spot → Option Occurrence → Spot → Type 0
  GoesBy p found q = GivesKnown p found q ⊎ ((pending view.built chains p.here.rest ≡ []) × PicksBy p found q)

  -- in the same bytes, up to the same end
  pub record Goes (p : Spot) (found : Option Occurrence) (q : Spot) : Type 0 where
    pub bytes : q.bytes ≡ p.bytes
    pub end : q.here.end ≡ p.here.end
    pub by : GoesBy p found q

  -- it may read on
  abbrev pub MayGoOn : Spot → Type 0
  MayGoOn p = MayRead scan_by p.here.end (point_of p)

  -- it may go on
  pub record MayGo (p : Spot) : Type 0 where
    pub reads : MayGoOn p
    pub fits : FitsBefore scan_by p.here.cursor
    pub known : IfSome p.here.rest (MayTakeFrom view.built chains)

  -- it has read on, up to the same end
  pub record Leads (p q : Spot) : Type 0 where
    pub end : q.here.end ≡ p.here.end
    pub on : ReadsOn scan_by p.here.end (point_of p) (point_of q)

  -- as far as it reads
  pub record Stops (p q : Spot) : Type 0 where
    pub end : q.here.end ≡ p.here.end
    pub read : HasReadOn scan_by p.here.end (point_of p) (point_of q)

  -- what is given of a state is this
  abbrev pub GivesIn : ℕ → Option Given → Type 0
  GivesIn state given = GivesAt view chains k.start k.stops state given
