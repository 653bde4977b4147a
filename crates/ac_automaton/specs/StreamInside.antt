-- How a search over a stream stands between two calls.
use Rattle.std.specs.Prelude.{All, ◌≡◌, ◌≢◌, ◌⊎◌, ℕ, ◌+◌, ◌-◌, ◌<◌, ◌≤◌, Bool, true, not, List, [], ◌++◌, slice_index, Option, None, Some, IfSome, MatchOption, if◌then◌else◌, length, max, take, drop}
use Rattle.ac_util.specs.Commits.{StandsAfter}
use Rattle.ac_automaton.specs.Util.{buffer_len, Built, is_leftmost, last_end, longest_len, No, Node, Occurrence, pick, reserve, Search, Standard, stream_refusal, stream_result, walk_after, usize_max}
use Rattle.ac_automaton.specs.declared.automaton.stream_settled.Phase.{Phase}
use Rattle.ac_automaton.specs.declared.automaton.stream_settled.Phase.TheVariants.{Open, Ended, Failed}
use Rattle.ac_automaton.specs.declared.automaton.commits.ChainMatch.{ChainMatch}
use Rattle.ac_automaton.specs.declared.automaton.onward.ChainRest.{ChainRest}
use Rattle.ac_automaton.specs.declared.automaton.onward.Given.{Given}
use Rattle.ac_automaton.specs.Automata.{AutomatonView, matches_of, plain_of, step_of}
use Rattle.ac_automaton.specs.Commits.{CommitsView, HasCommits}
use Rattle.ac_automaton.specs.Cores.{GivesIn, pending}
use Rattle.ac_automaton.specs.declared.automaton.onward.Core.{Core}
use Rattle.ac_automaton.specs.Onward.{IsRestBefore}
use Rattle.ac_automaton.specs.Reads.{StopsAt, in_hand, led}
use Rattle.ac_automaton.specs.Scans.{Scan, search_of}
use Rattle.ac_automaton.specs.declared.automaton.scan.Cursor.{Cursor}
use Rattle.ac_automaton.specs.Streams.{Streaming, IsAllGiven, matches_so_far}

-- inside: the start state, whether the first match found is given, and how many bytes may be kept back; the buffer, and how
-- many of its bytes are filled; the automaton's state, up to where the buffer was searched, and what of a chain is still to be
-- given; where in the stream the last match given ended
pub record Inside : Type 0 where
  pub start : ℕ
  pub stops : Bool
  pub reserve : ℕ
  pub buffer : List ℕ
  pub filled : ℕ
  pub state : ℕ
  pub at : ℕ
  pub rest : Option ChainRest
  pub begun : ℕ

-- how many bytes may be kept back: under a leftmost kind one more than under Standard, since a match that was found may still
-- change
abbrev pub most_kept : Built → ℕ
most_kept built = if is_leftmost built.kind then longest_len built.patterns else reserve built

-- the search over bytes of a stream from an offset on
abbrev pub stream_from : Built → List ℕ → ℕ → Search
stream_from built bytes begun = search_of built No bytes begun (length bytes)

-- so many matches were given, the last of which ended at an offset: whichever bytes follow, or none once the end was met, the
-- walk over all of them is these matches, and then what the walk gives from there on
pub record HasGivenFirst (phase : Phase) (built : Built) (bytes : List ℕ) (given begun : ℕ) : Type 0 where
  pub matches : List Occurrence
  pub count : length matches ≡ given
  pub end : last_end matches ≡ begun
  pub last : Option ℕ
  pub walks : (more : List ℕ) → (phase ≡ Ended → more ≡ [])
      → stream_result built (bytes ++ more) ≡ matches ++ walk_after built.kind (stream_from built (bytes ++ more) begun) last

-- under Standard no match was passed: none of a chain is left, and what was read since the last one has none
pub record HasPassedNone (i : Inside) (v : Streaming) : Type 0 where
  pub left : i.rest ≡ None
  pub none : pick v.built.kind (record (stream_from v.built v.bytes i.begun) { high = v.front + i.at }) ≡ None

-- a search stands at a node past the matches of a chain that it is still to give, whichever bytes follow, or none once the end was
-- met; while some are left bytes are kept from the last match given on
pub record StandsPast (stands : ℕ → Node → Type 0) (chains : List (List ChainMatch)) (i : Inside) (v : Streaming) : Type 0 where
  pub node : List ℕ
  pub there : stands i.state (Some node)
  pub after : (more : List ℕ) → (v.phase ≡ Ended → more ≡ [])
      → StandsAfter v.built.kind (plain_of v.built) (stream_from v.built (v.bytes ++ more) i.begun) (pending v.built chains i.rest) node
      (v.front + i.at)
  pub sound : IsRestBefore chains i.begun i.rest
  pub near : IfSome i.rest (λ r. v.kept ≤ i.begun)
  pub first : v.built.kind ≡ Standard → HasPassedNone i v

-- the end was met, all was searched, and no match is left
pub record HasSearchedAll (i : Inside) (v : Streaming) : Type 0 where
  pub ended : v.phase ≡ Ended
  pub whole : i.at ≡ i.filled
  pub none : pick v.built.kind (stream_from v.built v.bytes i.begun) ≡ None

-- a search over a stream as it is kept between two calls, by an automaton with these chains
pub record IsStreaming (stands : ℕ → Node → Type 0) (chains : List (List ChainMatch)) (i : Inside) (v : Streaming) : Type 0 where
  pub allowed : stream_refusal v.built ≡ None
  pub starts : stands i.start (Some [])
  pub stops : i.stops ≡ not (is_leftmost v.built.kind)
  pub reserve : i.reserve ≡ most_kept v.built
  pub filled : i.filled ≤ length i.buffer
  pub counted : length v.bytes ≡ v.front + i.filled
  pub small : length v.bytes ≤ usize_max
  pub holds : take i.filled i.buffer ≡ drop v.front v.bytes
  pub within : i.at ≤ i.filled
  pub read : i.begun ≤ v.front + i.at
  pub past : StandsPast stands chains i v
  pub given : HasGivenFirst v.phase v.built v.bytes v.given i.begun
  pub all : v.phase ≡ Ended → v.built.kind ≡ Standard → v.given ≡ length (matches_so_far v)
  pub failed : v.phase ≡ Failed → IsAllGiven v
  pub few : v.given ≤ i.begun
  pub in_buffer : v.front ≤ v.kept
  pub after : i.begun ≤ v.kept
  pub kept_within : v.kept ≤ length v.bytes
  pub back : (v.kept ≤ max i.begun (v.front + i.at - i.reserve)) ⊎ HasSearchedAll i v

-- the buffer of a search over a stream has the size that it should, and is cleared after the bytes of a stream that was closed
pub record IsBuffered (i : Inside) (v : Streaming) : Type 0 where
  pub size : v.buffer ≡ length i.buffer
  pub long : length i.buffer ≡ buffer_len v.built.patterns
  pub fits : longest_len v.built.patterns < length i.buffer
  pub clear : v.phase ≢ Open → All (λ b. b ≡ 0) (drop i.filled i.buffer)

-- a search by the automaton's commits, with a buffer
pub record IsSearching (a : AutomatonView) (c : CommitsView) (i : Inside) (v : Streaming) : Type 0 where
  pub commits : HasCommits a c
  pub streams : IsStreaming (a.stands No) c.chains i v
  pub buffered : IsBuffered i v

-- what a state gives is settled: the search stops at a match, or a byte came that leads to the dead node, or the stream has ended
abbrev pub SettlesBy : Bool → Option ℕ → Phase → Type 0
SettlesBy stops byte phase = (stops ≡ true) ⊎ ((byte ≢ None) ⊎ (phase ≡ Ended))

-- that is given which leaves a state, where it is settled
abbrev pub GivesSettled : {A M : Type 0} → (A → AutomatonView) → Core A M → ℕ → Option ℕ × Phase → Option Given → Type 0
GivesSettled seen k state at result =
    MatchOption result (SettlesBy k.stops at.0 at.1 → GivesIn seen k state None)
    (λ given. SettlesBy k.stops at.0 at.1 × GivesIn seen k state (Some given))

-- a search that stood at the node v has come to another by some bytes: it has passed no match if it stops at one, and a byte in
-- hand leads to the dead node
pub record Arrives (s : Scan) (bytes v : List ℕ) (cursor new_cursor : Cursor) (hand : Option ℕ) : Type 0 where
  pub node : List ℕ
  pub there : s.stands new_cursor.state (Some node)
  pub leads : led s bytes (Some v) cursor.at (new_cursor.at - cursor.at) ≡ Some node
  pub none : s.stops ≡ true → (n : ℕ) → 0 < n → n < new_cursor.at + in_hand hand - cursor.at
      → matches_of s.built s.anchored (led s bytes (Some v) cursor.at n) ≡ []
  pub dead : IfSome hand (λ b. step_of s.built s.anchored (Some node) b ≡ None)

-- a search has read on in some bytes up to their end, to a byte that leads to the dead node, or to a state where it is to stop. It
-- has followed one at least, where there is one and it leads on
pub record ReadsThrough (s : Scan) (bytes : List ℕ) (cursor new_cursor : Cursor) (byte : Option ℕ) : Type 0 where
  pub onward : cursor.at ≤ new_cursor.at
  pub within : cursor.at ≤ length bytes → new_cursor.at ≤ length bytes
  pub hand : IfSome byte (λ b. (new_cursor.at < length bytes) × (b ≡ slice_index bytes new_cursor.at))
  pub comes : (v : List ℕ) → s.stands cursor.state (Some v) → Arrives s bytes v cursor new_cursor byte
  pub moved : byte ≡ None → cursor.at < length bytes → cursor.at < new_cursor.at
  pub enough : byte ≡ None → (length bytes ≤ new_cursor.at) ⊎ StopsAt s new_cursor.state
