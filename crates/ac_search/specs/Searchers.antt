-- What is seen of a searcher: what it was built from, whether to have a prefilter, and the name and the states of
-- its engine. No answer of a search depends on the last three; an overlapping state is one for these states alone.
use Rattle.std.specs.Prelude.{ℕ, List, ◌≡◌, nat_le, Bool, false, true, length, Option, None, Result, Some, ⊤, ◌&&◌, if◌then◌else◌, MatchResult}
use Rattle.ac_util.specs.declared.search.Anchored.{Anchored}
use Rattle.ac_util.specs.Node.{Node}
use Rattle.ac_automaton.specs.Tries.{IsTrieState, Trie, listed_within}
use Rattle.ac_engines.specs.Prelude.{ContiguousView, DfaView, IsContiguousState, IsDfaState, list_at, match_list_at, contiguous_refusal, dfa_refusal, IsContiguousFrom, IsDfaFrom}
use Rattle.ac_automaton.specs.Util.{Both, BuildError, Built, InputView, MatchError, StartKind, Unanchored, Reading, item_at, Occurrence, overlapping_refusal, place_after, search_in}
use Rattle.ac_util.specs.declared.search.StartKind.TheVariants.{Anchored as AnchoredAlone}
use Rattle.ac_automaton.specs.Builds.{AnswersBuild, EngineSettings, IsAllowed, engine_built_by, fits, refusal_or, state_refusal, usual_engine_settings}
use Rattle.ac_automaton.specs.Iterators.{Walking, initial_walk}
use Rattle.ac_automaton.specs.Overlaps.{Overlapping, initial_listing, GivesNext, given_by}
use Rattle.ac_search.specs.declared.ahocorasick.choice.AhoCorasickKind.{AhoCorasickKind}
use Rattle.ac_search.specs.declared.ahocorasick.choice.AhoCorasickKind.TheVariants.{ContiguousNFA, DFA, NoncontiguousNFA}
use Rattle.ac_automaton.specs.OverlappingPieces.{PieceListing, nothing_listed}
use Rattle.ac_automaton.specs.Pieces.{no_pieces}
use Rattle.ac_automaton.specs.Streams.{StreamReading, Streaming, initial_stream}
use Rattle.ac_automaton.specs.declared.automaton.overlap.OverlappingState.{OverlappingState}
use Rattle.ac_automaton.specs.Prelude.{IsPlaced}

-- those of each engine
pub data States : Type 0 where
  Noncontiguous : Trie → States
  Contiguous : ContiguousView → States
  Dfa : DfaView → States

-- the node for which a state stands
abbrev pub stands_in : States → Anchored → ℕ → Node → Type 0
stands_in (Noncontiguous trie) anchored s u = IsTrieState trie s u
stands_in (Contiguous nfa) anchored s u = IsContiguousState nfa anchored s u
stands_in (Dfa dfa) anchored s u = IsDfaState dfa anchored s u

-- and its match list
abbrev pub listed_in : States → ℕ → List ℕ
listed_in (Noncontiguous trie) s = listed_within trie.order trie.states s s
listed_in (Contiguous nfa) s = match_list_at nfa s
listed_in (Dfa dfa) s = list_at dfa s

pub record Searcher : Type 0 where
  pub built : Built
  pub wants_prefilter : Bool
  pub kind : AhoCorasickKind
  pub states : States

-- the settings of a searcher: what every engine is built by, which searches it supports, the engine where one is named,
-- the length below which states of a contiguous NFA are dense, and whether bytes that need not be distinguished share a class
pub record Settings : Type 0 where
  pub engine : EngineSettings
  pub start_kind : StartKind
  pub kind : Option AhoCorasickKind
  pub dense_depth : ℕ
  pub byte_classes : Bool

abbrev pub usual_settings : Settings
usual_settings = record {
  engine = usual_engine_settings;
  start_kind = Unanchored;
  kind = None;
  dense_depth = 2;
  byte_classes = true;
}

-- what a searcher over these patterns is built from
abbrev pub built_by : Settings → List (List ℕ) → Built
built_by settings patterns = record (engine_built_by settings.engine patterns) { start_kind = settings.start_kind }

-- the refusal of an engine that would be too large, made from a noncontiguous NFA, or None
abbrev pub size_refusal : AhoCorasickKind → Settings → Built → Option BuildError
size_refusal NoncontiguousNFA settings from = None
size_refusal ContiguousNFA settings from = contiguous_refusal settings.dense_depth settings.byte_classes from
size_refusal DFA settings from = dfa_refusal settings.start_kind settings.byte_classes from

-- how many patterns there may be at most for a DFA to be chosen
abbrev pub most_for_dfa : ℕ
most_for_dfa = 100

-- whether there are so few patterns, and one start, that a DFA is worth its size
abbrev pub suits_dfa : StartKind → ℕ → Bool
suits_dfa Both count = false
suits_dfa Unanchored count = nat_le count most_for_dfa
suits_dfa AnchoredAlone count = nat_le count most_for_dfa

-- where no engine was named: the DFA where it suits and fits, else the contiguous NFA where it fits, else the
-- noncontiguous one
abbrev pub choose_kind : ℕ → StartKind → Bool → Bool → AhoCorasickKind
choose_kind patterns_len start_kind dfa_fits contiguous_fits =
    if suits_dfa start_kind patterns_len && dfa_fits then DFA
    else if contiguous_fits then ContiguousNFA
    else NoncontiguousNFA

-- the engine that was named, or else the one that is chosen
abbrev pub kind_for : Option AhoCorasickKind → AhoCorasickKind → AhoCorasickKind
kind_for (Some kind) other = kind
kind_for None other = other

abbrev pub engine_chosen_from : Settings → Built → AhoCorasickKind
engine_chosen_from settings from =
    kind_for settings.kind
    (choose_kind (length from.patterns) settings.start_kind (fits (size_refusal DFA settings from))
    (fits (size_refusal ContiguousNFA settings from)))

abbrev pub chosen_engine : Settings → List (List ℕ) → AhoCorasickKind
chosen_engine settings patterns = engine_chosen_from settings (engine_built_by settings.engine patterns)

-- how many looks at states an engine may take for each byte that it reads
abbrev pub looks_allowed : AhoCorasickKind → ℕ
looks_allowed NoncontiguousNFA = 2
looks_allowed ContiguousNFA = 2
looks_allowed DFA = 1

-- why an engine can't be built within the limits of the list, if it can't, but for lack of memory: the automaton from
-- which it is made is tested first
abbrev pub refusal_of : AhoCorasickKind → Settings → List (List ℕ) → Option BuildError
refusal_of kind settings patterns =
    refusal_or (state_refusal settings.engine patterns)
    (size_refusal kind settings (engine_built_by settings.engine patterns))

abbrev pub engine_refusal : Settings → List (List ℕ) → Option BuildError
engine_refusal settings patterns = refusal_of (chosen_engine settings patterns) settings patterns

-- states that were made from an automaton by these settings: a contiguous NFA has the dense depth and the classes
-- that were set, and a DFA the starts and the classes, with as many words or rows as these need
abbrev pub AreLaidOut : Settings → Built → States → Type 0
AreLaidOut settings from (Noncontiguous trie) = ⊤
AreLaidOut settings from (Contiguous nfa) =
    IsContiguousFrom settings.dense_depth settings.byte_classes from nfa.wants_prefilter nfa
AreLaidOut settings from (Dfa dfa) = IsDfaFrom settings.start_kind settings.byte_classes from dfa.wants_prefilter dfa

-- a build by these settings has succeeded: the searcher is over these patterns, is to have a prefilter if that was set,
-- is laid out as was set, and no limit refused it
pub record IsBuilt (settings : Settings) (patterns : List (List ℕ)) (searcher : Searcher) : Type 0 where
  pub built : searcher.built ≡ built_by settings patterns
  pub wants_prefilter : searcher.wants_prefilter ≡ settings.engine.prefilter
  pub kind : searcher.kind ≡ chosen_engine settings patterns
  pub laid_out : AreLaidOut settings (engine_built_by settings.engine patterns) searcher.states
  pub allowed : IsAllowed (engine_refusal settings patterns) patterns

-- what an iterator over the matches of an input begins with, by a searcher, and one over the listing
abbrev pub initial_walk_by : Searcher → InputView → Walking
initial_walk_by searcher input =
    initial_walk (looks_allowed searcher.kind) searcher.built searcher.wants_prefilter input

abbrev pub initial_listing_by : Searcher → InputView → Overlapping
initial_listing_by searcher input =
    initial_listing (looks_allowed searcher.kind) searcher.built searcher.wants_prefilter input

-- a build by these settings has succeeded, or is refused
abbrev pub BuildsSearcher : Settings → List (List ℕ) → Result Searcher BuildError → Type 0
BuildsSearcher settings patterns result =
    AnswersBuild (IsBuilt settings) (engine_refusal settings) patterns result

-- what was built, with these starts
abbrev pub with_start : Built → StartKind → Built
with_start built start = record built { start_kind = start }

-- it is one of which nothing was read, for what the searcher was built from; but its engine may have more starts
abbrev pub HasBegun : Built → Streaming → Type 0
HasBegun built stream = (start : StartKind) × (stream ≡ initial_stream (with_start built start))

-- the same of a text that comes in pieces
abbrev pub HasBegunInPieces : Built → Streaming → Type 0
HasBegunInPieces built text = (start : StartKind) × (text ≡ no_pieces (with_start built start))

-- and of the listing of such a text
abbrev pub HasBegunPieceListing : Built → PieceListing → Type 0
HasBegunPieceListing built text = (start : StartKind) × (text ≡ nothing_listed (with_start built start))

-- an iterator begins with one, over what its reader has left
abbrev pub HasBegunOver : Built → Reading → StreamReading → Type 0
HasBegunOver built reader matches =
    (start : StartKind)
    × (matches ≡ record { stream = initial_stream (with_start built start); reader = reader })

-- a state stands for a rank in the listing of an input by a searcher: it is fresh, or a call over these has left it
abbrev pub HasPlace : Searcher → InputView → OverlappingState → Type 0
HasPlace searcher input state =
    IsPlaced (stands_in searcher.states input.anchored) (listed_in searcher.states) searcher.built.kind
    (search_in searcher.built input) state

-- how many items of that listing were given
abbrev pub rank_in : Searcher → InputView → OverlappingState → ℕ
rank_in searcher input state = given_by (listed_in searcher.states) (search_in searcher.built input) state.reached

-- a call has done so; or it is refused, and the state is as it was
abbrev pub FindsItem : Searcher → InputView → OverlappingState → Result (Unit {0}) MatchError → OverlappingState → Type 0
FindsItem searcher input state result new_state =
    MatchResult result
    (λ done. (overlapping_refusal searcher.built input ≡ None)
    × GivesNext (stands_in searcher.states input.anchored) (listed_in searcher.states) searcher.built.kind
    (search_in searcher.built input) state new_state)
    (λ e. (overlapping_refusal searcher.built input ≡ Some e) × (new_state ≡ state))

-- the item of the listing that comes next, or None past its end
abbrev pub next_item : Searcher → InputView → OverlappingState → Option Occurrence
next_item searcher input state = item_at (search_in searcher.built input) (rank_in searcher input state)

-- a state stands for the rank after another's
abbrev pub IsNextPlace : Searcher → InputView → OverlappingState → OverlappingState → Type 0
IsNextPlace searcher input state new_state =
    rank_in searcher input new_state ≡ place_after (search_in searcher.built input) (rank_in searcher input state)
