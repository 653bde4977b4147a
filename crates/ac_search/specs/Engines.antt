-- What the engine of a searcher, its iterators and its searches over streams are seen as.
use Rattle.std.specs.Prelude.{◌≡◌, ◌⊎◌, Bool, MatchResult, None, Result}
use Rattle.ac_automaton.specs.Util.{Both, BuildError, Built, StartKind}
use Rattle.ac_automaton.specs.Builds.{IsRefused}
use Rattle.ac_automaton.specs.Prelude.{Overlapping, PieceListing, Streaming, Trie, Walking}
use Rattle.ac_search.specs.declared.ahocorasick.choice.AhoCorasickKind.{AhoCorasickKind}
use Rattle.ac_search.specs.declared.ahocorasick.choice.AhoCorasickKind.TheVariants.{ContiguousNFA, DFA, NoncontiguousNFA}
use Rattle.ac_search.specs.declared.ahocorasick.engine.Engine.{Engine}
use Rattle.ac_search.specs.declared.ahocorasick.engine.Engine.TheVariants.{Contiguous, Dfa, Noncontiguous}
use Rattle.ac_search.specs.declared.ahocorasick.engine.EngineFindIter.{EngineFindIter}
use Rattle.ac_search.specs.declared.ahocorasick.engine.EngineFindIter.TheVariants.{Contiguous as ByContiguous, Dfa as ByDfa, Noncontiguous as ByNoncontiguous}
use Rattle.ac_search.specs.declared.ahocorasick.engine.EngineFindOverlappingIter.{EngineFindOverlappingIter}
use Rattle.ac_search.specs.declared.ahocorasick.engine.EngineFindOverlappingIter.TheVariants.{Contiguous as ListedByContiguous, Dfa as ListedByDfa, Noncontiguous as ListedByNoncontiguous}
use Rattle.ac_search.specs.declared.ahocorasick.engine.EngineOverlappingPieceFinder.{EngineOverlappingPieceFinder}
use Rattle.ac_search.specs.declared.ahocorasick.engine.EngineOverlappingPieceFinder.TheVariants.{Contiguous as PiecesListedByContiguous, Dfa as PiecesListedByDfa, Noncontiguous as PiecesListedByNoncontiguous}
use Rattle.ac_search.specs.declared.ahocorasick.engine.EnginePieceFinder.{EnginePieceFinder}
use Rattle.ac_search.specs.declared.ahocorasick.engine.EnginePieceFinder.TheVariants.{Contiguous as InPiecesByContiguous, Dfa as InPiecesByDfa, Noncontiguous as InPiecesByNoncontiguous}
use Rattle.ac_search.specs.declared.ahocorasick.engine.EngineStreamFinder.{EngineStreamFinder}
use Rattle.ac_search.specs.declared.ahocorasick.engine.EngineStreamFinder.TheVariants.{Contiguous as StreamedByContiguous, Dfa as StreamedByDfa, Noncontiguous as StreamedByNoncontiguous}
use Rattle.ac_search.specs.Searchers.{AreLaidOut, Searcher, Settings, size_refusal, States, Contiguous as OfContiguous, Dfa as OfDfa, Noncontiguous as OfTrie}

-- what an engine was built from, whether to have a prefilter, its name and its states
abbrev pub built_of : {Z : Type 0} → Engine Z → Built
built_of (Noncontiguous nfa) = nfa.value.built
built_of (Contiguous nfa) = nfa.value.built
built_of (Dfa dfa) = dfa.value.built

abbrev pub wants_prefilter_of : {Z : Type 0} → Engine Z → Bool
wants_prefilter_of (Noncontiguous nfa) = nfa.value.wants_prefilter
wants_prefilter_of (Contiguous nfa) = nfa.value.wants_prefilter
wants_prefilter_of (Dfa dfa) = dfa.value.wants_prefilter

abbrev pub name_of : {Z : Type 0} → Engine Z → AhoCorasickKind
name_of (Noncontiguous nfa) = NoncontiguousNFA
name_of (Contiguous nfa) = ContiguousNFA
name_of (Dfa dfa) = DFA

abbrev pub states_of : {Z : Type 0} → Engine Z → States
states_of (Noncontiguous nfa) = OfTrie nfa.value
states_of (Contiguous nfa) = OfContiguous nfa.value
states_of (Dfa dfa) = OfDfa dfa.value

-- an engine with the start kind of its searcher
abbrev pub searcher_of : {Z : Type 0} → Engine Z → StartKind → Searcher
searcher_of engine start_kind = record {
  built = record (built_of engine) { start_kind = start_kind };
  wants_prefilter = wants_prefilter_of engine;
  kind = name_of engine;
  states = states_of engine;
}

-- the engine has the starts that its searcher supports: both, or just these
abbrev pub Supports : {Z : Type 0} → Engine Z → StartKind → Type 0
Supports engine start_kind =
    ((built_of engine).start_kind ≡ Both) ⊎ ((built_of engine).start_kind ≡ start_kind)

-- an engine of this name was made from an automaton for a searcher by these settings
pub record IsMadeFrom {Z : Type 0} (from : Trie) (settings : Settings) (engine : Engine Z) (kind : AhoCorasickKind)
    : Type 0 where
  pub built : record (built_of engine) { start_kind = settings.start_kind }
      ≡ record from.built { start_kind = settings.start_kind }
  pub supports : Supports engine settings.start_kind
  pub wants_prefilter : wants_prefilter_of engine ≡ from.wants_prefilter
  pub laid_out : AreLaidOut settings from.built (states_of engine)
  pub name : name_of engine ≡ kind

-- what the build of an engine of this name from an automaton answers: the engine, which isn't too large; or it is refused
abbrev pub IsMadeOrRefused : {Z : Type 0} → Trie → Settings → AhoCorasickKind → Result (Engine Z) BuildError → Type 0
IsMadeOrRefused from settings kind result =
    MatchResult result (λ engine. IsMadeFrom from settings engine kind × (size_refusal kind settings from.built ≡ None))
    (IsRefused (size_refusal kind settings from.built))

abbrev pub walking_in : {Z : Type 0} → EngineFindIter Z → Walking
walking_in (ByNoncontiguous matches) = matches
walking_in (ByContiguous matches) = matches
walking_in (ByDfa matches) = matches

abbrev pub listing_in : {Z : Type 0} → EngineFindOverlappingIter Z → Overlapping
listing_in (ListedByNoncontiguous items) = items
listing_in (ListedByContiguous items) = items
listing_in (ListedByDfa items) = items

abbrev pub in_pieces : {Z : Type 0} → EnginePieceFinder Z → Streaming
in_pieces (InPiecesByNoncontiguous finder) = finder
in_pieces (InPiecesByContiguous finder) = finder
in_pieces (InPiecesByDfa finder) = finder

abbrev pub piece_listing_in : {Z : Type 0} → EngineOverlappingPieceFinder Z → PieceListing
piece_listing_in (PiecesListedByNoncontiguous finder) = finder
piece_listing_in (PiecesListedByContiguous finder) = finder
piece_listing_in (PiecesListedByDfa finder) = finder

abbrev pub streaming_in : {Y Z : Type 0} → EngineStreamFinder Y Z → Streaming
streaming_in (StreamedByNoncontiguous finder) = finder
streaming_in (StreamedByContiguous finder) = finder
streaming_in (StreamedByDfa finder) = finder
