-- What is seen of a searcher and of its engine; then the definitions of the crates below that contracts of this
-- crate cite, so that a user need not list those crates. Each keeps its name, as `Built` here is `Built` of ac_util, and
-- the constant `GREATEST` is in `Numbers`.
pub mod Alike
pub mod Engines
pub mod PieceReplacements
pub mod Prelude
pub mod Searchers
pub mod StreamLoops
pub mod Windows
-- what is asked, what occurs, and what answers it
pub use Rattle.ac_util.specs.Input
pub use Rattle.ac_util.specs.Occurrence
pub use Rattle.ac_util.specs.Listing
pub use Rattle.ac_util.specs.Pick
pub use Rattle.ac_util.specs.Walk
pub use Rattle.ac_util.specs.Plain
pub use Rattle.ac_util.specs.Replacement
pub use Rattle.ac_util.specs.Stream
pub use Rattle.ac_util.specs.Built
pub use Rattle.ac_util.specs.Laws
-- lists of patterns and their limits, readers and writers
pub use Rattle.ac_util.specs.Patterns
pub use Rattle.ac_util.specs.declared.primitives.TheConstants as Numbers
pub use Rattle.ac_util.specs.Device
-- automata: nodes, steps, looks and prefilters
pub use Rattle.ac_util.specs.Node
pub use Rattle.ac_util.specs.Prefilters
pub use Rattle.ac_automaton.specs.Automata
pub use Rattle.ac_automaton.specs.Scans
-- their builds, answers of their calls, and iterators
pub use Rattle.ac_automaton.specs.Builds
pub use Rattle.ac_automaton.specs.Answers
pub use Rattle.ac_automaton.specs.Finds
pub use Rattle.ac_automaton.specs.Iterators
pub use Rattle.ac_automaton.specs.Overlaps
pub use Rattle.ac_automaton.specs.OverlappingPieces
pub use Rattle.ac_automaton.specs.Pieces
pub use Rattle.ac_automaton.specs.Streams
-- tries, and the classes, rows and words of the DFA and the contiguous NFA
pub use Rattle.ac_automaton.specs.Tries
pub use Rattle.ac_util.specs.Classes
pub use Rattle.ac_engines.specs.Listed
pub use Rattle.ac_engines.specs.Dfa
pub use Rattle.ac_engines.specs.Contiguous
