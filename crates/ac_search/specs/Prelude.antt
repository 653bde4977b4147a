-- The names of definitions that most proofs here cite, passed on from one place. Declares nothing.
pub use Rattle.ac_util.specs.Built.{AnswersUnless, IsBetweenCharacters, find_refusal, overlapping_refusal, start_refusal, stream_refusal, walk_result}
pub use Rattle.ac_util.specs.Device.{Reading, Writing}
pub use Rattle.ac_util.specs.Occurrence.{IsSame, Occurs, Search, pattern_of, plain, plain_byte}
pub use Rattle.ac_util.specs.Patterns.{usize_max}
pub use Rattle.ac_util.specs.Pick.{IsPick, order_of}
unfoldable pub use Rattle.ac_util.specs.Pick.{pick}
pub use Rattle.ac_util.specs.Replacement.{Calls}
pub use Rattle.ac_util.specs.Stream.{AlwaysWritesOut, AnswersStream, AreDecided, CouldChange, ExchangesBeginning, FailsToRead, FailsToReplace, FailsToReplaceWith, IsAllSettled, IsSettled, IsSettledAt, IsSettledBefore, IsSettledBy, IsStreamRefused, NoneOpen, ReplacesStream, ReplacesStreamWith, StepsAreSettled, TextIsSettled, by_length, stream_result, text_of}
pub use Rattle.ac_util.specs.Walk.{IsAfter}
pub use Rattle.ac_util.specs.declared.error.MatchError.{MatchError}
pub use Rattle.ac_util.specs.declared.error.StreamError.{StreamError}
pub use Rattle.ac_util.specs.declared.error.StreamError.TheVariants.{Io, Match, Memory, TooLong, WriteZero}
pub use Rattle.ac_util.specs.declared.search.Anchored.TheVariants.{No}
pub use Rattle.ac_util.specs.declared.search.MatchKind.{MatchKind}
pub use Rattle.ac_util.specs.declared.search.MatchKind.TheVariants.{LeftmostFirst, LeftmostLongest, Standard}
pub use Rattle.ac_util.specs.declared.search.StartKind.{StartKind}
pub use Rattle.ac_util.specs.declared.search.StartKind.TheVariants.{Both}
pub use Rattle.ac_automaton.specs.Answers.{Calling}
pub use Rattle.ac_automaton.specs.Overlaps.{GivesNext}
pub use Rattle.ac_automaton.specs.OverlappingPieces.{PieceListing, nothing_listed, piece_listing_refusal}
pub use Rattle.ac_automaton.specs.Pieces.{no_pieces}
pub use Rattle.ac_automaton.specs.Streams.{EndsNow, GivesError, GivesNextMatch, GivesNone, GoesOnBy, IsSettledIn, KeepsGiven, Streaming, initial_stream}
pub use Rattle.ac_automaton.specs.declared.automaton.overlap.OverlappingState.{OverlappingState}
pub use Rattle.ac_automaton.specs.declared.automaton.stream_settled.Phase.{Phase}
pub use Rattle.ac_automaton.specs.declared.automaton.stream_settled.Phase.TheVariants.{Ended, Failed, Open}
pub use Rattle.ac_search.specs.Alike.{AreAscii, AreWords, ClosuresWrite, IsItsPattern, LeavesWhole, ListsWrite, StandApart, StandsBetween, StandInOrder}
pub use Rattle.ac_search.specs.Built.{AreTexts, LiesIn, search_in}
pub use Rattle.ac_search.specs.Engines.{Supports, built_of, searcher_of, states_of, streaming_in}
pub use Rattle.ac_search.specs.Input.{InputView, whole_input}
pub use Rattle.ac_search.specs.Listing.{all, item_at, place_after}
pub use Rattle.ac_search.specs.Occurrence.{Occurrence}
pub use Rattle.ac_search.specs.Searchers.{HasBegun, HasBegunInPieces, HasBegunPieceListing, HasPlace, Searcher, listed_in, rank_in, stands_in, with_start}
pub use Rattle.ac_search.specs.StreamLoops.{BeginsUnderway, GivenStay, HasGivenAll, HasGivenOne, HasStoppedAt, IsUnderway, given_matches}
pub use Rattle.ac_search.specs.declared.ahocorasick.engine.Engine.{Engine}
