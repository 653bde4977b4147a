-- The names of definitions that most proofs here cite, passed on from one place. Declares nothing.
pub use Rattle.ac_util.specs.Built.{AreTexts, Built, Call, Find, IsBetweenCharacters, LiesIn, OverlappingByState, OverlappingIterator, Replace, Stream, exchanged, find_result, has_empty, refusal, search_in, stream_refusal, walk_result}
pub use Rattle.ac_util.specs.Classes.{AreClasses, IsLawful, SetsApart, alphabet_len, class_at, is_in_patterns, stride}
unfoldable pub use Rattle.ac_util.specs.Classes.{class_of, classes_of, singletons, stride2}
pub use Rattle.ac_util.specs.Commits.{Anything, Commits, IsPickIn, IsSearchFor, NodeCommits, Nothing, Prefixes, Stands, StandsAfter, end_after, standing_at}
pub use Rattle.ac_util.specs.Device.{Reading, ReadsAll, ReadsSome, Took, WritesAll, WritesBeginning, WritesUntilFailure, Writing, blank, idle}
pub use Rattle.ac_util.specs.Input.{InputView, whole_input}
pub use Rattle.ac_util.specs.Listing.{IsBefore, item_at, place_after, places, places_at, places_ending_at, up_to}
unfoldable pub use Rattle.ac_util.specs.Listing.{all}
pub use Rattle.ac_util.specs.Node.{Node, begins_with_pattern, credit, cut, depth, ending, equal_to, failure, is_empty, is_leftmost, is_node, last_start, least_start, looks, looks_by, looks_within, matches, open_suffixes, outward, participants, participates, plain_patterns, reached, starting_by, step, suffixes, text}
pub use Rattle.ac_util.specs.Occurrence.{IsSame, Occurrence, Occurs, Search, from, may_start, occurrence, occurs, pattern_of, plain, plain_byte, same_byte, same_string}
pub use Rattle.ac_util.specs.Patterns.{AreBounds, IsWithinLimits, bytes_of, distinct, inner_nodes, limit_refusal, longest_len, pieces, prefixes, shortest_len, state_count, too_long_from}
pub use Rattle.ac_util.specs.Pick.{IsFirst, IsFirstByEnd, IsPick, beats, best, better, order_of}
unfoldable pub use Rattle.ac_util.specs.Pick.{pick}
pub use Rattle.ac_util.specs.Plain.{EndsBy, IsReplaceable}
pub use Rattle.ac_util.specs.Prefilters.{BeginWith, IsCandidateFor, IsFirstAmong, IsNeedleMatch, IsSkipFor, MOST_BYTES, MOST_PATTERNS, Promises, Skip, begins_with, first_bytes_of, is_marked, is_one_of, marked, match_candidate, search_over, skip_among, skip_by_bytes, skip_for, start_candidate}
unfoldable pub use Rattle.ac_util.specs.Prefilters.{first_bytes}
pub use Rattle.ac_util.specs.Prefilters.Skip.{FirstOf, Needle}
pub use Rattle.ac_util.specs.Replacement.{AlwaysWrites, Answer, AppendsAll, AppendsBeginning, AreInOrder, Calls, CallsNoMore, ClosureExchanges, Continues, Fails, MatchAnswer, OnlyAppends, ReplacementSteps, Replacing, StartFrom, Turn, WritesText, answer_of, exchanged_from, is_char_boundary, is_whole, replaced, replaced_from, whole_characters}
pub use Rattle.ac_util.specs.Stream.{AlwaysWritesOut, AreDecided, CouldChange, CouldNextChange, ExchangesAll, ExchangesBeginning, FailsToRead, FailsToReplace, FailsToReplaceWith, IsAllSettled, IsOpen, IsSettled, IsSettledAt, IsSettledBy, NoneOpen, ReplacesStream, ReplacesStreamWith, WritesPiece, answer_of_result, by_length, exchanged_to, kept_back_len, last_end, settled, stream_exchanged, stream_result, text_of, without_last}
pub use Rattle.ac_util.specs.StreamCuts.{AreApart, StaysApart}
pub use Rattle.ac_util.specs.Walk.{IsAfter, continued, next_match, repeats, unless_repeated, walk}
unfoldable pub use Rattle.ac_util.specs.Walk.{walk_after}
pub use Rattle.ac_util.specs.declared.device.WriteError.{WriteError}
pub use Rattle.ac_util.specs.declared.error.BuildError.TheVariants.{PatternIdOverflow, PatternTooLong}
pub use Rattle.ac_util.specs.declared.error.MatchError.{MatchError}
pub use Rattle.ac_util.specs.declared.error.MatchError.TheVariants.{InvalidInputAnchored, InvalidInputUnanchored, UnsupportedEmpty, UnsupportedOverlapping}
pub use Rattle.ac_util.specs.declared.error.ReplaceError.{ReplaceError}
pub use Rattle.ac_util.specs.declared.error.StreamError.{StreamError}
pub use Rattle.ac_util.specs.declared.error.StreamError.TheVariants.{Io, Match, Memory, TooLong, WriteZero}
pub use Rattle.ac_util.specs.declared.history.History.{History}
pub use Rattle.ac_util.specs.declared.prefilter.Candidate.{Candidate}
pub use Rattle.ac_util.specs.declared.prefilter.Candidate.TheVariants.{None}
pub use Rattle.ac_util.specs.declared.prefilter.FirstBytes.{FirstBytes}
pub use Rattle.ac_util.specs.declared.prefilter.FirstBytes.TheVariants.{One, Three, Two}
pub use Rattle.ac_util.specs.declared.primitives.TheConstants.{GREATEST}
pub use Rattle.ac_util.specs.declared.search.Anchored.TheVariants.{No, Yes}
pub use Rattle.ac_util.specs.declared.search.MatchKind.{MatchKind}
pub use Rattle.ac_util.specs.declared.search.MatchKind.TheVariants.{LeftmostFirst, LeftmostLongest, Standard}
pub use Rattle.ac_util.specs.declared.search.StartKind.{StartKind}
pub use Rattle.ac_util.specs.declared.search.StartKind.TheVariants.{Both, Unanchored}
