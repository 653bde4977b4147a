-- The names of ac_util that most clauses and proofs above it cite, passed on from one place. Declares nothing.
pub use Rattle.ac_util.specs.Input.{InputView, whole_input, Counts, more_looks, no_counts, one_more_call, one_more_read, Taped, input_of}
pub use Rattle.ac_util.specs.Patterns.{bytes_of, limit_refusal, inner_nodes, longest_len, shortest_len, state_count, usize_max}
pub use Rattle.ac_util.specs.Built.{Built, exchanged, exchanged_in_text, find_refusal, find_result, has_empty, overlapping_iter_refusal, overlapping_refusal, replace_refusal, search_in, stream_refusal, walk_result, LiesIn, AnswersUnless, empty_refusal, Find, first_refusal, form_refusal, kind_refusal, OverlappingByState, OverlappingIterator, refusal, Replace, start_refusal, Stream, AreTexts, IsBetweenCharacters}
pub use Rattle.ac_util.specs.Classes.{alphabet_len, AreClasses, class_at, IsNode, SetsApart, stride}
unfoldable pub use Rattle.ac_util.specs.Classes.{class_of, classes_of, singletons, stride2}
pub use Rattle.ac_util.specs.Device.{HasCause, Reading, Reads, ReadsAll, ReadsSome, WritesAll, WritesUntilFailure, Writing}
pub use Rattle.ac_util.specs.Listing.{item_at, place_after}
unfoldable pub use Rattle.ac_util.specs.Listing.{all}
pub use Rattle.ac_util.specs.Node.{credit, looks, looks_by, looks_within, equal_to, matches, begins_with_pattern, depth, failure, first_node, is_empty, is_leftmost, is_node, last_start, Node, open_suffixes, participants, participates, reached, starting_by, step, suffixes, ending, plain_patterns, text}
pub use Rattle.ac_util.specs.Occurrence.{Occurrence, occurrence, plain, plain_byte, from, Occurs, pattern_of, Search}
pub use Rattle.ac_util.specs.Pick.{IsPick, order_of}
unfoldable pub use Rattle.ac_util.specs.Pick.{pick}
pub use Rattle.ac_util.specs.Prefilters.{begins_with, BeginWith, first_bytes_of, is_one_of, IsFirstAmong, IsNeedleMatch, IsSkipFor, match_candidate, may_skip, Promises, search_over, Skip, skip_among, skip_for, skip_of, IsCandidateFor}
pub use Rattle.ac_util.specs.Prefilters.Skip.{FirstOf}
pub use Rattle.ac_util.specs.Replacement.{AreInOrder, StartFrom, is_whole, replaced, replaced_from, whole_characters, Answer, AppendsAll, answer_of, Calls, Fails, Continues, MatchAnswer, ReplacementSteps, Replacing, Turn, AnswersWhole, MakesSteps, MatchReplaceError, StepsLead}
pub use Rattle.ac_util.specs.Stream.{AreDecided, IsSettledAt, NoneOpen, buffer_len, CouldChange, CouldNextChange, error_of, IsAllSettled, kept_back_len, last_end, reserve, stream_result, without_last, AnswersStream, answer_of_result, FailsToRead, FailsToReplace, FailsToReplaceWith, HasWrittenFirst, IsNear, IsSettled, IsSettledBefore, IsSettledBy, IsStreamRefused, ReplacesStream, ReplacesStreamWith, settled, StepsAreSettled, TextIsSettled, WritesPiece}
pub use Rattle.ac_util.specs.Walk.{IsAfter, next_match, repeats, unless_repeated}
unfoldable pub use Rattle.ac_util.specs.Walk.{walk_after}
pub use Rattle.ac_util.specs.declared.device.WriteError.{WriteError}
pub use Rattle.ac_util.specs.declared.error.BuildError.{BuildError}
pub use Rattle.ac_util.specs.declared.error.BuildError.TheVariants.{StateIdOverflow}
pub use Rattle.ac_util.specs.declared.error.MatchError.{MatchError}
pub use Rattle.ac_util.specs.declared.error.MatchError.TheVariants.{UnsupportedEmpty}
pub use Rattle.ac_util.specs.declared.error.ReplaceError.{ReplaceError}
pub use Rattle.ac_util.specs.declared.error.StreamError.{StreamError}
pub use Rattle.ac_util.specs.declared.prefilter.Candidate.{Candidate}
pub use Rattle.ac_util.specs.declared.prefilter.Candidate.TheVariants.{PossibleStart}
pub use Rattle.ac_util.specs.declared.prefilter.Prefilter.{Prefilter}
pub use Rattle.ac_util.specs.declared.primitives.TheConstants.{GREATEST}
pub use Rattle.ac_util.specs.declared.search.Anchored.TheVariants.{No, Yes}
pub use Rattle.ac_util.specs.declared.search.MatchKind.{MatchKind}
pub use Rattle.ac_util.specs.declared.search.MatchKind.TheVariants.{LeftmostFirst, LeftmostLongest, Standard}
pub use Rattle.ac_util.specs.declared.search.Span.{Span}
pub use Rattle.ac_util.specs.declared.search.StartKind.{StartKind}
pub use Rattle.ac_util.specs.declared.search.StartKind.TheVariants.{Both, Unanchored}
pub use Rattle.ac_util.specs.declared.search.input.Input.{Input}
