-- The names of definitions that most proofs here cite, passed on from one place. Declares nothing.
pub use Rattle.ac_util.specs.Built.{Built, Stream, empty_refusal, find_refusal, has_empty, overlapping_iter_refusal, overlapping_refusal, refusal, replace_refusal, search_in, start_refusal, stream_refusal}
pub use Rattle.ac_util.specs.Commits.{Anything, Commits, IsPickIn, IsSearchFor, NodeCommits, Prefixes, StandsAfter, end_after, standing_at}
pub use Rattle.ac_util.specs.Device.{Reading, ReadsAll, ReadsSome, WritesAll, WritesUntilFailure, Writing}
pub use Rattle.ac_util.specs.Input.{Counts, InputView, Taped, input_of, more_looks, no_counts, one_more_call, whole_input}
pub use Rattle.ac_util.specs.Listing.{item_at, place_after}
unfoldable pub use Rattle.ac_util.specs.Listing.{all}
pub use Rattle.ac_util.specs.Node.{Node, begins_with_pattern, credit, depth, ending, equal_to, failure, is_empty, is_leftmost, is_node, looks, looks_within, outward, participants, participates, plain_patterns, reached, step, text}
pub use Rattle.ac_util.specs.Occurrence.{Occurrence, Occurs, Search, from, occurrence, pattern_of, plain, plain_byte}
pub use Rattle.ac_util.specs.Patterns.{IsCheckedFirst, bytes_of, inner_nodes, limit_refusal, longest_len, shortest_len, state_count, usize_max}
pub use Rattle.ac_util.specs.Pick.{IsPick, order_of}
unfoldable pub use Rattle.ac_util.specs.Pick.{pick}
pub use Rattle.ac_util.specs.Prefilters.{BeginWith, IsNeedleMatch, begins_with, is_one_of, may_skip, search_over}
pub use Rattle.ac_util.specs.Prefilters.Skip.{Needle}
pub use Rattle.ac_util.specs.Replacement.{AnswersWhole, AppendsAll, AreInOrder, Calls, MakesSteps, MatchAnswer, ReplacementSteps, Replacing, StartFrom, StepsLead, Turn, answer_of, is_whole, replaced, replaced_from, whole_characters}
pub use Rattle.ac_util.specs.Stream.{AnswersStream, CouldChange, CouldNextChange, FailsToReplace, FailsToReplaceWith, HasWrittenFirst, IsAllSettled, IsNear, IsSettledAt, IsSettledBefore, IsSettledBy, ReplacesStream, ReplacesStreamWith, WritesPiece, answer_of_result, buffer_len, error_of, last_end, reserve, settled, stream_result}
pub use Rattle.ac_util.specs.Walk.{IsAfter, next_match, repeats}
unfoldable pub use Rattle.ac_util.specs.Walk.{walk_after}
pub use Rattle.ac_util.specs.declared.device.WriteError.{WriteError}
pub use Rattle.ac_util.specs.declared.error.BuildError.{BuildError}
pub use Rattle.ac_util.specs.declared.error.MatchError.{MatchError}
pub use Rattle.ac_util.specs.declared.error.MatchError.TheVariants.{UnsupportedEmpty}
pub use Rattle.ac_util.specs.declared.error.ReplaceError.{ReplaceError}
pub use Rattle.ac_util.specs.declared.error.ReplaceError.TheVariants.{Memory}
pub use Rattle.ac_util.specs.declared.error.StreamError.{StreamError}
pub use Rattle.ac_util.specs.declared.error.StreamError.TheVariants.{Io}
pub use Rattle.ac_util.specs.declared.primitives.TheConstants.{GREATEST}
pub use Rattle.ac_util.specs.declared.search.Anchored.{Anchored}
pub use Rattle.ac_util.specs.declared.search.Anchored.TheVariants.{No, Yes}
pub use Rattle.ac_util.specs.declared.search.MatchKind.{MatchKind}
pub use Rattle.ac_util.specs.declared.search.MatchKind.TheVariants.{LeftmostFirst, LeftmostLongest, Standard}
pub use Rattle.ac_util.specs.declared.search.Span.{Span}
pub use Rattle.ac_util.specs.declared.search.StartKind.{StartKind}
pub use Rattle.ac_util.specs.declared.search.StartKind.TheVariants.{Both}
pub use Rattle.ac_automaton.specs.Automata.{AutomatonView, CommonView, IsAnyState, IsState, Lists, built_as, common_of, looks_of, matches_of, plain_of, step_of}
pub use Rattle.ac_automaton.specs.Builds.{AnswersBuild, EngineSettings, IsAllowed, IsEngineBuilt, IsRefused, RefusesBy, engine_built_by, refusal_or, state_refusal, too_many_states, usual_engine_settings}
pub use Rattle.ac_automaton.specs.Commits.{AreCommits, AreLinks, CommitsView, GrowsBy, HasChains, HasCommits, IsChainMatch, IsCommit, IsFront, IsLink, chain_at, chains_of, ending_in, linked_match, reads_on, shifted}
unfoldable pub use Rattle.ac_automaton.specs.Commits.{chains_after}
pub use Rattle.ac_automaton.specs.Committing.{AreMade, HasAdded, HasCommit, HasIndex, HasLedOn, HasString, IsChild, IsCommitAt, IsDone, IsMade, IsViewOf, LeadsToChild, ListsView, Made, MakesNext, MayCommit, NeedsNone, NeedsOne, ending_by, lists_by, lists_of, longer, made_of, trie_by}
pub use Rattle.ac_automaton.specs.Cores.{FitsBefore, GivesAt, GivesHere, GoesBy, IsCore, IsGivable, IsGiven, IsSearchBy, Leaves, MayGo, MayTakeFrom, PicksBy, Spot, TakesFrom, TakesKnown, begun_by, chain_of, end_of, first_given, pending, point_of, scan_by, spot}
pub use Rattle.ac_automaton.specs.Exchanges.{CallsBy, FailsBy, FailsToExchange, Gathers, HasExchanged, HasExchangedFirst, HasReplaced, Passes, PassesPiece, Passing, ReplacesBy, Steps, answer_of_exchange, error_in}
pub use Rattle.ac_automaton.specs.Finds.{Finding, FindsAt, FindsIn, FitsIn, HasReadMatch, HasSearched, IsDecided, MaySearch, Picking, ReadsTo, StandsIn, finding_of, found_at, is_free, picking_of, place_of}
pub use Rattle.ac_automaton.specs.Growths.{EndsPatterns, HasBranched, HasChild, HasParent, HasRoot, HasSorted, IsGrown, IsNext, IsNotPushed, IsQueueReady, IsRangeOf, IsWhole, LinkIsDue, MayBranch, Source, Waits, grown_view, leading, nodes_of, source_of, word}
pub use Rattle.ac_automaton.specs.Iterators.{Finds, GoesOn, HasFound, IsByFinds, IsPaid, IsUnderWay, MovesApart, Walking, after, first_work, initial_walk, kept_place, last_after, looks_beyond, reads_once, reads_past, reads_past_by, walking_of}
pub use Rattle.ac_automaton.specs.Onward.{BeginsPast, HasCounted, IsCounted, IsKept, IsOnward, IsOnwardIn, IsReadingPast, IsRestBefore, StandsBy, kept_work, reached_by}
pub use Rattle.ac_automaton.specs.OverlappingPieces.{GivesNextTaken, GivesTaken, HasGivenTaken, IsPieceListing, KeepsListed, ListsTaken, PieceListing, TakesToItem, listed_taken, nothing_listed, piece_listing, piece_listing_refusal, search_taken}
pub use Rattle.ac_automaton.specs.Overlaps.{GivesNext, HasGivenItem, HasListed, HasMoved, IsListed, IsListing, IsPlaced, ListsNext, ListsOn, MayList, Overlapping, Takes, TakesDue, due_in, given_by, given_in, initial_listing, is_due, overlapping_by, overlapping_of, rest_in}
pub use Rattle.ac_automaton.specs.Pieces.{IsFed, TakesOn, hand_bytes, inside_of, most_of, no_pieces}
pub use Rattle.ac_automaton.specs.Reads.{Advances, Comes, HasReadOn, HasScanned, IsAtStart, IsReading, MayRead, Point, ReadsEnough, ReadsFurther, ReadsOn, ReadsToStop, StopsAt, Tries, at, entered, hand_of, in_hand, point, read_to, tried, worth}
unfoldable pub use Rattle.ac_automaton.specs.Reads.{led}
pub use Rattle.ac_automaton.specs.Scans.{Grows, HasRead, IsAlive, IsAt, MayAdvance, NoMatchBetween, PassesNoMatch, Reaches, Scan, ScanText, ScannerView, ScansTo, Skips, SkipsTo, StopsAtDead, Work, WorkedTape, in_memory, most_looks, node, node_at, nothing_done, scan_of, scanner, search_of, search_through, tape_with, work_of}
pub use Rattle.ac_automaton.specs.Sorted.{AreListed, AreSorted, IsHead, IsOrder, Keyed, Precedes, Sorted, byte_at, compared, compared_by_bytes, head_len, is_prefix, key_at, keyed, keyed_one, numbers}
unfoldable pub use Rattle.ac_automaton.specs.Sorted.{head_of}
pub use Rattle.ac_automaton.specs.StreamInside.{Arrives, HasGivenFirst, HasSearchedAll, Inside, IsBuffered, IsSearching, IsStreaming, ReadsThrough, SettlesBy, StandsPast, most_kept, stream_from}
pub use Rattle.ac_automaton.specs.Streams.{EndsNow, FailsToFill, FillsMore, GivesMatch, GivesNextMatch, GivesNone, GivesRead, GoesOnBy, HasGivenLast, HasGivenSettled, IsAllGiven, IsSettledIn, IsSettling, KeepsGiven, MeetsEnd, Streaming, Streams, initial_stream, kept_from, kept_len, matches_so_far, streaming_by}
pub use Rattle.ac_automaton.specs.Tries.{AreAllStates, AreNodes, AreStates, ForNode, HasOwn, HasState, IsFailureOf, IsNumberOf, IsNumbered, IsOwn, IsRoot, IsRootEntry, IsTrie, IsTrieState, Links, NumbersNodes, Represents, TakesMatch, Trie, TrieView, all_matches, automaton_of, dead_state, fallback, leads_on, listed_within, meaning_of, stands-lists, state_at, state_patterns, transition_bytes, transition_target, transitions_of, trie_of}
unfoldable pub use Rattle.ac_automaton.specs.Tries.{transition_bytes_of}
pub use Rattle.ac_automaton.specs.declared.automaton.commits.ChainMatch.{ChainMatch}
pub use Rattle.ac_automaton.specs.declared.automaton.commits.Commit.{Commit}
pub use Rattle.ac_automaton.specs.declared.automaton.commits.Link.{Link}
pub use Rattle.ac_automaton.specs.declared.automaton.listing.MatchRest.{MatchRest}
pub use Rattle.ac_automaton.specs.declared.automaton.listing.Reached.{Reached}
pub use Rattle.ac_automaton.specs.declared.automaton.onward.ChainRest.{ChainRest}
pub use Rattle.ac_automaton.specs.declared.automaton.onward.Core.{Core}
pub use Rattle.ac_automaton.specs.declared.automaton.onward.Given.{Given}
pub use Rattle.ac_automaton.specs.declared.automaton.onward.Onward.{Onward}
pub use Rattle.ac_automaton.specs.declared.automaton.onward.Position.{Position}
pub use Rattle.ac_automaton.specs.declared.automaton.overlap.OverlappingState.{OverlappingState}
pub use Rattle.ac_automaton.specs.declared.automaton.scan.Cursor.{Cursor}
pub use Rattle.ac_automaton.specs.declared.automaton.scan.Dead.{Dead}
pub use Rattle.ac_automaton.specs.declared.automaton.scan.Scanner.{Scanner}
pub use Rattle.ac_automaton.specs.declared.automaton.skip.SkipBudget.{SkipBudget}
pub use Rattle.ac_automaton.specs.declared.automaton.stream_replace.ByClosure.{ByClosure}
pub use Rattle.ac_automaton.specs.declared.automaton.stream_replace.ByTexts.{ByTexts}
pub use Rattle.ac_automaton.specs.declared.automaton.stream_settled.Phase.{Phase}
pub use Rattle.ac_automaton.specs.declared.automaton.stream_settled.Phase.TheVariants.{Ended, Failed, Open}
pub use Rattle.ac_automaton.specs.declared.nfa.noncontiguous.commits.Making.{Making}
pub use Rattle.ac_automaton.specs.declared.nfa.noncontiguous.growth.Growth.{Growth}
pub use Rattle.ac_automaton.specs.declared.nfa.noncontiguous.growth.QueuedState.{QueuedState}
pub use Rattle.ac_automaton.specs.declared.nfa.noncontiguous.sorted.SortedPattern.{SortedPattern}
pub use Rattle.ac_automaton.specs.declared.nfa.noncontiguous.state.State.{State}
pub use Rattle.ac_automaton.specs.declared.nfa.noncontiguous.state.TheConstants.{ANCHORED_START, DEAD, FIRST_INNER, START}
pub use Rattle.ac_automaton.specs.declared.nfa.noncontiguous.state.Transition.{Transition}
