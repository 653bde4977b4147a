-- The names of definitions that most proofs here cite, passed on from one place. Declares nothing.
pub use Rattle.ac_util.specs.Built.{Built, start_refusal}
pub use Rattle.ac_util.specs.Classes.{AreClasses, IsNode, SetsApart, alphabet_len, class_at, stride}
unfoldable pub use Rattle.ac_util.specs.Classes.{class_of, classes_of, singletons, stride2}
pub use Rattle.ac_util.specs.Commits.{IsPickIn}
pub use Rattle.ac_util.specs.Input.{Counts, more_looks}
pub use Rattle.ac_util.specs.Node.{Node, begins_with_pattern, depth, equal_to, failure, first_node, is_leftmost, is_node, last_start, matches, open_suffixes, participants, starting_by, step, suffixes}
pub use Rattle.ac_util.specs.Occurrence.{pattern_of, plain, plain_byte}
pub use Rattle.ac_util.specs.Patterns.{bytes_of, inner_nodes, longest_len, shortest_len, state_count}
pub use Rattle.ac_util.specs.declared.error.BuildError.{BuildError}
pub use Rattle.ac_util.specs.declared.error.BuildError.TheVariants.{Memory}
pub use Rattle.ac_util.specs.declared.primitives.TheConstants.{GREATEST}
pub use Rattle.ac_util.specs.declared.search.Anchored.TheVariants.{No, Yes}
pub use Rattle.ac_util.specs.declared.search.MatchKind.{MatchKind}
pub use Rattle.ac_util.specs.declared.search.MatchKind.TheVariants.{LeftmostFirst, Standard}
pub use Rattle.ac_util.specs.declared.search.StartKind.{StartKind}
pub use Rattle.ac_util.specs.declared.search.StartKind.TheVariants.{Both, Unanchored}
pub use Rattle.ac_automaton.specs.Automata.{AutomatonView, CommonView, IsState, common_of, looks_of, matches_of, plain_of, step_of}
pub use Rattle.ac_automaton.specs.Builds.{IsEngineBuilt, RefusesBy}
pub use Rattle.ac_automaton.specs.Commits.{AreCommits, CommitsView, HasCommits, IsCommit}
pub use Rattle.ac_automaton.specs.Overlaps.{is_due, rest_in}
pub use Rattle.ac_automaton.specs.Tries.{AreNodes, HasOwn, IsNumbered, IsOwn, IsTrie, IsTrieState, Represents, Trie, automaton_of, fallback, leads_on, listed_within, meaning_of, stands-lists, state_at, transition_bytes, transitions_of}
unfoldable pub use Rattle.ac_automaton.specs.Tries.{transition_bytes_of}
pub use Rattle.ac_automaton.specs.declared.automaton.commits.ChainMatch.{ChainMatch}
pub use Rattle.ac_automaton.specs.declared.automaton.commits.Commit.{Commit}
pub use Rattle.ac_automaton.specs.declared.automaton.listing.MatchRest.{MatchRest}
pub use Rattle.ac_automaton.specs.declared.nfa.noncontiguous.state.TheConstants.{ANCHORED_START, START}
pub use Rattle.ac_automaton.specs.declared.nfa.noncontiguous.state.Transition.{Transition}
pub use Rattle.ac_engines.specs.Commits.{AreRenumbered, number_in, renumbered_one}
pub use Rattle.ac_engines.specs.Contiguous.{ContiguousView, IsContiguous, IsContiguousState, Places, contiguous_automaton, contiguous_of, edges_of, match_list_at, matches_in, number_at, packed_at, packed_dead, words_before_matches}
pub use Rattle.ac_engines.specs.Contiguous.Builds.{AnswersContiguousFrom, ContiguousSettings, IsContiguousBuilt, IsContiguousFrom, contiguous_refusal, contiguous_refusal_by, words_from}
pub use Rattle.ac_engines.specs.Contiguous.Packs.{AreReady, HasPushedUpTo, Packer, dead_words, packed_state, state_words}
pub use Rattle.ac_engines.specs.Contiguous.Plans.{HasFormat, HasPlaces, HasWords, MayPack, PackPlan, all_words, before, format_for, front_end, has_matches, packed_of, place_at, placed, places_of, size_at, size_of, sized}
unfoldable pub use Rattle.ac_engines.specs.Contiguous.Plans.{total}
pub use Rattle.ac_engines.specs.Contiguous.Reads.{AreNamed, class_of_place, first_of, named, transitions_of_state}
unfoldable pub use Rattle.ac_engines.specs.Contiguous.Reads.{edges_from}
pub use Rattle.ac_engines.specs.Contiguous.Words.{BeginsWith, Fits, HasTargets, PackedState, format_of, match_list_words, match_words, most_sparse, node_format, node_words, one_words, packed_words, word_of, words_of_state}
unfoldable pub use Rattle.ac_engines.specs.Contiguous.Words.{class_words, format_words, target_by}
pub use Rattle.ac_engines.specs.Dfa.{DfaView, HasMatchesAmong, IsDfa, IsDfaState, anchored_shift, dfa_automaton, entry, list_at, number_of, stride_of}
pub use Rattle.ac_engines.specs.Dfa.Builds.{IsDfaFrom, dfa_refusal, rows_refusal}
pub use Rattle.ac_engines.specs.Dfa.Filling.{AreLaid, EndsDead, FilledUpTo, Filling, FillsRow, FillsState, HasFilled, HasRow, HasSet, IsFilled, MayFill, MayFillRow, RowInput, SameBeside, first_row_in, row_at, row_input, width}
pub use Rattle.ac_engines.specs.Dfa.Layouts.{HasPlaced, IsAtBack, IsInFront, IsLayout, first_lists, row_list, row_lists, rows_each, table_rows}
pub use Rattle.ac_engines.specs.Listed.{HasNode, classes_by}
pub use Rattle.ac_engines.specs.declared.nfa.contiguous.format.Format.{Format}
pub use Rattle.ac_engines.specs.declared.nfa.contiguous.format.Format.TheVariants.{Dense, One, Sparse}
pub use Rattle.ac_engines.specs.declared.nfa.contiguous.state.Edge.{Edge}
pub use Rattle.ac_engines.specs.declared.nfa.contiguous.state.TheConstants.{DENSE, FAIL, ONE, ONE_MATCH}
