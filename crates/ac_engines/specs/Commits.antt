-- The commits of an engine by the numbers that it has for the states of a trie.
use Rattle.std.specs.Prelude.{◌≡◌, ℕ, ◌==◌, List, Option, if◌then◌else◌, option_map, slice_get}
use Rattle.std.specs.Option.{option_and_then}
use Rattle.std.specs.List.{filter_map}
use Rattle.std.specs.List.Sorted.{IsPermutation}
use Rattle.ac_automaton.specs.Commits.{CommitsView}
use Rattle.ac_automaton.specs.declared.automaton.commits.Commit.{Commit}
use Rattle.ac_automaton.specs.declared.nfa.noncontiguous.state.TheConstants.{ANCHORED_START, START}

-- the number of a state of the trie in unanchored searches, for which both starts are the unanchored one
abbrev pub number_in : List ℕ → ℕ → Option ℕ
number_in numbers s = slice_get numbers (if s == ANCHORED_START then START else s)

-- a commit by the numbers of the states that it names, where these have some
abbrev pub renumbered_one : List ℕ → Commit → Option Commit
renumbered_one numbers commit =
    option_and_then
    (λ state. option_map (λ next. record commit { state = state; next = next }) (number_in numbers commit.next))
    (number_in numbers commit.state)

-- the commits are these by their numbers, and have the same chains
pub record AreRenumbered (numbers : List ℕ) (old new : CommitsView) : Type 0 where
  pub same : IsPermutation (filter_map (renumbered_one numbers) old.commits) new.commits
  pub chains : new.chains ≡ old.chains
