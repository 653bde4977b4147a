-- What an automaton was built with, and what contracts say of its states, by the node that a state stands for.
use Rattle.std.specs.Prelude.{ℕ, Bool, List, ◌≡◌, ◌↔◌, ◌++◌, IfSome, IsTrue, map, Option, Some}
use Rattle.ac_automaton.specs.Util.{Built, MatchKind, StartKind, Counts, looks_by, matches, more_looks, No, Node, plain, plain_byte, step, Yes}
use Rattle.ac_util.specs.declared.search.Anchored.{Anchored}
use Rattle.ac_automaton.specs.declared.automaton.listing.MatchRest.{MatchRest}

-- the patterns, whether case is ignored, the match kind, and whether to have a prefilter
pub record CommonView : Type 0 where
  pub patterns : List (List ℕ)
  pub ignores_case : Bool
  pub kind : MatchKind
  pub wants_prefilter : Bool

-- what an engine was built from that has this and these starts
abbrev pub built_as : CommonView → StartKind → Built
built_as common start_kind =
    record { patterns = common.patterns; ignores_case = common.ignores_case; kind = common.kind; start_kind = start_kind }

-- what an engine has that was built from this, to have a prefilter or not
abbrev pub common_of : Built → Bool → CommonView
common_of built wants_prefilter =
    record { patterns = built.patterns; ignores_case = built.ignores_case; kind = built.kind; wants_prefilter = wants_prefilter }

-- the patterns as the nodes know them
abbrev pub plain_of : Built → List (List ℕ)
plain_of built = map (plain built.ignores_case) built.patterns

-- where a byte leads from a node, the looks that this takes, and the matches of a node
abbrev pub step_of : Built → Anchored → Node → ℕ → Node
step_of built anchored u byte = step built.kind (plain_of built) anchored u (plain_byte built.ignores_case byte)

abbrev pub looks_of : ℕ → Built → Anchored → Node → ℕ → ℕ
looks_of most built anchored u byte =
    looks_by most built.kind (plain_of built) anchored u (plain_byte built.ignores_case byte)

abbrev pub matches_of : Built → Anchored → Node → List ℕ
matches_of built anchored u = matches built.kind (plain_of built) anchored u

-- what contracts see of an automaton: what it was built from; how many looks it may take for each byte where it isn't
-- anchored; whether it was built to have a prefilter; for which nodes its states stand, under an anchoring; and the match
-- list of each state
pub record AutomatonView : Type 1 where
  pub built : Built
  pub most : ℕ
  pub wants_prefilter : Bool
  pub stands : Anchored → ℕ → Node → Type 0
  pub listed : ℕ → List ℕ

-- the number stands for some node
abbrev pub IsState : (ℕ → Node → Type 0) → ℕ → Type 0
IsState stands s = (u : Node) × stands s u

-- or for one that isn't dead
abbrev pub IsLiveState : (ℕ → Node → Type 0) → ℕ → Type 0
IsLiveState stands s = (v : List ℕ) × stands s (Some v)

-- under some anchoring
abbrev pub IsAnyState : AutomatonView → ℕ → Type 0
IsAnyState a s = (anchored : Anchored) × IsState (a.stands anchored) s

-- a test of a state tells whether each node for which it stands is such
abbrev pub Tells : AutomatonView → ℕ → Bool → (Node → Type 0) → Type 0
Tells a s result IsSo = (anchored : Anchored) (u : Node) → a.stands anchored s u → IsTrue result ↔ IsSo u

-- a byte leads from one state to another: from each node for which the first stands to one for which the other does
abbrev pub StepsTo : AutomatonView → Anchored → ℕ → ℕ → ℕ → Type 0
StepsTo a anchored s byte t = (u : Node) → a.stands anchored s u → a.stands anchored t (step_of a.built anchored u byte)

-- the looks that this takes were counted
abbrev pub CountsLooks : AutomatonView → Anchored → ℕ → ℕ → Counts → Counts → Type 0
CountsLooks a anchored s byte counts new_counts = (u : Node) → a.stands anchored s u
    → new_counts ≡ more_looks (looks_of a.most a.built anchored u byte) counts

-- the rest of a match list after its first match is one of the same searches
abbrev pub KeepsAnchoring : AutomatonView → MatchRest → Option (ℕ × MatchRest) → Type 0
KeepsAnchoring a rest taken = (anchored : Anchored) → IsState (a.stands anchored) rest.state
    → IfSome taken (λ first. IsState (a.stands anchored) first.1.state)

-- the list has the matches that count in an anchored search in front, and is itself a prefix of all matches of
-- the node
pub record ListsFirst (built : Built) (u : Node) (listed : List ℕ) : Type 0 where
  pub passed_over : List ℕ
  pub first : listed ≡ matches_of built Yes u ++ passed_over
  pub left_out : List ℕ
  pub front : matches_of built No u ≡ listed ++ left_out

-- a state that stands for the node may list these matches
abbrev pub Lists : Built → Anchored → Node → List ℕ → Type 0
Lists built No u listed = listed ≡ matches_of built No u
Lists built Yes u listed = ListsFirst built u listed
