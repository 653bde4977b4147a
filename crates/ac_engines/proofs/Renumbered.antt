-- The commits of a trie are those of an engine, by the numbers that this has for the states of the trie.
use Rattle.ac_util.proofs.Prelude.{◌≡◌, ◌≢◌, ℕ, ◌==◌, List, [], ◌∷◌, length, inl, inr, refl, ap, sym, ◌∙◌, subst, arith, get_or, Option, Some, None, slice_get, filter_map, if◌then◌else◌, option_map, cases_eq, cond-false, cond-true, eq-eqb, ne_eqb, slice_get-get_or, slice_get_within, common_steps}
use Rattle.ac_engines.specs.Prelude.{MatchKind, No, Node, IsPickIn, ChainMatch, Commit, AreCommits, CommitsView, HasCommits, IsCommit, ANCHORED_START, START, AreNodes, AutomatonView, IsNumbered, IsTrie, IsTrieState, matches_of, plain_of, Trie, automaton_of, AreRenumbered, number_in, renumbered_one}
use Rattle.std.proofs.lemmas.List.Sorted.{Contains-permutation, IsPermutation-sym}
use Rattle.ac_util.proofs.Lists.{Contains-from_IsIn, IsIn, IsIn-from_Contains}
use Rattle.std.specs.Option.{option_and_then}

-- the states of an automaton that stand for a table of nodes are these
pub nodes-known : (trie : Trie) (nodes : List Node) → IsTrie trie nodes → AreNodes trie nodes
nodes-known trie nodes is = record {
  is_trie = is;
  numbered = is.states.numbered;
  dead = is.states.meant.dead;
  unreached = is.states.unreached;
  start = is.states.start;
  anchored_start = is.states.anchored_start;
  stands = λ s u named. record { nodes = nodes; is_trie = is; named = named };
}

-- a state of the trie other than its anchored start stands for the string, and this is its number
pub record IsNumbersState (nodes : List Node) (numbers : List ℕ) (w : List ℕ) (n : ℕ) : Type 0 where
  pub state : ℕ
  pub other : state ≢ ANCHORED_START
  pub named : IsNumbered nodes state w
  pub number : slice_get numbers state ≡ Some n

-- the numbers are those of an automaton's states, where it serves unanchored searches: that of a state stands for the string of
-- that state and for no other, and each state is one of them
pub record IsNumbering (trie : Trie) (nodes : List Node) (numbers : List ℕ) (a : AutomatonView) : Type 0 where
  pub stands : (m : ℕ) (v : List ℕ) → a.stands No m (Some v) → (w : List ℕ) (n : ℕ) → IsNumbersState nodes numbers w n
      → a.stands No n (Some w)
  pub only : (s n : ℕ) (w : List ℕ) → s ≢ ANCHORED_START → slice_get numbers s ≡ Some n → a.stands No n (Some w)
      → IsNumbered nodes s w
  pub each : (n : ℕ) (w : List ℕ) → a.stands No n (Some w) → IsNumbersState nodes numbers w n
  pub lists : (n : ℕ) (w : List ℕ) → a.stands No n (Some w) → a.listed n ≡ matches_of trie.built No (Some w)

-- what some commits give by their numbers, one of them gives
renumbered-from : (numbers : List ℕ) (commits : List Commit) (commit : Commit)
    → IsIn commit (filter_map (renumbered_one numbers) commits)
    → (from : Commit) × IsIn from commits × (renumbered_one numbers from ≡ Some commit)
renumbered-from numbers [] commit has = absurd has
renumbered-from numbers (c ∷ commits) commit has = by (renumbered_one numbers c) refl (renumbered-from numbers commits commit)
  where
    by : (r : Option Commit) → renumbered_one numbers c ≡ r
        → (IsIn commit (filter_map (renumbered_one numbers) commits)
        → (from : Commit) × IsIn from commits × (renumbered_one numbers from ≡ Some commit))
        → (from : Commit) × IsIn from (c ∷ commits) × (renumbered_one numbers from ≡ Some commit)
    by None e later = let (from, among, gives) = later (rw e at has) in (from, inr among, gives)
    by (Some d) e later = elim (let h : IsIn commit (d ∷ filter_map (renumbered_one numbers) commits) = rw e at has in h) [
      | inl same ↦ (c, inl refl, e ∙ ap (λ (x : Commit). Some x) same)
      | inr more ↦ let (from, among, gives) = later more in (from, inr among, gives)
    ]

-- and what each gives is among them
renumbered-has : (numbers : List ℕ) (commits : List Commit) (from commit : Commit) → IsIn from commits
    → renumbered_one numbers from ≡ Some commit → IsIn commit (filter_map (renumbered_one numbers) commits)
renumbered-has numbers [] from commit has e = absurd has
renumbered-has numbers (c ∷ commits) from commit (inl same) e = rw (same, e) (inl refl)
renumbered-has numbers (c ∷ commits) from commit (inr more) e =
    by (renumbered_one numbers c) refl (renumbered-has numbers commits from commit more e)
  where
    by : (r : Option Commit) → renumbered_one numbers c ≡ r → IsIn commit (filter_map (renumbered_one numbers) commits)
        → IsIn commit (filter_map (renumbered_one numbers) (c ∷ commits))
    by None f rest = rw f rest
    by (Some d) f rest = rw f (inr rest)

-- a commit that has got numbers has got one for its state and one for the next
record HasNumbers (numbers : List ℕ) (from commit : Commit) : Type 0 where
  pub state : number_in numbers from.state ≡ Some commit.state
  pub next : number_in numbers from.next ≡ Some commit.next
  pub same : commit ≡ record from { state = commit.state; next = commit.next }

has-numbers : (numbers : List ℕ) (from commit : Commit) → renumbered_one numbers from ≡ Some commit
    → HasNumbers numbers from commit
has-numbers numbers from commit e = by (number_in numbers from.state) (number_in numbers from.next) refl refl e
  where
    by : (s n : Option ℕ) → number_in numbers from.state ≡ s → number_in numbers from.next ≡ n
        → option_and_then (λ state. option_map (λ next. record from { state = state; next = next }) n) s ≡ Some commit
        → HasNumbers numbers from commit
    by None n state next e = absurd cc
    by (Some s) None state next e = absurd cc
    by (Some s) (Some n) state next e = grind (arith, common_steps)

-- a state of the trie as unanchored searches know it
abbrev unanchored_state : ℕ → ℕ
unanchored_state s = if s == ANCHORED_START then START else s

-- the anchored start isn't one that they know
unanchored-other : (s : ℕ) → unanchored_state s ≢ ANCHORED_START
unanchored-other s same = elim (cases_eq s ANCHORED_START) [
  | inl e ↦ absurd (let start = cond-true (s == ANCHORED_START) START s (eq-eqb s ANCHORED_START e) in omega (arith, same, start))
  | inr other ↦ absurd (other (sym (cond-false (s == ANCHORED_START) START s (ne_eqb s ANCHORED_START other)) ∙ same))
]

-- any other state is one
unanchored-same : (s : ℕ) → s ≢ ANCHORED_START → unanchored_state s ≡ s
unanchored-same s other = cond-false (s == ANCHORED_START) START s (ne_eqb s ANCHORED_START other)

-- and stands for the same node, since both starts stand for the empty string
unanchored-named : (trie : Trie) (nodes : List Node) → AreNodes trie nodes → (s : ℕ)
    → slice_get nodes (unanchored_state s) ≡ slice_get nodes s
unanchored-named trie nodes is s = elim (cases_eq s ANCHORED_START) [
  | inl e ↦
      ap (slice_get nodes) (cond-true (s == ANCHORED_START) START s (eq-eqb s ANCHORED_START e))
      ∙ is.start ∙ sym (ap (slice_get nodes) e ∙ is.anchored_start)
  | inr other ↦ ap (slice_get nodes) (unanchored-same s other)
]

-- so a number in unanchored searches is that of a state of the string
numbers-state : (trie : Trie) (nodes : List Node) → AreNodes trie nodes → (numbers : List ℕ) (s n : ℕ) (w : List ℕ)
    → IsNumbered nodes s w → number_in numbers s ≡ Some n → IsNumbersState nodes numbers w n
numbers-state trie nodes is numbers s n w named number = record {
  state = unanchored_state s;
  other = unanchored-other s;
  named = unanchored-named trie nodes is s ∙ named;
  number = number;
}

module _ (trie : Trie) (numbers : List ℕ) (a : AutomatonView)
    (kind : a.built.kind ≡ trie.built.kind) (patterns : a.built.patterns ≡ trie.built.patterns)
    (ignores_case : a.built.ignores_case ≡ trie.built.ignores_case)
    (nodes : List Node) (is : AreNodes trie nodes) (long : length numbers ≡ length nodes)
    (numbering : (nodes : List Node) → AreNodes trie nodes → IsNumbering trie nodes numbers a) where
  -- what the plain patterns are
  plains : plain_of a.built ≡ plain_of trie.built
  plains = cc

  -- a commit of a string is one by its numbers
  commit-moved : (chains : List (List ChainMatch)) (u : List ℕ) (from commit : Commit) → HasNumbers numbers from commit
      → a.stands No commit.state (Some u) → IsCommit (automaton_of trie) chains u from → IsCommit a chains u commit
  commit-moved chains u from commit has stands c =
      let parts = has.same in
      let pattern : commit.pattern ≡ from.pattern = ap (λ (x : Commit). x.pattern) parts in
      let rest : commit.rest ≡ from.rest = ap (λ (x : Commit). x.rest) parts in
      let chain : commit.chain ≡ from.chain = ap (λ (x : Commit). x.chain) parts in
      let known = nodes-known trie c.stands.nodes c.stands.is_trie in
      record {
        picked = c.picked;
        number = c.number ∙ sym pattern;
        rest = rw rest c.rest;
        chained = rw chain c.chained;
        matches = rw (patterns, rest, chain) c.matches;
        node = c.node;
        stands = (numbering c.stands.nodes known).stands commit.state u stands c.node commit.next
            (numbers-state trie c.stands.nodes known numbers from.next commit.next c.node c.stands.named has.next);
        gives = rw (kind, plains, patterns, chain) c.gives;
      }

  -- the commits of the trie by their numbers are those of the automaton
  pub commits-moved : (old new : CommitsView) → AreRenumbered numbers old new → HasCommits (automaton_of trie) old
      → HasCommits a new
  commits-moved old new renumbered has reads =
      let are : AreCommits (automaton_of trie) old = has (rw (sym kind, sym patterns) reads) in
      let given = filter_map (renumbered_one numbers) old.commits in
      record {
        each = λ commit within u stands.
            let before = Contains-permutation new.commits given commit (IsPermutation-sym given new.commits renumbered.same) within in
            let (from, among, gives) = renumbered-from numbers old.commits commit (IsIn-from_Contains commit given before) in
            let moved = has-numbers numbers from commit gives in
            rw renumbered.chains
            (commit-moved old.chains u from commit moved stands
            (are.each from (Contains-from_IsIn from old.commits among) u
            (is.stands from.state (Some u)
            (sym (unanchored-named trie nodes is from.state)
            ∙ (numbering nodes is).only (unanchored_state from.state) commit.state u
            (unanchored-other from.state) moved.state stands))));
        all = λ n u stands none others.
            let at = (numbering nodes is).each n u stands in
            let there = is.stands at.state (Some u) at.named in
            let picks = are.all at.state u there
            (there.is_trie.lists at.state (Some u) there.named ∙ sym ((numbering nodes is).lists n u stands) ∙ none)
            (λ from within same.
            let c = are.each from within u (rw same there) in
            let (next, number) = numbered-next from.next c.node c.stands in
            let given-one = given-by from n next at same number in
            others (record from { state = n; next = next })
            (Contains-permutation given new.commits _ renumbered.same
            (Contains-from_IsIn _ given (renumbered-has numbers old.commits from _ (IsIn-from_Contains from old.commits within)
            given-one))) refl) in
            subst (λ (k : MatchKind). IsPickIn k (plain_of a.built) No u None) (sym kind)
            (subst (λ (ps : List (List ℕ)). IsPickIn trie.built.kind ps No u None) (sym plains) picks);
      }
    where
      -- a state that stands for a string has a number
      numbered-next : (s : ℕ) (w : List ℕ) → IsTrieState trie s (Some w) → (n : ℕ) × (number_in numbers s ≡ Some n)
      numbered-next s w stands =
          let known = nodes-known trie stands.nodes stands.is_trie in
          let state = unanchored_state s in
          let named = unanchored-named trie stands.nodes known s ∙ stands.named in
          let within = slice_get_within stands.nodes state (Some w) named in
          let whole = stands.is_trie.states.whole in
          let same = is.is_trie.states.whole in
          (get_or numbers state 0, slice_get-get_or numbers state 0 (omega (arith, within, whole, same, long)))

      -- the commit of a state has its number
      given-by : (from : Commit) (n next : ℕ) {u : List ℕ} (at : IsNumbersState nodes numbers u n) → from.state ≡ at.state
          → number_in numbers from.next ≡ Some next
          → renumbered_one numbers from ≡ Some (record from { state = n; next = next })
      given-by from n next at same number =
          let other : from.state ≢ ANCHORED_START = λ e. at.other (sym same ∙ e) in
          let state : number_in numbers from.state ≡ Some n =
          ap (slice_get numbers) (unanchored-same from.state other ∙ same)
          ∙ at.number in
          rw (state, number) refl
