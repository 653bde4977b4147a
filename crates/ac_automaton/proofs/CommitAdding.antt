-- Making the commits of all children of a state.
use Rattle.ac_util.proofs.Prelude.{◌≡◌, ◌≢◌, true, ℕ, ◌+◌, ◌-◌, ◌<◌, List, [], ◌∷◌, ◌++◌, length, length-append, inl, inr, refl, ap, sym, ◌∙◌, subst, arith, Some, None, slice_get, slice_set, get_or, nat_eq, starts_with, cases_eq, cases_lt, get_or-set_other, get_or-set_same, length-set, slice_get_within}
use Rattle.ac_automaton.specs.Prelude.{is_node, MatchKind, No, Node, pattern_of, plain_byte, step, Yes, participants, IsPickIn, ChainMatch, Commit, Transition, Making, HasChains, AreMade, HasAdded, HasCommit, HasIndex, HasLedOn, IsChild, IsDone, longer, Made, made_of, MayCommit, NeedsNone, NeedsOne, IsNumbered, Represents, State, transition_bytes, transitions_of, TrieView}
use Rattle.ac_util.proofs.Advance.{pick-stays}
use Rattle.ac_util.proofs.Lists.{Contains-from_IsIn, IsIn, IsIn-from_Contains, IsIn-from_map, IsIn-map}
use Rattle.ac_util.proofs.NodeCount.{any_passes}
use Rattle.ac_automaton.proofs.Branched.{transition_target-is, transition_target-node}
use Rattle.ac_automaton.proofs.Committing.{holds-none, number-node, same-number}
use Rattle.ac_automaton.proofs.CommitSteps.{commit-kept}
use Rattle.ac_automaton.proofs.Places.{get-added, get-added_cases, get-append, get-same, IsIn-place, place-of, PlaceOf}
use Rattle.ac_automaton.proofs.Chains.{chain-same, chains-longer, has-more, has-same}
use Rattle.ac_automaton.proofs.Prefixes.{starts_with-last}

-- some pattern begins with a node's string that has bytes
node-begins : (kind : MatchKind) (patterns : List (List ℕ)) (u : List ℕ) → is_node kind patterns u ≡ true → 0 < length u
    → (n : ℕ) × (starts_with nat_eq (pattern_of patterns n) u ≡ true)
node-begins kind patterns [] node some = absurd (omega arith)
node-begins kind patterns (x ∷ u) node some =
    let n = any_passes (λ number. starts_with nat_eq (pattern_of patterns number) (x ∷ u)) (participants kind patterns) node in
    (n.0, n.2)

module _ {g : TrieView} {states : List State} (may : MayCommit g states) where
  -- the last byte of a node's string is a plain one
  last-plain : (w : List ℕ) (b : ℕ) → is_node g.kind g.patterns (w ++ b ∷ []) ≡ true → plain_byte g.ignores_case b ≡ b
  last-plain w b node =
      let n = node-begins g.kind g.patterns (w ++ b ∷ []) node (let long = length-append w (b ∷ []) in omega arith) in
      may.plain n.0 (length w) b (starts_with-last (pattern_of g.patterns n.0) w b n.1)

  -- a state leads to each longer string by a transition of its own
  pub record IsOwnChild (x : State) (t : ℕ) : Type 0 where
    pub place : ℕ
    pub next : Transition
    pub there : slice_get (transitions_of g.transitions x) place ≡ Some next
    pub target : next.target ≡ t

  pub child-transition : (s t : ℕ) (w : List ℕ) (b : ℕ) (x : State) → Represents g s (Some w) x → IsNumbered g.nodes t (w ++ b ∷ [])
      → IsOwnChild x t
  child-transition s t w b x represents longer = record {
    place = found.place;
    next = last.0;
    there = found.there;
    target = same-number may last.0.target t (w ++ b ∷ []) leads longer (let long = length-append w (b ∷ []) in omega arith);
  }
    where
      node : is_node g.kind g.patterns (w ++ b ∷ []) ≡ true
      node = number-node may t (w ++ b ∷ []) longer

      steps : step g.kind g.patterns Yes (Some w) (plain_byte g.ignores_case b) ≡ Some (w ++ b ∷ [])
      steps =
          ap (step g.kind g.patterns Yes (Some w)) (last-plain w b node) ∙ transition_target-is g.kind g.patterns w b node

      own : List Transition
      own = transitions_of g.transitions x

      last : (next : Transition) × IsIn next own × (next.byte ≡ b)
      last = IsIn-from_map (λ (next : Transition). next.byte) b own
          (IsIn-from_Contains b (transition_bytes own) ((represents.branches b).1 (λ none. let no = sym steps ∙ none in cc)))

      found : PlaceOf last.0 own
      found = place-of last.0 own last.1

      leads : IsNumbered g.nodes last.0.target (w ++ b ∷ [])
      leads =
          represents.leads found.place last.0 found.there
          ∙ ap (λ (c : ℕ). Some (step g.kind g.patterns Yes (Some w) (plain_byte g.ignores_case c))) last.2
          ∙ ap (λ (n : Node). Some n) steps

  -- and each of these leads to a child
  pub transition-child : (s : ℕ) (u : List ℕ) (x : State) → Represents g s (Some u) x → (k : ℕ) (next : Transition)
      → slice_get (transitions_of g.transitions x) k ≡ Some next → IsNumbered g.nodes next.target (longer g u next)
  transition-child s u x represents k next there =
      represents.leads k next there
      ∙ ap (λ (n : Node). Some n) (transition_target-is g.kind g.patterns u (plain_byte g.ignores_case next.byte)
      (transition_target-node g.kind g.patterns u (plain_byte g.ignores_case next.byte)
      ((represents.branches next.byte).0 (Contains-from_IsIn next.byte (transition_bytes own)
      (IsIn-map (λ (x : Transition). x.byte) next own (IsIn-place next own k there))))))
    where
      own : List Transition
      own = transitions_of g.transitions x

  module _ {index : List ℕ} {s : ℕ} (done : IsDone g index s) (u : List ℕ) (named : IsNumbered g.nodes s u) where
    -- more states are done where those of this number are
    done-next : ((t b : ℕ) → IsNumbered g.nodes t (u ++ b ∷ []) → NeedsOne g index t (u ++ b ∷ [])
        → IsPickIn g.kind g.patterns No (u ++ b ∷ []) None) → IsDone g index (s + 1)
    done-next here = λ p t w b before at longer need. elim (cases_lt p s) [
      | inl earlier ↦ done p t w b earlier at longer need
      | inr last ↦
          let state : IsNumbered g.nodes s w = subst (λ (n : ℕ). IsNumbered g.nodes n w) (omega arith) at in
          let same : u ≡ w = (let both = sym named ∙ state in cc) in
          subst (λ (v : List ℕ). IsNumbered g.nodes t (v ++ b ∷ []) → NeedsOne g index t (v ++ b ∷ [])
          → IsPickIn g.kind g.patterns No (v ++ b ∷ []) None) same (here t b) longer need
    ]

    -- the children of a state without a pick have none but by a match
    pub children-none : NeedsOne g index s u → IsDone g index (s + 1)
    children-none need = done-next (λ t b longer child.
        pick-stays g.kind g.patterns No u b None child.matchless (holds-none may s u done named need))

    -- those of any other have their commits, where each of its transitions leads to one that has or needs none
    pub children-made : (x : State) → Represents g s (Some u) x
        → ((k : ℕ) (next : Transition) → slice_get (transitions_of g.transitions x) k ≡ Some next
        → (v : List ℕ) → IsNumbered g.nodes next.target v → NeedsNone g index next.target v) → IsDone g index (s + 1)
    children-made x represents all = done-next (λ t b longer need.
        let own = child-transition s t u b x represents longer in
        let there = subst (λ (n : ℕ). IsNumbered g.nodes n (u ++ b ∷ [])) (sym own.target) longer in
        absurd (elim (all own.place own.next own.there (u ++ b ∷ []) there) [
          | inl some ↦ some (ap (λ (n : ℕ). get_or index n 0) own.target ∙ need.empty)
          | inr match ↦ match need.matchless
        ]))

-- the children by the first transitions of a state have their commits, where they need some
pub record HasAddedFirst (g : TrieView) (old new : Made) (own : List Transition) (count : ℕ) : Type 0 where
  pub made : AreMade g new
  pub chains : HasChains old.chains new.chains
  pub kept : (t : ℕ) → get_or new.index t 0 ≡ 0 → get_or old.index t 0 ≡ 0
  pub done : (k : ℕ) (next : Transition) → k < count → slice_get own k ≡ Some next
      → (u : List ℕ) → IsNumbered g.nodes next.target u → NeedsNone g new.index next.target u

-- what is done stays done as more states have commits
pub done-kept : {g : TrieView} {old new : List ℕ} {s : ℕ} → ((t : ℕ) → get_or new t 0 ≡ 0 → get_or old t 0 ≡ 0)
    → IsDone g old s → IsDone g new s
done-kept kept done = λ p t w b before at longer need.
    done p t w b before at longer (record { empty = kept t need.empty; matchless = need.matchless })

-- and so those by one more
pub added-next : {g : TrieView} {old mid new : Made} {own : List Transition} {count : ℕ} {next : Transition}
    → HasAddedFirst g old mid own count → HasAdded g mid new next → slice_get own count ≡ Some next
    → HasAddedFirst g old new own (count + 1)
added-next {g = g} {new = new} {own = own} {count = count} {next = next} first adds there = record {
  made = adds.made;
  chains = has-more first.chains adds.chains;
  kept = λ t none. first.kept t (adds.kept t none);
  done = λ k other before is u named. elim (cases_lt k count) [
    | inl earlier ↦ elim (first.done k other earlier is u named) [
      | inl some ↦ inl (λ none. some (adds.kept other.target none))
      | inr match ↦ inr match
    ]
    | inr here ↦
        let last : other ≡ next = get-same own k other next is (subst (λ (n : ℕ). slice_get own n ≡ Some next) (omega arith) there) in
        subst (λ (t : Transition). NeedsNone g new.index t.target u) (sym last)
        (adds.child u (subst (λ (t : Transition). IsNumbered g.nodes t.target u) last named))
  ];
}

-- a child of a state with a commit
module _ {Z : Type 0} {making : Making Z} {parent : Commit} {next : Transition} (child : IsChild making parent next) where
  abbrev g : TrieView
  g = child.at.view

  abbrev m : Made
  m = made_of making

  abbrev made : AreMade g m
  made = child.at.made

  -- where it needs no commit
  pub added-none : ((u : List ℕ) → IsNumbered g.nodes next.target u → NeedsNone g m.index next.target u)
      → HasAdded g m m next
  added-none why = record { made = made; chains = has-same m.chains; kept = λ t none. none; child = why }

  -- where it has one now
  module _ {chains : List (List ChainMatch)} {commit : Commit}
      (led : HasLedOn making (record making { chains = chains }) parent next child commit) where
    abbrev index : List ℕ
    index = slice_set m.index next.target (length m.commits + 1)

    abbrev new : Made
    new = record { index = index; commits = m.commits ++ commit ∷ []; chains = chains }

    at-target : (t : ℕ) → t ≡ next.target → get_or index t 0 ≡ length m.commits + 1
    at-target t is =
        ap (λ (k : ℕ). get_or index k 0) is ∙ get_or-set_same m.index next.target (length m.commits + 1) 0
        (let within = slice_get_within g.nodes next.target _ child.longer_named in let long = made.long in omega arith)

    at-other : (t : ℕ) → t ≢ next.target → get_or index t 0 ≡ get_or m.index t 0
    at-other t other = get_or-set_other m.index next.target t (length m.commits + 1) 0 other

    each-new : (k : ℕ) (c : Commit) → slice_get (m.commits ++ commit ∷ []) k ≡ Some c → (v : List ℕ) → IsNumbered g.nodes c.state v
        → HasCommit g chains v c
    each-new k c at v named = elim (get-added_cases m.commits commit c k at) [
      | inl before ↦ commit-kept led.chains (made.each k c before v named)
      | inr last ↦
          let state : IsNumbered g.nodes next.target v = subst (λ (n : ℕ). IsNumbered g.nodes n v)
          (ap (λ (x : Commit). x.state) (sym last.1) ∙ led.state) named in
          let same : longer g child.at.string next ≡ v = (let both = sym child.longer_named ∙ state in cc) in
          subst (λ (x : Commit). HasCommit g chains v x) last.1
          (subst (λ (w : List ℕ). HasCommit g chains w commit) same led.has)
    ]

    placed-new : (t : ℕ) → get_or index t 0 ≢ 0 → HasIndex index (m.commits ++ commit ∷ []) t
    placed-new t some = elim (cases_eq t next.target) [
      | inl is ↦ record {
        commit = commit;
        there = ap (slice_get (m.commits ++ commit ∷ [])) (let at = at-target t is in omega arith) ∙ get-added m.commits commit;
        state = led.state ∙ sym is;
      }
      | inr other ↦
          let before = made.placed t (λ none. some (at-other t other ∙ none)) in
          record {
            commit = before.commit;
            there = ap (λ (k : ℕ). slice_get (m.commits ++ commit ∷ []) (k - 1)) (at-other t other)
                ∙ get-append m.commits (commit ∷ []) (get_or m.index t 0 - 1) before.commit before.there;
            state = before.state;
          }
    ]

    -- what has none now had none before
    old-empty : (t : ℕ) → get_or index t 0 ≡ 0 → get_or m.index t 0 ≡ 0
    old-empty t none = elim (cases_eq t next.target) [
      | inl is ↦ absurd (let at = at-target t is in omega arith)
      | inr other ↦ sym (at-other t other) ∙ none
    ]

    pub added-commit : HasAdded g m new next
    added-commit = record {
      made = record {
        long = length-set m.index next.target (length m.commits + 1) ∙ made.long;
        first = chain-same led.chains 0 made.chained ∙ made.first;
        chained = (let c = made.chained in let l = chains-longer led.chains in omega arith);
        each = each-new;
        placed = placed-new;
      };
      chains = led.chains;
      kept = old-empty;
      child = λ v named. inl (λ none. let at = at-target next.target refl in omega arith);
    }
