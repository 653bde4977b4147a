-- Making the commit of a child from that of its parent.
use Rattle.ac_util.proofs.Prelude.{◌≡◌, ◌&&◌, ℕ, suc, zero, ◌+◌, ◌-◌, ◌<◌, ◌≤◌, List, [], ◌∷◌, ◌++◌, length, length-append, length-drop, map, drop, refl, ap, sym, ◌∙◌, subst, arith, All, Some, None, slice_get, get_or, cond, Bool, append-nil, map-append, All-append, All-map}
use Rattle.ac_automaton.specs.Prelude.{begins_with_pattern, GREATEST, is_leftmost, No, Node, Occurrence, pattern_of, plain_byte, reached, step, outward, IsPickIn, Anything, NodeCommits, ChainMatch, Commit, Transition, chain_at, GrowsBy, HasChains, IsChainMatch, shifted, Making, AreMade, ending_by, HasCommit, HasString, IsViewOf, LeadsToChild, lists_of, ListsView, Made, made_of, MayCommit, NeedsOne, HasState, IsNumbered, START, State, TrieView}
use Rattle.ac_util.proofs.Commits.{commits-where, Next}
use Rattle.ac_util.proofs.NodeCommits.{node-dead, node-on, node-shorter}
use Rattle.ac_util.proofs.NodePicks.{dead-has_pick}
use Rattle.ac_util.proofs.Picks.{same_occurrence}
use Rattle.ac_util.proofs.Reached.{reached-cons, reached-nil}
use Rattle.ac_automaton.proofs.Chains.{chain-same, chains-longer, has-more}
use Rattle.ac_automaton.proofs.Committing.{holds-none, number-node, shorter-before, string-few}
use Rattle.ac_automaton.proofs.TrieStates.{dead-number, number-state}

-- what holds of all matches of a chain still does where it is weaker
All-weaker : {P Q : ChainMatch → Type 0} (chain : List ChainMatch) → All P chain → ((m : ChainMatch) → P m → Q m) → All Q chain
All-weaker chain all weaker = λ k d within. weaker (get_or chain k d) (all k d within)

-- a match that is counted from an offset on
ending-shifted : (patterns : List (List ℕ)) (offset : ℕ) (m : ChainMatch) → length (pattern_of patterns m.pattern) ≤ m.end
    → ending_by patterns (shifted offset m) ≡ outward offset (ending_by patterns m)
ending-shifted patterns offset m fits =
    same_occurrence (ending_by patterns (shifted offset m)) (outward offset (ending_by patterns m)) refl (omega arith) refl

map-shifted : (patterns : List (List ℕ)) (offset rest : ℕ) (chain : List ChainMatch) → All (IsChainMatch patterns rest) chain
    → map (ending_by patterns) (map (shifted offset) chain) ≡ map (outward offset) (map (ending_by patterns) chain)
map-shifted patterns offset rest [] all = refl
map-shifted patterns offset rest (m ∷ chain) all =
    ap (λ (o : Occurrence). o ∷ map (ending_by patterns) (map (shifted offset) chain))
    (ending-shifted patterns offset m (all 0 m (omega arith)).fits)
    ∙ ap (λ (os : List Occurrence). outward offset (ending_by patterns m) ∷ os)
    (map-shifted patterns offset rest chain (λ k d within. all (suc k) d (omega arith)))

module _ {g : TrieView} where
  -- a commit stays one as more chains come
  pub commit-kept : {old new : List (List ChainMatch)} {u : List ℕ} {commit : Commit} → HasChains old new
      → HasCommit g old u commit → HasCommit g new u commit
  commit-kept {old = old} {new = new} {u = u} {commit = commit} more has =
      let same = sym (chain-same more commit.chain has.chained) in
      record {
        picked = has.picked;
        number = has.number;
        rest = has.rest;
        chained = (let c = has.chained in let l = chains-longer more in omega arith);
        matches = subst (All (IsChainMatch g.patterns commit.rest)) same has.matches;
        node = has.node;
        named = has.named;
        gives = subst (λ (chain : List ChainMatch). NodeCommits g.kind g.patterns u Anything has.picked
            (map (ending_by g.patterns) chain) has.node) same has.gives;
      }

  -- so what was made stays made
  pub made-kept : {m : Made} {chains : List (List ChainMatch)} → HasChains m.chains chains → AreMade g m
      → AreMade g (record m { chains = chains })
  made-kept more made = record {
    long = made.long;
    first = chain-same more 0 made.chained ∙ made.first;
    chained = (let c = made.chained in let l = chains-longer more in omega arith);
    each = λ k commit at u named. commit-kept more (made.each k commit at u named);
    placed = made.placed;
  }

module _ {g : TrieView} {states : List State} (may : MayCommit g states) where
  -- a number from the start on is that of a string
  pub number-alive : (t : ℕ) (n : Node) → START ≤ t → slice_get g.nodes t ≡ Some n → (x : List ℕ) × (n ≡ Some x)
  number-alive t None from named = absurd (let dead = (dead-number may.all t None named).1 refl in omega arith)
  number-alive t (Some x) from named = (x, refl)

  -- a node is reached by its own string
  pub node-reached : (s : ℕ) (v : List ℕ) → IsNumbered g.nodes s v → reached g.kind g.patterns No v ≡ Some v
  node-reached s [] named = reached-nil g.kind g.patterns No
  node-reached s (x ∷ v) named =
      reached-cons g.kind g.patterns x v
      ∙ ap (λ (t : Bool). cond t (Some (x ∷ v))
      (cond (is_leftmost g.kind && begins_with_pattern g.patterns (x ∷ v)) None (reached g.kind g.patterns No v)))
      (number-node may s (x ∷ v) named)

  -- a pick has bytes
  pub pick-some : (u : List ℕ) (m : Occurrence) → IsPickIn g.kind g.patterns No u (Some m) → m.start < m.end
  pick-some u m picked =
      let some = may.some m.pattern picked.stands.prefixes.numbered in let long = picked.as_long in omega arith

-- a state of what is made of the same lists by now
abbrev pub state-in : {Z : Type 0} {old new : Making Z} {s t : ℕ} (at : HasString old s) → lists_of new ≡ lists_of old
    → AreMade at.view (made_of new) → (u : List ℕ) → IsNumbered at.view.nodes t u → HasString new t
state-in at same made u named = record {
  view = at.view;
  lists = subst (λ (lists : ListsView). IsViewOf lists at.view) (sym same) at.lists;
  made = made;
  string = u;
  named = named;
}

-- on the way from a parent to its child: the walk of what the parent's string has after its pick has given a chain, and stands
-- at a node, before the byte
pub record OnWay {Z : Type 0} {making : Making Z} {parent : Commit} {next : Transition} (leads : LeadsToChild making parent next)
    (chains : List (List ChainMatch)) (at chain : ℕ) : Type 0 where
  pub kept : HasChains making.chains chains
  pub chained : chain < length chains
  pub matches : All (IsChainMatch leads.child.at.view.patterns parent.rest) (chain_at chains chain)
  pub node : List ℕ
  pub named : IsNumbered leads.child.at.view.nodes at node
  pub way : NodeCommits leads.child.at.view.kind leads.child.at.view.patterns leads.child.at.string
      (Next (plain_byte leads.child.at.view.ignores_case next.byte)) leads.child.commit.picked
      (map (ending_by leads.child.at.view.patterns) (chain_at chains chain)) node

module _ {Z : Type 0} {making : Making Z} {parent : Commit} {next : Transition} (leads : LeadsToChild making parent next) where
  abbrev g : TrieView
  g = leads.child.at.view

  abbrev u : List ℕ
  u = leads.child.at.string

  abbrev b : ℕ
  b = plain_byte g.ignores_case next.byte

  abbrev commit : HasCommit g making.chains u parent
  commit = leads.child.commit

  pub may-commit : MayCommit g making.states.now
  may-commit = leads.child.at.lists.may

  -- as it begins
  pub way-starts : OnWay leads making.chains parent.next parent.chain
  way-starts = record {
    kept = record { added = []; whole = sym (append-nil making.chains) };
    chained = commit.chained;
    matches = commit.matches;
    node = commit.node;
    named = commit.named;
    way = record {
      picked = commit.gives.picked;
      rest = commits-where g.kind g.patterns may-commit.leftmost may-commit.some (drop commit.picked.end u)
          (map (ending_by g.patterns) (chain_at making.chains parent.chain)) commit.node (Next b) commit.gives.rest;
    };
  }

  -- the child's string isn't longer than there are numbers
  pub child-few : length u + 1 ≤ GREATEST
  child-few =
      let few = string-few may-commit next.target (u ++ b ∷ []) leads.child.longer_named in
      let long = length-append u (b ∷ []) in omega arith

  module _ {chains : List (List ChainMatch)} {at chain : ℕ} (way : OnWay leads chains at chain) where
    abbrev given : List Occurrence
    given = map (ending_by g.patterns) (chain_at chains chain)

    -- the node is shorter than the string
    pub way-short : length way.node ≤ parent.rest
    way-short =
        let short = node-shorter g.kind g.patterns may-commit.leftmost may-commit.some u commit.picked given way.node (Next b) way.way in
        let rest = commit.rest in omega arith

    way-back : at < parent.state
    way-back =
        let short = way-short in let rest = commit.rest in let some = pick-some may-commit u commit.picked commit.gives.picked in
        shorter-before may-commit parent.state at u way.node leads.child.at.named way.named (omega arith)

    -- where it needs no commit, it has no pick
    pub way-none : NeedsOne g (made_of making).index at way.node → IsPickIn g.kind g.patterns No way.node None
    way-none need = holds-none may-commit at way.node (λ p t w b less. leads.child.done p t w b
        (let back = way-back in omega arith)) way.named need

    -- one of the states stands for the node
    pub way-state : HasState g making.states.now at (Some way.node)
    way-state = number-state may-commit.all at (Some way.node) way.named

    -- where the byte leads from there
    abbrev pub way-step : Node
    way-step = step g.kind g.patterns No (Some way.node) b

    -- where it leads on, the child has its commit
    pub way-ends : (to : ℕ) → START ≤ to → slice_get g.nodes to ≡ Some way-step
        → HasCommit g chains (u ++ b ∷ []) (record parent { state = next.target; rest = parent.rest + 1; next = to; chain = chain })
    way-ends to alive leads-to =
        let x = number-alive may-commit to way-step alive leads-to in
        let long = length-append u (b ∷ []) in let before = commit.rest in
        record {
          picked = commit.picked;
          number = commit.number;
          rest = omega arith;
          chained = way.chained;
          matches = All-weaker {P = IsChainMatch g.patterns parent.rest} {Q = IsChainMatch g.patterns (parent.rest + 1)} (chain_at chains chain)
              way.matches (λ m is-match. record {
                numbered = is-match.numbered;
                fits = is-match.fits;
                within = (let w = is-match.within in omega arith);
              });
          node = x.0;
          named = leads-to ∙ ap (λ (n : Node). Some n) x.1;
          gives = node-on g.kind g.patterns may-commit.leftmost may-commit.some u b commit.picked given way.node x.0 way.way leads.matchless x.1;
        }

    -- else it has a pick
    module _ (dead : way-step ≡ None) where
      pub way-picks : IsPickIn g.kind g.patterns No way.node None → ⊥
      way-picks = dead-has_pick g.kind g.patterns may-commit.leftmost way.node b (node-reached may-commit at way.node way.named) dead

      -- its commit lies within what is left
      module _ (held : Commit) (has : HasCommit g chains way.node held) where
        abbrev more : List Occurrence
        more = map (ending_by g.patterns) (chain_at chains held.chain)

        pub held-short : held.rest ≤ parent.rest
        held-short = let short = way-short in let rest = has.rest in omega arith

        pub held-before : held.next < at
        held-before =
            let short = node-shorter g.kind g.patterns may-commit.leftmost may-commit.some way.node has.picked more has.node Anything
            has.gives in
            let some = pick-some may-commit way.node has.picked has.gives.picked in let rest = has.rest in
            shorter-before may-commit at held.next way.node has.node way.named has.named (omega arith)

        abbrev end : ℕ
        end = parent.rest - held.rest

        -- the match that is picked there, counted from the end of the parent's
        abbrev first : ChainMatch
        first = record { pattern = held.pattern; end = end }

        abbrev placed : Occurrence
        placed = outward (length (drop commit.picked.end u) - length way.node) has.picked

        end-is : end ≡ placed.end
        end-is =
            let long = length-drop commit.picked.end u in let rest = commit.rest in
            let inner = has.rest in let short = way-short in omega arith

        first-fits : length (pattern_of g.patterns held.pattern) ≤ has.picked.end
        first-fits =
            subst (λ (n : ℕ). length (pattern_of g.patterns n) ≤ has.picked.end) has.number
            (let long = has.gives.picked.as_long in omega arith)

        first-is : ending_by g.patterns first ≡ placed
        first-is =
            same_occurrence (ending_by g.patterns first) placed (sym has.number)
            (let long = ap (λ (n : ℕ). has.picked.start + length (pattern_of g.patterns n)) (sym has.number) ∙ has.gives.picked.as_long in
            let is = end-is in omega arith) end-is

        more-are : map (ending_by g.patterns) (first ∷ map (shifted end) (chain_at chains held.chain))
            ≡ placed ∷ map (outward placed.end) more
        more-are =
            ap (λ (o : Occurrence). o ∷ map (ending_by g.patterns) (map (shifted end) (chain_at chains held.chain))) first-is
            ∙ ap (λ (os : List Occurrence). placed ∷ os)
            (map-shifted g.patterns end held.rest (chain_at chains held.chain) has.matches
            ∙ ap (λ (k : ℕ). map (outward k) more) end-is)

        -- all that is given lies in what is left
        more-match : All (IsChainMatch g.patterns parent.rest) (first ∷ map (shifted end) (chain_at chains held.chain))
        more-match zero d within = record {
          numbered = subst (λ (n : ℕ). n < length g.patterns) has.number has.gives.picked.stands.prefixes.numbered;
          fits = (let is = end-is in let fits = first-fits in omega arith);
          within = omega arith;
        }
        more-match (suc k) d within =
            All-map (IsChainMatch g.patterns parent.rest) (shifted end) (chain_at chains held.chain)
            (All-weaker {P = IsChainMatch g.patterns held.rest} {Q = λ (m : ChainMatch). IsChainMatch g.patterns parent.rest (shifted end m)}
            (chain_at chains held.chain) has.matches (λ m is-match. record {
              numbered = is-match.numbered;
              fits = (let f = is-match.fits in omega arith);
              within = (let w = is-match.within in let short = held-short in omega arith);
            })) k d (omega arith)

        -- and then that is given
        pub way-on : (new : List (List ChainMatch)) (number : ℕ)
            → GrowsBy chains chain (first ∷ map (shifted end) (chain_at chains held.chain)) new number
            → OnWay leads new held.next number
        way-on new number grows = record {
          kept = has-more way.kept grows.kept;
          chained = grows.chained;
          matches = subst (All (IsChainMatch g.patterns parent.rest)) (sym grows.grown)
              (All-append (IsChainMatch g.patterns parent.rest) (chain_at chains chain)
              (first ∷ map (shifted end) (chain_at chains held.chain)) way.matches more-match);
          node = has.node;
          named = has.named;
          way = subst (λ (os : List Occurrence). NodeCommits g.kind g.patterns u (Next b) commit.picked os has.node)
              (sym (ap (map (ending_by g.patterns)) grows.grown
              ∙ map-append (ending_by g.patterns) (chain_at chains chain) (first ∷ map (shifted end) (chain_at chains held.chain))
              ∙ ap (λ (os : List Occurrence). given ++ os) more-are))
              (node-dead g.kind g.patterns may-commit.leftmost may-commit.some u b commit.picked given way.node way.way dead has.picked
              more has.node has.gives);
        }
