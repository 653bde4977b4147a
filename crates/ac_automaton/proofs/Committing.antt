-- Making the commits of a noncontiguous NFA: what is held of a state.
use Rattle.ac_util.proofs.Prelude.{◌≡◌, ◌≢◌, true, ℕ, suc, zero, ◌-◌, ◌<◌, ◌≤◌, List, [], ◌∷◌, ◌++◌, length, length-append, map, drop, inl, inr, refl, ap, sym, ◌∙◌, subst, arith, All, Some, None, get_or, cases_lt, get_or_read, get_or_from_slice_get, slice_get_within}
use Rattle.ac_automaton.specs.Prelude.{standing_at, IsPickIn, Anything, NodeCommits, GREATEST, is_node, No, ChainMatch, Commit, IsChainMatch, AreMade, ending_by, HasCommit, IsCommitAt, IsDone, Made, MayCommit, NeedsOne, all_matches, FIRST_INNER, IsNumbered, IsNumberOf, START, State, TrieView}
use Rattle.ac_util.proofs.NodeCommits.{node-ends}
use Rattle.ac_util.proofs.NodeCount.{inner_nodes-has, inner_nodes-only}
use Rattle.ac_util.proofs.NodePicks.{match-picked}
use Rattle.ac_util.proofs.Participants.{is_node-front}
use Rattle.ac_util.proofs.Standing.{Prefixes-length}
use Rattle.ac_automaton.proofs.TrieStates.{number-state}

-- a string with bytes is one without its last byte, and that
pub record HasLast (u : List ℕ) : Type 0 where
  pub front : List ℕ
  pub byte : ℕ
  pub whole : u ≡ front ++ byte ∷ []

last-byte : (x : ℕ) (u : List ℕ) → HasLast (x ∷ u)
last-byte x [] = record { front = []; byte = x; whole = refl }
last-byte x (y ∷ u) =
    let last = last-byte y u in
    record { front = x ∷ last.front; byte = last.byte; whole = ap (λ (v : List ℕ). x ∷ v) last.whole }

-- the parent of a state
pub record HasParentState (g : TrieView) (t : ℕ) (u : List ℕ) : Type 0 where
  pub last : HasLast u
  pub parent : ℕ
  pub named : IsNumbered g.nodes parent last.front
  pub before : parent < t

module _ {g : TrieView} {states : List State} (may : MayCommit g states) where
  -- the empty string has no pick
  pub empty-none : IsPickIn g.kind g.patterns No [] None
  empty-none = λ n s stands.
      let short = Prefixes-length g.patterns (drop s []) n stands.prefixes in let none = ap length (drop-nothing s) in
      let some = may.some n stands.prefixes.numbered in omega arith
    where
      drop-nothing : (s : ℕ) → drop {A = ℕ} s [] ≡ []
      drop-nothing zero = refl
      drop-nothing (suc s) = refl

  -- the first states stand for no other
  pub outer-empty : (s : ℕ) (u : List ℕ) → IsNumbered g.nodes s u → s < FIRST_INNER → u ≡ []
  outer-empty s [] named outer = refl
  outer-empty s (x ∷ u) named outer =
      let state = number-state may.all s (Some (x ∷ u)) named in
      absurd (let none = (may.all.meant.each s (Some (x ∷ u)) state.there named).outer outer in omega arith)

  -- a string with bytes is that of an inner state
  pub inner-number : (s : ℕ) (u : List ℕ) → IsNumbered g.nodes s u → 0 < length u → IsNumberOf g.nodes s u
  inner-number s u named some = record {
    inner = elim (cases_lt s FIRST_INNER) [
      | inl outer ↦ absurd (let none = ap length (outer-empty s u named outer) in omega arith)
      | inr inner ↦ inner
    ];
    named = named;
  }

  -- which is of no other
  pub same-number : (s t : ℕ) (u : List ℕ) → IsNumbered g.nodes s u → IsNumbered g.nodes t u → 0 < length u → s ≡ t
  same-number s t u named other some =
      may.all.numbered.once s t u (inner-number s u named some) (inner-number t u other some)

  -- the string of a state leads to a node
  pub number-node : (s : ℕ) (u : List ℕ) → IsNumbered g.nodes s u → is_node g.kind g.patterns u ≡ true
  number-node s [] named = refl
  number-node s (x ∷ u) named =
      (inner_nodes-only g.kind g.patterns (x ∷ u) (may.all.numbered.only s (x ∷ u) (inner-number s (x ∷ u) named (omega arith)))).0

  -- and a node has a state
  node-number : (u : List ℕ) → is_node g.kind g.patterns u ≡ true → (s : ℕ) × IsNumbered g.nodes s u
  node-number [] node = (START, may.all.start)
  node-number (x ∷ u) node =
      let number = may.all.numbered.each (x ∷ u) (inner_nodes-has g.kind g.patterns (x ∷ u) node (λ e. absurd (cc))) in
      (number.0, number.1.named)

  -- of two strings the shorter has the lesser number
  pub shorter-before : (s t : ℕ) (u v : List ℕ) → IsNumbered g.nodes s u → IsNumbered g.nodes t v → length v < length u → t < s
  shorter-before s t u v named other short = elim (cases_lt t s) [
    | inl before ↦ before
    | inr after ↦ absurd (let deep = may.all.rising s t (Some u) (Some v) named other after in omega arith)
  ]

  -- a state of a string with bytes has a parent, which comes before it
  pub state-parent : (t x : ℕ) (u : List ℕ) → IsNumbered g.nodes t (x ∷ u) → HasParentState g t (x ∷ u)
  state-parent t x u named =
      let last = last-byte x u in
      let node = subst (λ (v : List ℕ). is_node g.kind g.patterns v ≡ true) last.whole (number-node t (x ∷ u) named) in
      let parent = node-number last.front (is_node-front g.kind g.patterns last.front last.byte node) in
      let long = ap length last.whole ∙ length-append last.front (last.byte ∷ []) in
      record {
        last = last;
        parent = parent.0;
        named = parent.1;
        before = shorter-before t parent.0 (x ∷ u) last.front named parent.1 (omega arith);
      }

  -- a state's string is no longer than its number
  string-below : (n t : ℕ) (u : List ℕ) → IsNumbered g.nodes t u → length u ≤ n → length u ≤ t
  string-below zero t u named short = omega arith
  string-below (suc n) t [] named short = omega arith
  string-below (suc n) t (x ∷ u) named short =
      let p = state-parent t x u named in
      let long = ap length p.last.whole ∙ length-append p.last.front (p.last.byte ∷ []) in
      let below = string-below n p.parent p.last.front p.named (omega arith) in let before = p.before in omega arith

  -- so it isn't longer than there are numbers
  pub string-few : (t : ℕ) (u : List ℕ) → IsNumbered g.nodes t u → length u ≤ GREATEST
  string-few t u named =
      let below = string-below (length u) t u named (omega arith) in
      let within = slice_get_within g.nodes t (Some u) named in let few = may.all.few in omega arith

  -- what was read of a state's index
  pub read-index : {m : Made} → AreMade g m → (s : ℕ) (u : List ℕ) → IsNumbered g.nodes s u
      → (x : ℕ) → x ≡ get_or m.index s x → get_or m.index s 0 ≡ x
  read-index {m = m} made s u named x is =
      sym (get_or_read m.index s x
      (let long = made.long in let there = slice_get_within g.nodes s (Some u) named in omega arith) is 0)

  module _ {m : Made} {s : ℕ} (made : AreMade g m) (u : List ℕ) (named : IsNumbered g.nodes s u) where
    -- where a state's string ends with a match, that is picked
    pub holds-match : (i : ℕ) (rest : List ℕ) → all_matches g (Some u) ≡ i ∷ rest
        → HasCommit g m.chains u (record { state = s; pattern = i; rest = 0; next = START; chain = 0 })
    holds-match i rest e =
        let ends = match-picked g.kind g.patterns may.leftmost u i rest e in
        record {
          picked = standing_at g.patterns i ends.start;
          number = refl;
          rest = (let is = ends.whole in omega arith);
          chained = made.chained;
          matches = subst (All (IsChainMatch g.patterns 0)) (sym made.first) (λ k d within. absurd (omega arith));
          node = [];
          named = may.all.start;
          gives = subst (λ (chain : List ChainMatch). NodeCommits g.kind g.patterns u Anything
              (standing_at g.patterns i ends.start) (map (ending_by g.patterns) chain) [])
              (sym made.first) (node-ends g.kind g.patterns may.leftmost may.some u i ends);
        }

    -- where a commit was made, it has that
    pub holds-made : (commit : Commit) → get_or m.index s 0 ≢ 0
        → commit ≡ get_or m.commits (get_or m.index s 0 - 1) commit → IsCommitAt g m s u commit
    holds-made commit some is =
        let at = made.placed s some in
        let place = get_or m.index s 0 - 1 in
        subst (IsCommitAt g m s u) (sym (is ∙ get_or_from_slice_get m.commits place at.commit commit at.there)) (record {
          has = made.each place at.commit at.there u (subst (λ (n : ℕ). IsNumbered g.nodes n u) (sym at.state) named);
          state = at.state;
          none = inl some;
        })

  -- where it has none and none was to be made, it has no pick
  pub holds-none : {index : List ℕ} (s : ℕ) (u : List ℕ) → IsDone g index s → IsNumbered g.nodes s u → NeedsOne g index s u
      → IsPickIn g.kind g.patterns No u None
  holds-none s [] done named need = empty-none
  holds-none {index = index} s (x ∷ u) done named need =
      let p = state-parent s x u named in
      subst (λ (v : List ℕ). IsPickIn g.kind g.patterns No v None) (sym p.last.whole)
      (done p.parent s p.last.front p.last.byte p.before p.named (subst (IsNumbered g.nodes s) p.last.whole named)
      (subst (NeedsOne g index s) p.last.whole need))
