-- The bytes of the strings that lead to nodes.
use Rattle.ac_util.proofs.Prelude.{◌≡◌, ◌≢◌, ℕ, zero, suc, ◌<◌, ◌≤◌, true, List, [], ◌∷◌, ◌++◌, length, length-append, inl, inr, refl, ap, sym, ◌∙◌, subst, arith, Some, nat_eq, ◌⊎◌, starts_with, slice_get_within}
use Rattle.ac_engines.specs.Prelude.{participants, is_node, IsNode, Node, pattern_of, plain_byte, step, Yes, Transition, ANCHORED_START, START, AreNodes, IsNumbered, meaning_of, plain_of, Represents, state_at, transition_bytes, transitions_of, Trie}
use Rattle.ac_util.proofs.Lists.{IsIn-from_Contains, IsIn-from_map}
use Rattle.ac_util.proofs.NodeCount.{any_passes, inner_nodes-has, inner_nodes-only}
use Rattle.ac_util.proofs.Participants.{is_node-front}
use Rattle.ac_automaton.proofs.Branched.{transition_target-is}
use Rattle.ac_automaton.proofs.Places.{place-of}
use Rattle.ac_automaton.proofs.Prefixes.{starts_with-last}
use Rattle.ac_automaton.proofs.WholeTries.{plain-pattern}

-- a string that isn't empty ends with a byte
pub record HasLast (w : List ℕ) : Type 0 where
  pub front : List ℕ
  pub last : ℕ
  pub whole : w ≡ front ++ last ∷ []

pub has-last : (x : ℕ) (w : List ℕ) → HasLast (x ∷ w)
has-last x [] = record { front = []; last = x; whole = refl }
has-last x (y ∷ w) =
    let more = has-last y w in
    record { front = x ∷ more.front; last = more.last; whole = ap (λ (v : List ℕ). x ∷ v) more.whole }

-- what holds of the empty string, and of each longer one if it holds of that without the last byte, holds of all
pub by-last : (P : List ℕ → Type 0) → P [] → ((v : List ℕ) (b : ℕ) → P v → P (v ++ b ∷ [])) → (w : List ℕ) → P w
by-last P none more w = go (length w) w (omega arith)
  where
    go : (n : ℕ) (w : List ℕ) → length w ≤ n → P w
    go n [] short = none
    go zero (x ∷ w) short = absurd (omega (arith, short))
    go (suc n) (x ∷ w) short =
        let last = has-last x w in
        let long = ap length last.whole ∙ length-append last.front (last.last ∷ []) in
        subst P (sym last.whole) (more last.front last.last (go n last.front (omega (arith, short, long))))

module _ (trie : Trie) (nodes : List Node) (are : AreNodes trie nodes) where
  -- some state stands for each string that leads to a node, and it isn't the anchored start
  pub record IsStated (w : List ℕ) : Type 0 where
    pub state : ℕ
    pub named : IsNumbered nodes state w
    pub place : (state ≡ 2) ⊎ (4 ≤ state)

  pub stated : (w : List ℕ) → IsNode trie.built.kind (plain_of trie.built) (Some w) → IsStated w
  stated [] node = record { state = START; named = are.start; place = inl refl }
  stated (x ∷ w) node =
      let (s, number) = are.numbered.each (x ∷ w) (inner_nodes-has trie.built.kind (plain_of trie.built) (x ∷ w) node (λ e. absurd cc)) in
      record { state = s; named = number.named; place = inr number.inner }

  -- a state that stands for a string and isn't the anchored start is the unanchored one or an inner state
  pub named-place : (s : ℕ) (w : List ℕ) → IsNumbered nodes s w → s ≢ ANCHORED_START → (s ≡ 2) ⊎ (4 ≤ s)
  named-place zero w named other = let dead = are.dead in absurd cc
  named-place (suc zero) w named other = let dead = are.unreached in absurd cc
  named-place (suc (suc zero)) w named other = inl refl
  named-place (suc (suc (suc zero))) w named other = absurd (other refl)
  named-place (suc (suc (suc (suc s)))) w named other = inr (omega arith)

  -- and the string leads to a node
  pub named-node : (s : ℕ) (w : List ℕ) → IsNumbered nodes s w → IsNode trie.built.kind (plain_of trie.built) (Some w)
  named-node zero w named = let dead = are.dead in absurd cc
  named-node (suc zero) w named = let dead = are.unreached in absurd cc
  named-node (suc (suc zero)) w named =
      let empty : w ≡ [] = let start = are.start in cc in subst (λ (v : List ℕ). IsNode trie.built.kind (plain_of trie.built) (Some v)) (sym empty) refl
  named-node (suc (suc (suc zero))) w named =
      let empty : w ≡ [] = let start = are.anchored_start in cc in subst (λ (v : List ℕ). IsNode trie.built.kind (plain_of trie.built) (Some v)) (sym empty) refl
  named-node (suc (suc (suc (suc s)))) w named =
      let (node, some) = inner_nodes-only trie.built.kind (plain_of trie.built) w
      (are.numbered.only (suc (suc (suc (suc s)))) w (record { inner = omega arith; named = named })) in
      node

  module _ (w : List ℕ) (b : ℕ) (node : IsNode trie.built.kind (plain_of trie.built) (Some (w ++ b ∷ []))) where
    -- the string without its last byte leads to a node too
    pub front-node : IsNode trie.built.kind (plain_of trie.built) (Some w)
    front-node = is_node-front trie.built.kind (plain_of trie.built) w b node

    -- the last byte is a plain one
    pub last-plain : plain_byte trie.built.ignores_case b ≡ b
    last-plain = by w node
      where
        of-pattern : (w : List ℕ) (n : ℕ) → starts_with nat_eq (pattern_of (plain_of trie.built) n) (w ++ b ∷ []) ≡ true
            → plain_byte trie.built.ignores_case b ≡ b
        of-pattern w n begins =
            plain-pattern trie.built.ignores_case trie.built.patterns n (length w) b
            (starts_with-last (pattern_of (plain_of trie.built) n) w b begins)

        by : (w : List ℕ) → is_node trie.built.kind (plain_of trie.built) (w ++ b ∷ []) ≡ true
            → plain_byte trie.built.ignores_case b ≡ b
        by [] node =
            let (number, among, begins) = any_passes (λ number. starts_with nat_eq (pattern_of (plain_of trie.built) number) (b ∷ []))
            (participants trie.built.kind (plain_of trie.built)) node in
            of-pattern [] number begins
        by (x ∷ w) node =
            let (number, among, begins) = any_passes (λ number. starts_with nat_eq (pattern_of (plain_of trie.built) number) (x ∷ w ++ b ∷ []))
            (participants trie.built.kind (plain_of trie.built)) node in
            of-pattern (x ∷ w) number begins

    -- and small: the state of the string without it has a transition by it
    pub last-small : b < 256
    last-small =
        let (x, among, is) = IsIn-from_map (λ (x : Transition). x.byte) b own
        (IsIn-from_Contains b (transition_bytes own) ((represents.branches b).1 (λ none. let no = sym steps ∙ none in cc))) in
        let found = place-of x own among in
        subst (λ (n : ℕ). n < 256) is (represents.small found.place x found.there)
      where
        parent : IsStated w
        parent = stated w front-node

        represents : Represents (meaning_of trie nodes) parent.state (Some w) (state_at trie.states parent.state)
        represents =
            let within = slice_get_within nodes parent.state (Some w) parent.named in
            let whole = are.is_trie.states.whole in
            are.is_trie.states.meant.each parent.state (Some w) (omega (arith, within, whole)) parent.named

        own : List Transition
        own = transitions_of trie.transitions (state_at trie.states parent.state)

        steps : step trie.built.kind (plain_of trie.built) Yes (Some w) (plain_byte trie.built.ignores_case b) ≡ Some (w ++ b ∷ [])
        steps =
            ap (step trie.built.kind (plain_of trie.built) Yes (Some w)) last-plain
            ∙ transition_target-is trie.built.kind (plain_of trie.built) w b node
