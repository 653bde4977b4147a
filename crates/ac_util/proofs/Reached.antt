-- A step leads from the node that an automaton has reached to the one that it reaches with one more byte.
use Rattle.ac_util.proofs.Prelude.{◌≡◌, ◌≢◌, ℕ, Bool, true, false, ◌&&◌, cond, List, [], ◌∷◌, ◌++◌, refl, ap, sym, ◌∙◌, Some, None, find, rules, arith, cond-false, cond-true, false≢true, common_steps}
use Rattle.ac_util.specs.Prelude.{begins_with_pattern, is_leftmost, is_node, MatchKind, No, Node, open_suffixes, reached, starting_by, step, Yes}
use Rattle.ac_util.specs.declared.search.Anchored.{Anchored}
use Rattle.ac_util.proofs.Participants.{begins-more, is_node-more, is_node-begins}

-- whether no match may start after the beginning of w any more
abbrev pub stops : MatchKind → List (List ℕ) → List ℕ → Bool
stops kind patterns w = is_leftmost kind && begins_with_pattern patterns w

starting_by-one : (l t : Bool) → starting_by (cond l (cond t (Some 0) None) None) ([] ∷ []) ≡ [] ∷ []
starting_by-one false t = refl
starting_by-one true true = refl
starting_by-one true false = refl

-- the empty string has itself as its one suffix
pub open_suffixes-nil : (kind : MatchKind) (patterns : List (List ℕ)) → open_suffixes kind patterns [] ≡ [] ∷ []
open_suffixes-nil kind patterns = starting_by-one (is_leftmost kind) (begins_with_pattern patterns [])

module _ (kind : MatchKind) (patterns : List (List ℕ)) where
  -- the nodes reached, with the shorter names of this file
  abbrev free : List ℕ → Node
  free w = reached kind patterns No w

  abbrev node : List ℕ → Bool
  node w = is_node kind patterns w

  abbrev stop : List ℕ → Bool
  stop w = stops kind patterns w

  -- an automaton begins at the empty node
  pub reached-nil : (anchored : Anchored) → reached kind patterns anchored [] ≡ Some []
  reached-nil No = ap (find (is_node kind patterns)) (open_suffixes-nil kind patterns)
  reached-nil Yes = refl

  -- the node reached, by recursion on what was read
  pub reached-cons : (x : ℕ) (w : List ℕ)
      → free (x ∷ w) ≡ cond (node (x ∷ w)) (Some (x ∷ w)) (cond (stop (x ∷ w)) None (free w))
  reached-cons x w = grind (arith, common_steps)

  -- where no node is dead for being passed a match, none reached without an anchor is
  alive_by : (x : ℕ) (w : List ℕ) (t : Bool) → is_leftmost kind ≡ false → free w ≢ None
      → cond t (Some (x ∷ w)) (cond (is_leftmost kind && begins_with_pattern patterns (x ∷ w)) None (free w)) ≢ None
  alive_by x w true other later dead = absurd (cc)
  alive_by x w false other later dead = grind (arith, common_steps)

  -- an unanchored automaton by Standard is never dead
  pub reached-alive : is_leftmost kind ≡ false → (w : List ℕ) → free w ≢ None
  reached-alive other [] dead = let start = reached-nil No in absurd (cc)
  reached-alive other (x ∷ w) dead =
      alive_by x w (node (x ∷ w)) other (reached-alive other w) (sym (reached-cons x w) ∙ dead)

  -- a step, by recursion on where it begins
  abbrev stepped : List ℕ → ℕ → Node
  stepped u b = step kind patterns No (Some u) b

  -- a step from a string: the whole with the byte, or dead where it may not start later, or the step from the
  -- rest
  pub step-cons : (x b : ℕ) (u : List ℕ)
      → stepped (x ∷ u) b
      ≡ cond (node (x ∷ u ++ b ∷ [])) (Some (x ∷ u ++ b ∷ [])) (cond (stop (x ∷ u)) None (stepped u b))
  step-cons x b u = grind (arith, common_steps)

  -- a step from the empty node
  pub step-nil : (b : ℕ) → stepped [] b ≡ cond (node (b ∷ [])) (Some (b ∷ [])) (cond (stop []) None (Some []))
  step-nil b = grind (arith, common_steps)

  -- where one more byte makes no node, it makes no pattern begin either
  begins_same : (v : List ℕ) (b : ℕ) → node (v ++ b ∷ []) ≡ false
      → begins_with_pattern patterns v ≡ begins_with_pattern patterns (v ++ b ∷ [])
  begins_same v b none = search (rules, begins-more, false≢true, is_node-begins)

  -- where one more byte makes no node, it does not change whether a match may start later
  pub stops-same : (v : List ℕ) (b : ℕ) → node (v ++ b ∷ []) ≡ false → stop v ≡ stop (v ++ b ∷ [])
  stops-same v b none = ap (λ (t : Bool). is_leftmost kind && t) (begins_same v b none)

  -- a step from the node reached is the step from all that was read
  from_node : (x b : ℕ) (w u : List ℕ) (t s : Bool) → node (x ∷ w) ≡ t → stop (x ∷ w) ≡ s
      → cond t (Some (x ∷ w)) (cond s None (free w)) ≡ Some u
      → (free w ≡ Some u → stepped u b ≡ stepped w b) → stepped u b ≡ stepped (x ∷ w) b
  from_node x b w u true s is stop_is e later = cc
  from_node x b w u false true is stop_is e later = absurd (cc)
  from_node x b w u false false is stop_is e later = search (rules, cond-false, is_node-more, step-cons)

  step-from_node : (w u : List ℕ) (b : ℕ) → free w ≡ Some u → stepped u b ≡ stepped w b
  step-from_node [] u b e = grind (arith, common_steps)
  step-from_node (x ∷ w) u b e =
      from_node x b w u (node (x ∷ w)) (stop (x ∷ w)) refl refl (sym (reached-cons x w) ∙ e)
      (λ f. step-from_node w u b f)

  -- where the dead node was reached, no step from all that was read leads on
  from_dead : (x b : ℕ) (w : List ℕ) (t s : Bool) → node (x ∷ w) ≡ t → stop (x ∷ w) ≡ s
      → cond t (Some (x ∷ w)) (cond s None (free w)) ≡ None
      → (free w ≡ None → stepped w b ≡ None) → stepped (x ∷ w) b ≡ None
  from_dead x b w true s is stop_is e later = absurd (cc)
  from_dead x b w false true is stop_is e later = search (rules, cond-true, is_node-more, step-cons)
  from_dead x b w false false is stop_is e later = search (rules, cond-false, is_node-more, step-cons)

  step-from_dead : (w : List ℕ) (b : ℕ) → free w ≡ None → stepped w b ≡ None
  step-from_dead [] b e = let nil = reached-nil No in absurd (cc)
  step-from_dead (x ∷ w) b e =
      from_dead x b w (node (x ∷ w)) (stop (x ∷ w)) refl refl (sym (reached-cons x w) ∙ e)
      (λ f. step-from_dead w b f)

  one_byte : (b : ℕ) (t : Bool) → node (b ∷ []) ≡ t
      → cond t (Some (b ∷ [])) (cond (stop []) None (Some []))
      ≡ cond t (Some (b ∷ [])) (cond (stop (b ∷ [])) None (free []))
  one_byte b true is = refl
  one_byte b false is = grind (arith, common_steps, stops-same [] b is, reached-nil No)

  one_more_byte : (x b : ℕ) (w : List ℕ) (t : Bool) → node (x ∷ w ++ b ∷ []) ≡ t
      → stepped w b ≡ free (w ++ b ∷ [])
      → cond t (Some (x ∷ w ++ b ∷ [])) (cond (stop (x ∷ w)) None (stepped w b))
      ≡ cond t (Some (x ∷ w ++ b ∷ [])) (cond (stop (x ∷ w ++ b ∷ [])) None (free (w ++ b ∷ [])))
  one_more_byte x b w true is later = refl
  one_more_byte x b w false is later = grind (arith, common_steps, stops-same (x ∷ w) b is)

  -- a step from all that was read leads to the node reached with one more byte
  pub step-all : (w : List ℕ) (b : ℕ) → stepped w b ≡ free (w ++ b ∷ [])
  step-all [] b = step-nil b ∙ one_byte b (node (b ∷ [])) refl ∙ sym (reached-cons b [])
  step-all (x ∷ w) b = grind (arith, common_steps, step-cons, one_more_byte, step-all w b)

  step_free : (w : List ℕ) (b : ℕ) (r : Node) → free w ≡ r → step kind patterns No r b ≡ free (w ++ b ∷ [])
  step_free w b None e = sym (step-from_dead w b e) ∙ step-all w b
  step_free w b (Some u) e = step-from_node w u b e ∙ step-all w b

  step_held : (w : List ℕ) (b : ℕ) (t : Bool) → node w ≡ t
      → step kind patterns Yes (cond t (Some w) None) b ≡ reached kind patterns Yes (w ++ b ∷ [])
  step_held w b true is = refl
  step_held w b false is = search (rules, cond-false, is_node-more)

  -- a step leads from the node reached to the one reached with one more byte
  pub step-reached : (anchored : Anchored) (w : List ℕ) (b : ℕ)
      → step kind patterns anchored (reached kind patterns anchored w) b
      ≡ reached kind patterns anchored (w ++ b ∷ [])
  step-reached No w b = step_free w b (free w) refl
  step-reached Yes w b = step_held w b (node w) refl
