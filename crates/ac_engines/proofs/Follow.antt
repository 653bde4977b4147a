-- A walk along the failure targets of a contiguous NFA: it keeps where the byte leads at last, and counts its looks.
use Rattle.ac_util.proofs.Prelude.{◌≡◌, ◌≢◌, ℕ, ◌+◌, ◌<◌, ◌≤◌, List, drop, length, refl, arith, Some, None, rules, common_steps}
use Rattle.ac_engines.specs.Prelude.{alphabet_len, Counts, depth, GREATEST, IsNode, more_looks, No, Node, Yes, looks_of, plain_of, step_of, BeginsWith, ContiguousView, FAIL, IsContiguousState, node_format, packed_at}
use Rattle.ac_util.specs.declared.search.Anchored.{Anchored}
use Rattle.ac_automaton.proofs.Follows.{more_looks-none, more_looks-twice}
use Rattle.ac_engines.proofs.NodeLengths.{node-length}
use Rattle.ac_engines.proofs.Numbers.{step-node}
use Rattle.ac_engines.proofs.PackedSteps.{reads, target_of}

-- a step from any node leads to one
step-to-node : (p : ContiguousView) (anchored : Anchored) (u : Node) (b : ℕ)
    → IsNode p.built.kind (plain_of p.built) (step_of p.built anchored u b)
step-to-node p No None b = tt
step-to-node p Yes None b = tt
step-to-node p anchored (Some w) b = search (rules, step-node)

-- and so do the words that were read there
pub begins-at : (p : ContiguousView) (anchored : Anchored) (s : ℕ) (u : Node) (h : IsContiguousState p anchored s u)
    (words there : List ℕ) → p.words ≡ words → there ≡ drop s words
    → BeginsWith there (node_format p.built p.dense_depth u) (alphabet_len p.classes) (packed_at p h.at anchored u)
begins-at p anchored s u h words there same is = search rules

-- its number is in the words, and small
pub stands-within : (p : ContiguousView) (anchored : Anchored) (s : ℕ) (u : Node) → IsContiguousState p anchored s u → s ≤ length p.words
stands-within p No s None h = let number = h.number in omega arith
stands-within p Yes s None h = let number = h.number in omega arith
stands-within p anchored s (Some w) h = grind (arith, common_steps)

pub stands-small : (p : ContiguousView) (anchored : Anchored) (s : ℕ) (u : Node) → IsContiguousState p anchored s u → s ≤ GREATEST
stands-small p anchored s u h = search (rules, stands-within)

-- on the way to where the byte leads from a node, the walk is at a state, and has counted what it took to come there
pub record WalkGoesOnward (p : ContiguousView) (anchored : Anchored) (b : ℕ) (u : Node) (old now : Counts) (s : ℕ) : Type 0 where
  pub node : Node
  pub stands : IsContiguousState p anchored s node
  pub steps : step_of p.built anchored u b ≡ step_of p.built anchored node b
  pub taken : ℕ
  pub looks : looks_of 2 p.built anchored u b ≡ taken + looks_of 2 p.built anchored node b
  pub short : depth node + taken < 18446744073709551616
  pub counted : now ≡ more_looks taken old

-- at its end it is where the byte leads, and has counted all looks
pub record WalkHasEnded (p : ContiguousView) (anchored : Anchored) (b : ℕ) (u : Node) (old new : Counts) (next : ℕ) : Type 0 where
  pub steps : IsContiguousState p anchored next (step_of p.built anchored u b)
  pub looks : new ≡ more_looks (looks_of 2 p.built anchored u b) old

module _ (p : ContiguousView) (anchored : Anchored) (b : ℕ) (u : Node) (old : Counts) where
  -- before the first look the walk is on the way
  pub onward-start : (s : ℕ) → IsContiguousState p anchored s u → WalkGoesOnward p anchored b u old old s
  onward-start s h = record {
    node = u;
    stands = h;
    steps = refl;
    taken = 0;
    looks = omega arith;
    short = short u h;
    counted = more_looks-none old;
  }
    where
      short : (v : Node) → IsContiguousState p anchored s v → depth v + 0 < 18446744073709551616
      short None stands = omega arith
      short (Some w) stands = search (rules, node-length)

  module _ (now new : Counts) (s : ℕ) (o : WalkGoesOnward p anchored b u old now s) (more : new ≡ more_looks 1 now) where
    -- with one look more the walk has counted all
    counted-last : looks_of 2 p.built anchored o.node b ≡ 1 → new ≡ more_looks (looks_of 2 p.built anchored u b) old
    counted-last one = grind (arith, common_steps)

    -- it ends at a target
    pub ends-target : (next : ℕ) → b < 256 → next ≡ target_of p o.stands.at anchored o.node b → next ≢ FAIL
        → WalkHasEnded p anchored b u old new next
    ends-target next byte is some = grind (arith, common_steps, reads p o.stands.at o.stands.is_contiguous anchored o.node b byte, step-to-node)

    -- or at the dead state, if it is anchored
    pub ends-anchored : b < 256 → target_of p o.stands.at anchored o.node b ≡ FAIL → anchored ≡ Yes
        → WalkHasEnded p anchored b u old new 0
    ends-anchored byte fail is-yes = grind (arith, common_steps, reads p o.stands.at o.stands.is_contiguous anchored o.node b byte)

    -- else it goes on at the failure target
    pub goes-on : (failure : ℕ) → b < 256 → target_of p o.stands.at anchored o.node b ≡ FAIL → anchored ≡ No
        → failure ≡ (packed_at p o.stands.at anchored o.node).failure → WalkGoesOnward p anchored b u old new failure
    goes-on failure byte fail is-no is =
        grind (arith, common_steps, reads p o.stands.at o.stands.is_contiguous anchored o.node b byte, more_looks-twice o.taken 1 old)
