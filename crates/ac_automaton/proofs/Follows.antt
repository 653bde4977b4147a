-- A walk from state to state along the failure targets: it keeps where the byte leads at last, and counts its
-- looks.
use Rattle.ac_util.proofs.Prelude.{◌≡◌, ◌≢◌, ℕ, ◌+◌, ◌<◌, ◌≤◌, List, [], get_or, refl, ap, sym, subst, ◌∙◌, arith, Some, None, Contains, slice_get, rules, get_or_read, common_steps}
use Rattle.ac_automaton.specs.Prelude.{Anchored, Counts, looks, more_looks, No, Node, plain_byte, step, Yes, ANCHORED_START, DEAD, FIRST_INNER, HasState, TrieView, transition_target, Represents, IsRootEntry, START, State, Transition, transition_bytes, transitions_of}
use Rattle.ac_util.proofs.Lists.{Contains-from_IsIn, IsIn-map}
use Rattle.ac_automaton.proofs.Places.{IsIn-place, get-same}
use Rattle.ac_automaton.proofs.Steps.{step-transition_target, step-on, looks-transition_target, looks-short, looks-on}

-- no more looks change nothing, and n and then m are n + m
pub more_looks-none : (counts : Counts) → counts ≡ more_looks 0 counts
more_looks-none counts = grind (arith, common_steps)

-- looks counted twice are counted together
pub more_looks-twice : (n m : ℕ) (counts : Counts) → more_looks m (more_looks n counts) ≡ more_looks (n + m) counts
more_looks-twice n m counts = grind (arith, common_steps)

-- no transition of a node's own leads to the empty string
transition_target-longer : (g : TrieView) (v : Node) (b : ℕ) → transition_target g v b ≢ Some []
transition_target-longer g None b e = absurd (cc)
transition_target-longer g (Some w) b e = grind (arith, common_steps)

-- the state that was read stands for the node of its number
pub represented : (g : TrieView) (states : List State) (s : ℕ) (v : Node) (t : State)
    → HasState g states s v → t ≡ get_or states s t → Represents g s v t
represented g states s v t h is =
    subst (λ (x : State). Represents g s v x) (sym (get_or_read states s t h.there is _))
    (h.meant.each s v h.there h.named)

module _ (g : TrieView) (transitions : List Transition) (same : g.transitions ≡ transitions)
    (s : ℕ) (v : Node) (t : State) (r : Represents g s v t) (b : ℕ) where
  -- a byte with a transition leads on
  pub leads-on : (k target : ℕ)
      → slice_get (transitions_of transitions t) k ≡ Some (record { byte = b; target = target })
      → transition_target g v b ≢ None
  leads-on k target at =
      let own = transitions_of g.transitions t in
      let there : slice_get own k ≡ Some (record { byte = b; target = target }) = rw same at in
      (r.branches b).0
      (Contains-from_IsIn b (transition_bytes own)
      (IsIn-map (λ (x : Transition). x.byte) (record { byte = b; target = target }) own
      (IsIn-place (record { byte = b; target = target }) own k there)))

  -- and it leads to the target
  pub leads-to : (k target : ℕ)
      → slice_get (transitions_of transitions t) k ≡ Some (record { byte = b; target = target })
      → slice_get g.nodes target ≡ Some (transition_target g v b)
  leads-to k target at = r.leads k (record { byte = b; target = target }) (rw same at)

  -- so the target is no start
  pub leads-inner : (k target : ℕ)
      → slice_get (transitions_of transitions t) k ≡ Some (record { byte = b; target = target })
      → slice_get g.nodes ANCHORED_START ≡ Some (Some []) → target ≢ ANCHORED_START
  leads-inner k target at start is = search (rules, get-same, leads-to, transition_target-longer)

  -- any other byte leads nowhere
  pub leads-nowhere : (Contains (transition_bytes (transitions_of transitions t)) b → ⊥) → transition_target g v b
      ≡ None
  leads-nowhere none = grind (arith, common_steps)

-- on the way to where the byte leads from the node, the walk is at a state, and has counted what it took to
-- come there
pub record Onward (g : TrieView) (states : List State) (anchored : Anchored) (b : ℕ) (u : Node)
    (old now : Counts) (at : ℕ)
    : Type 0 where
  pub node : Node
  pub state : HasState g states at node
  pub steps : step g.kind g.patterns anchored u (plain_byte g.ignores_case b) ≡ step g.kind g.patterns anchored node
      (plain_byte g.ignores_case b)
  pub taken : ℕ
  pub looks : looks g.kind g.patterns anchored u
      (plain_byte g.ignores_case b) ≡ taken + looks g.kind g.patterns anchored node (plain_byte g.ignores_case b)
  pub counted : now ≡ more_looks taken old

-- at its end it is where the byte leads, and has counted all looks
pub record Ended (g : TrieView) (anchored : Anchored) (b : ℕ) (u : Node) (old new : Counts)
    (next : ℕ) : Type 0 where
  pub steps : slice_get g.nodes next ≡ Some (step g.kind g.patterns anchored u (plain_byte g.ignores_case b))
  pub looks : new ≡ more_looks (looks g.kind g.patterns anchored u (plain_byte g.ignores_case b)) old

module _ (g : TrieView) (states : List State) (b : ℕ) (u : Node) (old : Counts) where
  -- before the first look the walk is on the way
  pub onward-start : (anchored : Anchored) (s : ℕ) → HasState g states s u
      → Onward g states anchored b u old old s
  onward-start anchored s h = grind (arith, common_steps)

  -- with one look more the walk has counted all
  counted-last : (anchored : Anchored) (now new : Counts) (s : ℕ) (o : Onward g states anchored b u old now s)
      → looks g.kind g.patterns anchored o.node (plain_byte g.ignores_case b) ≡ 1 → new ≡ more_looks 1 now
      → new ≡ more_looks (looks g.kind g.patterns anchored u (plain_byte g.ignores_case b)) old
  counted-last anchored now new s o one more = grind (arith, common_steps)

  -- a byte that leads on leads to one node in any search, with one look
  step-leads : (anchored : Anchored) (v : Node) → transition_target g v b ≢ None
      → step g.kind g.patterns anchored v (plain_byte g.ignores_case b) ≡ transition_target g v b
  step-leads No v on = step-transition_target g.kind g.patterns v (plain_byte g.ignores_case b) on
  step-leads Yes v on = refl

  -- where a node has a transition of its own, a step takes one look
  looks-leads : (anchored : Anchored) (v : Node) → transition_target g v b ≢ None
      → looks g.kind g.patterns anchored v (plain_byte g.ignores_case b) ≡ 1
  looks-leads No v on = looks-transition_target g.kind g.patterns v (plain_byte g.ignores_case b) on
  looks-leads Yes v on = refl

  -- at the start an unanchored walk ends with one look where a root table says
  pub ends-root : (transitions : List Transition) → g.transitions ≡ transitions → (now new : Counts)
      → new ≡ more_looks 1 now → (s next : ℕ) (anchored : Anchored) → anchored ≡ No → s ≡ START
      → IsRootEntry transitions states b next
      → Onward g states anchored b u old now s → Ended g anchored b u old new next
  ends-root transitions same now new more s next Yes is_no at_start told o = absurd (cc)
  ends-root transitions same now new more s next No is_no at_start told o =
      grind (
        arith,
        common_steps,
        looks-short g.kind g.patterns o.node (plain_byte g.ignores_case b) ((o.state.meant.each s o.node o.state.there o.state.named).outer (omega (
          arith,
          at_start,
        ))),
      )

  -- what holds after a look at the state t of the number s
  module _ (transitions : List Transition) (same : g.transitions ≡ transitions) (now new : Counts)
      (more : new ≡ more_looks 1 now)
      (s : ℕ) (t : State) (is : t ≡ get_or states s t) where
    -- at a state that has a transition by the byte the walk ends at its target
    pub ends-target : (anchored : Anchored) (k target : ℕ)
        → slice_get (transitions_of transitions t) k ≡ Some (record { byte = b; target = target })
        → Onward g states anchored b u old now s → Ended g anchored b u old new target
    ends-target anchored k target at o =
        let r = represented g states s o.node t o.state is in
        let on = leads-on g transitions same s o.node t r b k target at in record {
          steps =
              leads-to g transitions same s o.node t r b k target at
              ∙ ap (λ (v : Node). Some v) (sym (o.steps ∙ step-leads anchored o.node on));
          looks = counted-last anchored now new s o (looks-leads anchored o.node on) more;
        }

    module _ (none : Contains (transition_bytes (transitions_of transitions t)) b → ⊥) where
      -- an anchored walk ends at the dead state where there is no transition
      pub ends-anchored : (anchored : Anchored) → anchored ≡ Yes
          → Onward g states anchored b u old now s → Ended g anchored b u old new DEAD
      ends-anchored No is_yes o = absurd (cc)
      ends-anchored Yes is_yes o = grind (arith, common_steps, represented g states s o.node t o.state is)

      -- an unanchored one ends after the start and the dead state
      pub ends-outer : (anchored : Anchored) → anchored ≡ No → s < FIRST_INNER
          → Onward g states anchored b u old now s → Ended g anchored b u old new t.fail
      ends-outer Yes is_no small o = absurd (cc)
      ends-outer No is_no small o = search (rules, represented g states s o.node t o.state is)

      -- and goes on at the failure target of any other
      pub goes-on : (anchored : Anchored) → anchored ≡ No → FIRST_INNER ≤ s
          → Onward g states anchored b u old now s → Onward g states anchored b u old new t.fail
      goes-on Yes is_no large o = absurd (cc)
      goes-on No is_no large o =
          grind (
            arith,
            common_steps,
            represented g states s o.node t o.state is,
            looks-on g.kind g.patterns o.node (plain_byte g.ignores_case b) (leads-nowhere g transitions same s o.node t (represented g states s o.node t
                o.state is) b none) ((represented g states s o.node t o.state is).inner large),
            step-on g.kind g.patterns o.node (plain_byte g.ignores_case b) (leads-nowhere g transitions same s o.node t (represented g states s o.node t o.state
                is) b none) ((represented g states s o.node t o.state is).inner large),
            more_looks-twice o.taken 1 old,
          )
