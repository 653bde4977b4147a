use Rattle.ac_util.proofs.Prelude.{◌≡◌, ℕ, arith, subst, sym, ◌∙◌, rules, common_steps}
use Rattle.ac_automaton.specs.Prelude.{HasState, TrieView, Represents, IsRootEntry, START, No, Node, Yes}
use Rattle.ac_automaton.proofs.Follows.{Ended, represented, ends-root, ends-target, ends-anchored, ends-outer, goes-on, leads-inner}
use Rattle.ac_automaton.proofs.nfa.noncontiguous.state.follow.Goals as goal
use Rattle.ac_automaton.proofs.nfa.noncontiguous.state.follow.Goals.{in-Yes, in_default-matches, After-index-states-as_usize, After-look_in_root, After-must, In-Some-look, Then-as_usize-lt-FIRST_INNER}

pub bounds-states-as_usize : goal.bounds-states-as_usize
bounds-states-as_usize c =
    let r = c.requires.state in
    omega (arith, (c.loop-states.invariant r.0 r.1 r.2 r.3).state.there)

-- what the state that was read says, by any of the meanings
known_by : (c : After-index-states-as_usize) (g : TrieView) (u : Node) (same : g.transitions ≡ c.args.trie.transitions.now)
    (h : HasState g c.args.trie.states.now c.args.from u)
    → Represents g c.loop-states.at (c.loop-states.invariant g u same h).node c.index-states-as_usize.result
known_by c g u same h =
    let o = c.loop-states.invariant g u same h in
    represented g c.args.trie.states.now c.loop-states.at o.node c.index-states-as_usize.result o.state
    (rw c.as_usize-in-loop-states.ensures.value at c.index-states-as_usize.is)

-- what the state that was read says, by one of the meanings that there are
abbrev known_node : After-index-states-as_usize → Node
known_node c = let r = c.requires.state in (c.loop-states.invariant r.0 r.1 r.2 r.3).node

known : (c : After-index-states-as_usize)
    → Represents c.requires.state.0 c.loop-states.at (known_node c) c.index-states-as_usize.result
known c = let r = c.requires.state in known_by c r.0 r.1 r.2 r.3

pub look-requires-clause-ordered : goal.look-requires-clause-ordered
look-requires-clause-ordered c = (known (goal.at.look-requires-clause-ordered c).After-index-states-as_usize).ordered

pub look-requires-clause-listed : goal.look-requires-clause-listed
look-requires-clause-listed c =
    rw c.requires.state.2 at (known (goal.at.look-requires-clause-listed c).After-index-states-as_usize).listed

pub look-requires-clause-ascending : goal.look-requires-clause-ascending
look-requires-clause-ascending c =
    rw c.requires.state.2 at (known (goal.at.look-requires-clause-ascending c).After-index-states-as_usize).ascending

-- the walk ends at the target of a transition
at_target : (c : In-Some-look) (g : TrieView) (u : Node) → g.transitions ≡ c.args.trie.transitions.now
    → HasState g c.args.trie.states.now c.args.from u
    → Ended g c.args.anchored c.args.byte u c.args.looks.now c.look.new.looks c.in-Some-look.next
at_target c g u same h =
    let found = c.in-Some-look.ensures.target in
    (ends-target g c.args.trie.states.now c.args.byte u c.args.looks.now c.args.trie.transitions.now same
    c.loop-states.looks c.look.new.looks c.in-Some-look.ensures.counted
    c.loop-states.at c.index-states-as_usize.result (rw c.as_usize-in-loop-states.ensures.value at c.index-states-as_usize.is)
    c.args.anchored found.0 c.in-Some-look.next found.1 (c.loop-states.invariant g u same h))

pub returns-in-Some-look-clause-steps : goal.returns-in-Some-look-clause-steps
returns-in-Some-look-clause-steps c = λ g u same h. (at_target c g u same h).steps

pub returns-in-Some-look-clause-looks : goal.returns-in-Some-look-clause-looks
returns-in-Some-look-clause-looks c = λ g u same h. (at_target c g u same h).looks

pub returns-in-Some-look-clause-unanchored : goal.returns-in-Some-look-clause-unanchored
returns-in-Some-look-clause-unanchored c = λ g u same h start.
    let found = c.in-Some-look.ensures.target in
    leads-inner g c.args.trie.transitions.now same c.loop-states.at (c.loop-states.invariant g u same h).node
    c.index-states-as_usize.result
    (known_by (goal.at.returns-in-Some-look-clause-unanchored c).After-index-states-as_usize g u same h)
    c.args.byte found.0 c.in-Some-look.next found.1 start

-- or at the dead state, if it is anchored
at_dead : (c : After-must) (g : TrieView) (u : Node) → g.transitions ≡ c.args.trie.transitions.now
    → HasState g c.args.trie.states.now c.args.from u
    → Ended g c.args.anchored c.args.byte u c.args.looks.now c.look.new.looks c.must.result
at_dead c g u same h =
    let is_yes : c.args.anchored ≡ Yes = elim c.match-matches-2.branch [
      | in-Yes w ↦ w.in-Yes.is
      | in_default-matches w ↦ absurd (cc)
    ] in
    rw c.must.ensures.value
    (ends-anchored g c.args.trie.states.now c.args.byte u c.args.looks.now c.args.trie.transitions.now same
    c.loop-states.looks c.look.new.looks c.in_default-look.ensures.counted
    c.loop-states.at c.index-states-as_usize.result (rw c.as_usize-in-loop-states.ensures.value at c.index-states-as_usize.is)
    c.in_default-look.ensures.target c.args.anchored is_yes (c.loop-states.invariant g u same h))

pub returns-then-matches-clause-steps : goal.returns-then-matches-clause-steps
returns-then-matches-clause-steps c = λ g u same h. (at_dead c g u same h).steps

pub returns-then-matches-clause-looks : goal.returns-then-matches-clause-looks
returns-then-matches-clause-looks c = λ g u same h. (at_dead c g u same h).looks

-- or after one of the first four states
at_outer : (c : Then-as_usize-lt-FIRST_INNER) (g : TrieView) (u : Node) → g.transitions ≡ c.args.trie.transitions.now
    → HasState g c.args.trie.states.now c.args.from u
    → Ended g c.args.anchored c.args.byte u c.args.looks.now c.look.new.looks c.index-states-as_usize.result.fail
at_outer c g u same h =
    let is_no : c.args.anchored ≡ No = grind (arith, common_steps) in
    ends-outer g c.args.trie.states.now c.args.byte u c.args.looks.now c.args.trie.transitions.now same
    c.loop-states.looks c.look.new.looks c.in_default-look.ensures.counted
    c.loop-states.at c.index-states-as_usize.result (rw c.as_usize-in-loop-states.ensures.value at c.index-states-as_usize.is)
    c.in_default-look.ensures.target c.args.anchored is_no (omega arith) (c.loop-states.invariant g u same h)

pub returns-then-as_usize-lt-FIRST_INNER-clause-steps :
    goal.returns-then-as_usize-lt-FIRST_INNER-clause-steps
returns-then-as_usize-lt-FIRST_INNER-clause-steps c = search (rules, at_outer)

pub returns-then-as_usize-lt-FIRST_INNER-clause-looks :
    goal.returns-then-as_usize-lt-FIRST_INNER-clause-looks
returns-then-as_usize-lt-FIRST_INNER-clause-looks c = λ g u same h.
    (at_outer (goal.at.returns-then-as_usize-lt-FIRST_INNER-clause-looks c).Then-as_usize-lt-FIRST_INNER g u
    same h).looks

pub returns-then-as_usize-lt-FIRST_INNER-clause-unanchored :
    goal.returns-then-as_usize-lt-FIRST_INNER-clause-unanchored
returns-then-as_usize-lt-FIRST_INNER-clause-unanchored c = λ g u same h start.
    (known_by (goal.at.returns-then-as_usize-lt-FIRST_INNER-clause-unanchored c).After-index-states-as_usize g u
    same h).unanchored

pub loop-states-smaller : goal.loop-states-smaller
loop-states-smaller c = (known (goal.at.loop-states-smaller c).After-index-states-as_usize).back (omega arith)

-- else it goes on
pub loop-states-preserved : goal.loop-states-preserved
loop-states-preserved c = λ g u same h.
    let is_no : c.args.anchored ≡ No = grind (arith, common_steps) in
    goes-on g c.args.trie.states.now c.args.byte u c.args.looks.now c.args.trie.transitions.now same
    c.loop-states.looks c.look.new.looks c.in_default-look.ensures.counted
    c.loop-states.at c.index-states-as_usize.result (rw c.as_usize-in-loop-states.ensures.value at c.index-states-as_usize.is)
    c.in_default-look.ensures.target c.args.anchored is_no (omega arith) (c.loop-states.invariant g u same h)

-- at the start a root table says where an unanchored walk ends
module _ (c : After-look_in_root) where
  at_start : c.loop-states.at ≡ START
  at_start = sym c.as_usize.ensures.value ∙ c.if-as_usize-eq-START.true

  entry : IsRootEntry c.args.trie.transitions.now c.args.trie.states.now c.args.byte c.look_in_root.result
  entry = grind (arith, common_steps)

  is_no : c.args.anchored ≡ No
  is_no = grind (arith, common_steps)

  at_root : (g : TrieView) (u : Node) → g.transitions ≡ c.args.trie.transitions.now
      → HasState g c.args.trie.states.now c.args.from u
      → Ended g c.args.anchored c.args.byte u c.args.looks.now c.look_in_root.new.looks c.look_in_root.result
  at_root g u same h =
      ends-root g c.args.trie.states.now c.args.byte u c.args.looks.now c.args.trie.transitions.now same
      c.loop-states.looks c.look_in_root.new.looks c.look_in_root.ensures.counted c.loop-states.at c.look_in_root.result
      c.args.anchored is_no at_start entry (c.loop-states.invariant g u same h)

pub returns-in-loop-states-clause-steps : goal.returns-in-loop-states-clause-steps
returns-in-loop-states-clause-steps c = search (rules, at_root)

pub returns-in-loop-states-clause-looks : goal.returns-in-loop-states-clause-looks
returns-in-loop-states-clause-looks c = λ g u same h.
    (at_root (goal.at.returns-in-loop-states-clause-looks c).After-look_in_root g u same h).looks

pub returns-in-loop-states-clause-unanchored : goal.returns-in-loop-states-clause-unanchored
returns-in-loop-states-clause-unanchored c = λ g u same h start.
    let d = (goal.at.returns-in-loop-states-clause-unanchored c).After-look_in_root in
    let o = c.loop-states.invariant g u same h in
    (entry d).inner g o.node same
    (subst (λ (n : ℕ). HasState g c.args.trie.states.now n o.node) (at_start d) o.state) start
