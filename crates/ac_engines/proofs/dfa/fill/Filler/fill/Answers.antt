use Rattle.ac_util.proofs.Prelude.{◌≡◌, ◌≢◌, ℕ, ◌+◌, [], length, ap, subst, refl, arith, ◌∙◌, rules}
use Rattle.ac_engines.specs.Prelude.{state_count, plain_of, FilledUpTo, Filling}
use Rattle.ac_engines.proofs.RowByRow.{filled-none, filled-third}
use Rattle.ac_engines.proofs.StateRows.{has-row, row-at}
use Rattle.ac_engines.proofs.dfa.fill.Filler.fill.Goals as goal

-- the start is no start of anchored searches
second : ◌≢◌ {A = ℕ} 2 3
second same = omega (arith, same)

pub fill_state-requires : goal.fill_state-requires
fill_state-requires g c = search (rules, filled-none, has-row, second)

-- the rows of the first four states are filled
pub loop-state-init : goal.loop-state-init
loop-state-init g c = λ nodes may.
    let f = c.args.self.now in
    let size = length c.args.table.now in
    filled-third f nodes size may c.fill_state.new.table
    (subst (λ n. FilledUpTo f nodes size (n + 1) c.fill_state.new.table) c.must.ensures.value
    (c.fill_state.ensures nodes [] (rw c.must.ensures.value (has-row f nodes size may 2 [] may.are_nodes.start second))
    (rw c.must.ensures.value (filled-none f nodes size may c.args.table.now refl c.requires.blank))))

pub fill_state-requires-in-loop-state : goal.fill_state-requires-in-loop-state
fill_state-requires-in-loop-state g c =
    let f = c.args.self.now in
    let size = length c.args.table.now in
    let (nodes, may) = c.requires.may in
    let up = c.loop-state.invariant nodes may in
    let states = c.states_len-state-end.ensures.value
    ∙ ap (λ (f : Filling). state_count f.trie.built.kind (plain_of f.trie.built)) c.self.view_is in
    let count = may.are_nodes.numbered.count in
    let more = c.loop-state-test.true in
    let (w, row) = row-at f nodes size may c.loop-state.state c.loop-state.auto.state (omega arith) in (
      nodes,
      w,
      rw (up.long, c.must-in-loop-state.ensures.value) row,
      rw (up.long, c.must-in-loop-state.ensures.value) up,
    )

-- those of one state more are
pub loop-state-preserved : goal.loop-state-preserved
loop-state-preserved g c = λ nodes may.
    let f = c.args.self.now in
    let size = length c.args.table.now in
    let up = c.loop-state.invariant nodes may in
    let states = c.states_len-state-end.ensures.value
    ∙ ap (λ (f : Filling). state_count f.trie.built.kind (plain_of f.trie.built)) c.self.view_is in
    let count = may.are_nodes.numbered.count in
    let more = c.loop-state-test.true in
    let (w, row) = row-at f nodes size may c.loop-state.state c.loop-state.auto.state (omega arith) in
    let next = c.fill_state-in-loop-state.ensures nodes w (rw (up.long, c.must-in-loop-state.ensures.value) row)
    (rw (up.long, c.must-in-loop-state.ensures.value) up) in
    subst (λ n. FilledUpTo f nodes n (c.loop-state.state + 1) c.fill_state-in-loop-state.new.table) up.long
    (subst (λ n. FilledUpTo f nodes (length c.loop-state.table) (n + 1) c.fill_state-in-loop-state.new.table)
    c.must-in-loop-state.ensures.value next)

-- those of all are
pub returns : goal.returns
returns g c = λ nodes may.
    let f = c.args.self.now in
    let size = length c.args.table.now in
    let states = c.states_len-state-end.ensures.value
    ∙ ap (λ (f : Filling). state_count f.trie.built.kind (plain_of f.trie.built)) c.self.view_is in
    let count = may.are_nodes.numbered.count in
    let end = c.loop-state-test.false in
    let reached = c.loop-state.auto.state-end in
    let all : c.loop-state.state ≡ length nodes = omega arith in
    subst (λ n. FilledUpTo f nodes size n c.loop-state.table) all (c.loop-state.invariant nodes may)
