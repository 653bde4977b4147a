use Rattle.ac_util.proofs.Prelude.{◌≡◌, ◌*◌, ◌+◌, ◌-◌, ◌^◌, ◌<◌, ℕ, Some, [], ap, sym, subst, ◌∙◌, arith, length, false≢true}
use Rattle.ac_engines.specs.Prelude.{No, state_count, plain_of, rows_each, table_rows}
use Rattle.std.proofs.lemmas.Nat.{pow_pos}
use Rattle.ac_automaton.proofs.Heads.{nil-from_not}
use Rattle.ac_engines.proofs.LaidOut.{four-empty, laid-out, two-empty}
use Rattle.ac_engines.proofs.LaidUpTo.{IsLaidUpTo, named-inner, none-laid, plan_of}
use Rattle.ac_engines.proofs.Laying.{one-more-laid, row-number}
use Rattle.ac_engines.proofs.RowLists.{table_rows-each, unmatched}
use Rattle.ac_engines.proofs.dfa.layout.Layout.of.Goals.{then-is_match, else-is_match}
use Rattle.ac_engines.proofs.dfa.layout.Layout.of.Goals as goal

-- the first four states have their rows
pub loop-state-init : goal.loop-state-init
loop-state-init g c = λ nodes h.
    let count = h.numbered.count in
    let states = state_count c.args.nfa.now.built.kind (plain_of c.args.nfa.now.built) in
    rw (c.in_ok-numbers.ensures, c.in_ok-first_lists.ensures, c.table_rows.ensures.value, c.states_len-states.ensures.value)
    (none-laid (plan_of c.args.nfa.now c.args.start_kind c.args.stride2 nodes) (table_rows c.args.start_kind states)
    (omega (arith, count))
    (table_rows-each c.args.start_kind states (omega arith) ∙ ap (λ n. 4 + rows_each c.args.start_kind * (n - 4)) (sym count)))

-- each state stands for a node
pub place-requires-clause-state : goal.place-requires-clause-state
place-requires-clause-state g c =
    let (nodes, h) = c.states_len-states.ensures.numbered in
    let value = c.states_len-states.ensures.value in
    let test = c.loop-state-test.true in
    let own = named-inner c.args.nfa.now nodes c.loop-state.state h c.loop-state.auto.state (omega (arith, value, test)) in
    rw c.must.ensures.value (record { nodes = nodes; are_nodes = h; node = own.node; named = own.named })

-- its rows lie in the table
pub state_id-requires : goal.state_id-requires
state_id-requires g c =
    let (nodes, h) = c.states_len-states.ensures.numbered in
    let count = h.numbered.count in
    let value = c.states_len-states.ensures.value in
    let test = c.loop-state-test.true in
    let own = named-inner c.args.nfa.now nodes c.loop-state.state h c.loop-state.auto.state (omega (arith, value, test)) in
    record {
      narrow = c.requires.narrow;
      small = row-number (plan_of c.args.nfa.now c.args.start_kind c.args.stride2 nodes) c.loop-state.state
          c.loop-state.numbers.items _ _ _ (c.loop-state.invariant nodes h) own.node c.in_ok-row.row _ _
          (omega (arith, count, value, test)) own.named
          (c.in_ok-row.ensures nodes own.node h (rw c.must.ensures.value own.named)) c.requires.small;
    }

-- one state more has its rows
pub loop-state-preserved : goal.loop-state-preserved
loop-state-preserved g c = λ nodes h.
    let count = h.numbered.count in
    let value = c.states_len-states.ensures.value in
    let test = c.loop-state-test.true in
    let own = named-inner c.args.nfa.now nodes c.loop-state.state h c.loop-state.auto.state (omega (arith, value, test)) in
    rw (c.in_ok-push.ensures.items, c.state_id.ensures)
    (one-more-laid (plan_of c.args.nfa.now c.args.start_kind c.args.stride2 nodes) c.loop-state.state
    c.loop-state.numbers.items _ _ _ (c.loop-state.invariant nodes h) own.node c.in_ok-row.row _ _
    (omega (arith, count, value, test)) own.named c.loop-state.auto.state
    (c.in_ok-row.ensures nodes own.node h (rw c.must.ensures.value own.named)))

-- the start is a state
pub is_match-requires : goal.is_match-requires
is_match-requires g c =
    let (nodes, h) = c.states_len-states.ensures.numbered in
    record { state = (No, (Some [], rw c.must-2.ensures.value (h.stands 2 (Some []) h.start))) }

-- all states have their rows
pub returns : goal.returns
returns g c = λ nodes h.
    let plan = plan_of c.args.nfa.now c.args.start_kind c.args.stride2 nodes in
    let numbers = c.loop-state.numbers.items in
    let lists = c.loop-state.rows.lists in
    let back = c.loop-state.rows.back in
    let last = table_rows c.args.start_kind (state_count c.args.nfa.now.built.kind (plain_of c.args.nfa.now.built)) in
    let count = h.numbered.count in
    let value = c.states_len-states.ensures.value in
    let test = c.loop-state-test.false in
    let within = c.loop-state.auto.state-end in
    let end : c.loop-state.state ≡ length nodes = omega (arith, count, value, test, within) in
    let laid = subst (λ (s : ℕ). IsLaidUpTo plan s numbers lists back last) end (c.loop-state.invariant nodes h) in
    let positive : 0 < 2 ^ c.args.stride2 = pow_pos c.args.stride2 in
    rw (c.number.ensures, c.number-2.ensures, c.len.ensures)
    (laid-out plan numbers lists back last laid positive c.if-is_match.first h.start (elim c.if-is_match.branch [
      | then-is_match w ↦ rw w.first-is (two-empty plan numbers lists back last laid positive)
      | else-is_match w ↦ rw w.first-is (four-empty plan numbers lists back last laid positive
          (unmatched c.args.nfa.now c.must-2.result (Some []) (rw c.must-2.ensures.value (h.stands 2 (Some []) h.start))
          (nil-from_not _ (λ some. false≢true (sym w.if-is_match.false ∙ c.is_match.ensures.1 some)))))
    ]))
