use Rattle.ac_util.proofs.Prelude.{◌+◌, ℕ, ◌<◌, sym, subst, rules, slice_index}
use Rattle.ac_automaton.specs.Prelude.{HasState, IsRootEntry}
use Rattle.ac_automaton.proofs.Roots.{entries-push}
use Rattle.ac_automaton.proofs.nfa.noncontiguous.root.root_of.Goals as goal

pub loop-byte-preserved : goal.loop-byte-preserved
loop-byte-preserved g c =
    let transitions = c.args.trie.transitions.now in
    let states = c.args.trie.states.now in
    let at = sym c.must-start.ensures.value in
    let says : IsRootEntry transitions states c.loop-byte.byte c.follow-next.result = record {
      leads = λ m v same h. c.follow-next.ensures.steps m v same (subst (λ (s : ℕ). HasState m states s v) at h);
      inner = λ m v same h start.
          c.follow-next.ensures.unanchored m v same (subst (λ (s : ℕ). HasState m states s v) at h) start;
    } in
    record {
      whole = search rules;
      entries = subst (λ root. (b : ℕ) → b < c.loop-byte.byte + 1
          → IsRootEntry transitions states b (slice_index root b)) (sym c.in_ok-push.ensures.items)
          (entries-push transitions states c.loop-byte.root.items c.loop-byte.byte c.follow-next.result
          c.loop-byte.invariant.whole c.loop-byte.invariant.entries says);
    }
