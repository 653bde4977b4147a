use Rattle.ac_util.proofs.Prelude.{ap, sym, subst, arith, ◌∙◌, take_all, length}
use Rattle.ac_engines.specs.Prelude.{AreNodes, HasOwn, transition_bytes_of, Trie, Packer, PackPlan, packed_state}
use Rattle.ac_automaton.proofs.Places.{take-next}
use Rattle.ac_engines.proofs.PackedNodes.{edges-count}
use Rattle.ac_engines.proofs.nfa.contiguous.pack.Packer.list_edges.Goals as goal

pub edge-requires-clause-within : goal.edge-requires-clause-within
edge-requires-clause-within g c =
    let trie = ap (λ (p : PackPlan). p.trie) c.plan.view_is ∙ ap (λ (f : Packer). f.plan.trie) c.self.view_is in
    subst (λ (t : Trie). HasOwn t c.args.sid c.loop-index.index) trie
    (c.own_len-index-end.ensures.places c.loop-index.index (omega (arith, c.loop-index-test.true, c.loop-index.auto.index-end)))

-- one more is listed
pub loop-index-preserved : goal.loop-index-preserved
loop-index-preserved g c = λ nodes u ready named.
    c.in_ok-push.ensures.items
    ∙ rw (c.loop-index.invariant nodes u ready named)
    (sym (take-next (packed_state c.args.self.now nodes c.args.sid u).edges c.loop-index.index c.edge.result
    (c.edge.ensures nodes u ready named)))

-- all are listed
pub returns : goal.returns
returns g c = λ nodes u ready named.
    let f = c.args.self.now in
    let trie = ap (λ (p : PackPlan). p.trie) c.plan.view_is ∙ ap (λ (f : Packer). f.plan.trie) c.self.view_is in
    let len = c.own_len-index-end.ensures.value nodes u (subst (λ (t : Trie). AreNodes t nodes) (sym trie) ready.may.are_nodes) named
    ∙ ap (λ (t : Trie). length (transition_bytes_of t.built u)) trie in
    let count = edges-count f nodes ready c.args.sid u c.requires.state.words.reached named in
    let end = c.loop-index-test.false in
    c.loop-index.invariant nodes u ready named
    ∙ take_all c.loop-index.index (packed_state f nodes c.args.sid u).edges (omega arith)
