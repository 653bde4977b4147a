use Rattle.ac_util.proofs.Prelude.{◌≡◌, ◌++◌, subst, arith, IfOk}
use Rattle.ac_engines.proofs.PackedForms.{one-edge, spells-one}
use Rattle.ac_engines.proofs.PackedNodes.{edges-count}
use Rattle.ac_engines.proofs.nfa.contiguous.pack.Packer.push_only.Goals as goal

-- the state has one transition
pub edge-requires-clause-within : goal.edge-requires-clause-within
edge-requires-clause-within g c =
    let f = c.args.self.now in
    let at = c.requires.state.words in
    let ready = c.requires.state.ready in
    let one = one-edge f at.nodes ready c.args.sid at.node at.reached at.named (c.requires.one at.nodes at.node ready.may at.named) in
    let count = edges-count f at.nodes ready c.args.sid at.node at.reached at.named in
    record {
      nodes = at.nodes;
      are_nodes = ready.may.are_nodes;
      node = at.node;
      named = at.named;
      within = omega (arith, one, count);
    }

-- and its words are those of this one
pub returns : goal.returns
returns g c = λ nodes u ready named.
    subst (λ ws. IfOk c.push_one.result (λ _. c.push_one.new.words.items ≡ c.args.words.now.items ++ ws))
    (spells-one c.args.self.now nodes ready c.args.sid u c.requires.state.words.reached named
    (c.requires.one nodes u ready.may named) c.failure.result c.edge.result (c.failure.ensures nodes u ready named)
    (c.edge.ensures nodes u ready named))
    c.push_one.ensures
