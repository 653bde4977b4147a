use Rattle.ac_util.proofs.Prelude.{◌≡◌, ◌≤◌, length, refl, ap, sym, subst, ◌∙◌, arith}
use Rattle.ac_engines.specs.Prelude.{depth, AreNodes, transition_bytes_of, Trie, format_of, node_format, PackPlan}
use Rattle.ac_engines.proofs.InnerStates.{inner-long}
use Rattle.ac_engines.proofs.nfa.contiguous.plan.Plan.format.Goals as goal

-- a state after the starts stands for a string that isn't empty
pub returns : goal.returns
returns g c nodes u may named =
    let q = c.args.self.now in
    let trie = ap (λ (p : PackPlan). p.trie) c.self.view_is in
    let dense = ap (λ (p : PackPlan). p.dense_depth) c.self.view_is in
    let are = subst (λ (t : Trie). AreNodes t nodes) (sym trie) may.are_nodes in
    let inner : 4 ≤ c.args.sid = omega (arith, c.if-as_usize-lt-FIRST_INNER.false, c.as_usize.ensures.value) in
    let long = inner-long q.trie nodes c.args.sid u may.are_nodes inner named in
    let deep = c.depth.ensures nodes u are named in
    let own = c.own_len.ensures.value nodes u are named
    ∙ ap (λ (t : Trie). length (transition_bytes_of t.built u)) trie in
    let matches = c.requires.matches nodes u may named in
    let inner_is : format_of (depth u) q.dense_depth (length (transition_bytes_of q.trie.built u)) _
    ≡ node_format q.trie.built q.dense_depth u = rw long.node refl in
    c.format_of.ensures ∙ (λ i. format_of (deep i) (dense i) (own i) (matches i)) ∙ inner_is
