use Rattle.ac_util.proofs.Prelude.{◌≡◌, ap, sym, subst, arith, ◌∙◌, ◌∷◌, Some, slice_get}
use Rattle.ac_engines.specs.Prelude.{failure, AreNodes, plain_of, Trie, Packer, PackPlan}
use Rattle.ac_engines.proofs.PackedNodes.{failure-packed_state}
use Rattle.ac_engines.proofs.nfa.contiguous.pack.Packer.failure.Goals as goal

-- after them it is the place of the target
pub returns : goal.returns
returns g c = λ nodes u ready named.
    let trie = ap (λ (p : PackPlan). p.trie) c.plan.view_is ∙ ap (λ (f : Packer). f.plan.trie) c.self.view_is in
    let at = c.as_usize.ensures.value in
    let inner = c.if-as_usize-lt-FIRST_INNER.false in
    c.number.ensures
    ∙ failure-packed_state c.args.self.now nodes ready c.args.sid c.fail.result u (omega arith) named c.fail.ensures.start
    (λ x w there. subst (λ (t : Trie). slice_get nodes c.fail.result ≡ Some (failure t.built.kind (plain_of t.built) (x ∷ w)))
    trie (c.fail.ensures.target nodes x w (subst (λ (t : Trie). AreNodes t nodes) (sym trie) ready.may.are_nodes) there))
