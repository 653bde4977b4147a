use Rattle.ac_util.proofs.Prelude.{ap, sym, subst, ◌∙◌, Some}
use Rattle.ac_engines.specs.Prelude.{class_at, AreNodes, IsOwn, Trie, Packer, PackPlan}
use Rattle.ac_engines.proofs.PackedNodes.{edge-at, own-numbered, string-of}
use Rattle.ac_engines.proofs.nfa.contiguous.pack.Packer.edge.Goals as goal

-- an own transition, as the reader says it
pub number-requires : goal.number-requires
number-requires g c =
    let f = c.args.self.now in
    let at = c.requires.state.words in
    let trie = ap (λ (p : PackPlan). p.trie) c.plan.view_is ∙ ap (λ (f : Packer). f.plan.trie) c.self.view_is in
    let (byte, next) = c.own-byte.result in
    let string = string-of f.plan.trie at.nodes c.requires.state.ready.may.are_nodes c.args.sid at.node at.reached at.named in
    let own = subst (λ (t : Trie). IsOwn t at.nodes string.string c.args.index byte next) trie
    (c.own-byte.ensures at.nodes string.string (subst (λ (t : Trie). AreNodes t at.nodes) (sym trie) c.requires.state.ready.may.are_nodes)
    (at.named ∙ ap (λ v. Some v) string.is)) in
    record { numbered = own-numbered f at.nodes c.requires.state.ready string.string c.args.index byte next own }

-- it has the class of its byte, and leads to the place of its state
pub returns : goal.returns
returns g c = λ nodes u ready named.
    let f = c.args.self.now in
    let (byte, next) = c.own-byte.result in
    let trie = ap (λ (p : PackPlan). p.trie) c.plan.view_is ∙ ap (λ (f : Packer). f.plan.trie) c.self.view_is in
    let classes = ap (λ (p : PackPlan). class_at p.classes byte) c.plan.view_is
    ∙ ap (λ (f : Packer). class_at f.plan.classes byte) c.self.view_is in
    let at = edge-at f nodes ready c.args.sid c.args.index byte next u c.requires.state.words.reached
    named (λ w there. subst (λ (t : Trie). IsOwn t nodes w c.args.index byte next) trie
    (c.own-byte.ensures nodes w (subst (λ (t : Trie). AreNodes t nodes) (sym trie) ready.may.are_nodes) there)) in
    rw (c.get.ensures.value ∙ classes, c.number.ensures) at
