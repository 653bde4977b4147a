use Rattle.ac_util.proofs.Prelude.{◌≡◌, ◌++◌, sym, subst, ◌∙◌, [], ap, List, map, Some, IfOk, slice_get, IsStrictlyIncreasing, if◌then◌else◌, nat_eq}
use Rattle.ac_engines.specs.Prelude.{alphabet_len, No, Node, Yes, AreNodes, matches_of, Trie, AreReady, Edge, format_for, MayPack, packed_of, Packer, PackPlan, places_of, packed_state, HasNode, ANCHORED_START}
use Rattle.ac_engines.proofs.PackedForms.{format_words-by_parts, state-spells}
use Rattle.ac_engines.proofs.PackedNodes.{matches-packed_at}
use Rattle.ac_engines.proofs.nfa.contiguous.pack.Packer.push_lists.Given.{Over}
use Rattle.ac_engines.proofs.nfa.contiguous.pack.Packer.push_lists.Goals.{After-alphabet_len}
use Rattle.ac_engines.proofs.nfa.contiguous.pack.Packer.push_lists.Goals as goal

module _ (g : Over) (c : After-alphabet_len g) (nodes : List Node) (u : Node) (ready : AreReady c.args.self.now nodes)
    (named : slice_get nodes c.args.sid ≡ Some u) where
  -- the transitions, the matches, the form and the number of classes
  edges : c.deref.result.now ≡ (packed_state c.args.self.now nodes c.args.sid u).edges
  edges = c.deref.ensures.value ∙ c.in_ok-list_edges.ensures nodes u ready named

  matches : c.deref-2.result.now ≡ (packed_state c.args.self.now nodes c.args.sid u).matches
  matches =
      let trie = ap (λ (p : PackPlan). p.trie) c.plan.view_is ∙ ap (λ (f : Packer). f.plan.trie) c.self.view_is in
      let f = c.args.self.now in
      subst (λ (t : Trie). c.deref-2.result.now ≡ matches_of t.built No u) trie
      (c.deref-2.ensures.value
      ∙ c.in_ok-list_matches.ensures nodes u (subst (λ (t : Trie). AreNodes t nodes) (sym trie) ready.may.are_nodes) named)
      ∙ sym (matches-packed_at (packed_of f.plan nodes f.numbers []) (places_of f.plan nodes f.numbers)
      (if nat_eq c.args.sid ANCHORED_START then Yes else No) u)

  form : c.format.result ≡ format_for c.args.self.now.plan u
  form =
      let plan = ap (λ (f : Packer). f.plan) c.self.view_is in
      subst (λ (p : PackPlan). c.format.result ≡ format_for p u) plan
      (c.format.ensures nodes u (subst (λ (p : PackPlan). MayPack p nodes) (sym plan) ready.may) named)

  classes : c.alphabet_len.result ≡ alphabet_len c.args.self.now.plan.classes
  classes =
      c.alphabet_len.ensures.value ∙ ap (λ (p : PackPlan). alphabet_len p.classes) c.plan.view_is
      ∙ ap (λ (f : Packer). alphabet_len f.plan.classes) c.self.view_is

pub list_matches-requires : goal.list_matches-requires
list_matches-requires g c =
    let at = c.requires.state.words in
    let trie = ap (λ (p : PackPlan). p.trie) c.plan.view_is ∙ ap (λ (f : Packer). f.plan.trie) c.self.view_is in
    record {
      state = subst (λ (t : Trie). HasNode t c.args.sid) (sym trie)
          (record { nodes = at.nodes; are_nodes = at.may.are_nodes; node = at.node; named = at.named });
    }

-- so what it spells can be pushed
pub push_state-requires-clause-fits : goal.push_state-requires-clause-fits
push_state-requires-clause-fits g c =
    let at = c.requires.state.words in
    let spells = state-spells c.args.self.now at.nodes c.requires.state.ready c.args.sid at.node at.reached at.named in
    rw (
      form g c at.nodes at.node c.requires.state.ready at.named,
      edges g c at.nodes at.node c.requires.state.ready at.named,
      matches g c at.nodes at.node c.requires.state.ready at.named,
      c.failure.ensures at.nodes at.node c.requires.state.ready at.named,
      c.default_target.ensures at.nodes at.node c.requires.state.ready at.named,
    ) spells.fits

pub push_state-requires-clause-ascending : goal.push_state-requires-clause-ascending
push_state-requires-clause-ascending g c =
    let at = c.requires.state.words in
    let spells = state-spells c.args.self.now at.nodes c.requires.state.ready c.args.sid at.node at.reached at.named in
    subst (λ (es : List Edge). IsStrictlyIncreasing (map (λ (e : Edge). e.class) es))
    (sym (edges g c at.nodes at.node c.requires.state.ready at.named)) spells.ascending

pub push_state-requires-clause-within : goal.push_state-requires-clause-within
push_state-requires-clause-within g c =
    let at = c.requires.state.words in
    let spells = state-spells c.args.self.now at.nodes c.requires.state.ready c.args.sid at.node at.reached at.named in
    rw (classes g c at.nodes at.node c.requires.state.ready at.named, edges g c at.nodes at.node c.requires.state.ready at.named) spells.below

pub push_state-requires-clause-few_matches : goal.push_state-requires-clause-few_matches
push_state-requires-clause-few_matches g c =
    let at = c.requires.state.words in
    let spells = state-spells c.args.self.now at.nodes c.requires.state.ready c.args.sid at.node at.reached at.named in
    rw (matches g c at.nodes at.node c.requires.state.ready at.named) spells.few_matches

pub returns : goal.returns
returns g c = λ nodes u ready named.
    subst (λ ws. IfOk c.push_state.result (λ _. c.push_state.new.words.items ≡ c.args.buffers.now.words.items ++ ws))
    (format_words-by_parts _ _ _ _ _ _ (form g c.before nodes u ready named) (classes g c.before nodes u ready named)
    (c.failure.ensures nodes u ready named) (c.default_target.ensures nodes u ready named)
    (edges g c.before nodes u ready named) (matches g c.before nodes u ready named))
    c.push_state.ensures
