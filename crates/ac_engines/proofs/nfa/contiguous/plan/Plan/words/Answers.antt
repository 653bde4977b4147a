use Rattle.ac_util.proofs.Prelude.{length, ap, sym, subst, ◌∙◌, arith}
use Rattle.ac_engines.specs.Prelude.{alphabet_len, AreNodes, transition_bytes_of, Trie, PackPlan, words_of_state}
use Rattle.ac_engines.proofs.MatchCounts.{transition_bytes_of-few}
use Rattle.ac_engines.proofs.WordCounts.{node_words-most}
use Rattle.ac_engines.proofs.nfa.contiguous.plan.Plan.words.Goals as goal

-- there are no more own transitions than bytes
pub state_words-requires-clause-transitions : goal.state_words-requires-clause-transitions
state_words-requires-clause-transitions g c =
    let has = c.requires.state in
    let trie = ap (λ (p : PackPlan). p.trie) c.self.view_is in
    let are = subst (λ (t : Trie). AreNodes t has.nodes) (sym trie) has.may.are_nodes in
    omega (arith, c.own_len.ensures.value has.nodes has.node are has.named, transition_bytes_of-few c.self.inside.nfa.now.built has.node)

-- what its words are counted from is what the node has
pub returns-clause-value : goal.returns-clause-value
returns-clause-value g c nodes u may named =
    let trie = ap (λ (p : PackPlan). p.trie) c.self.view_is in
    let are = subst (λ (t : Trie). AreNodes t nodes) (sym trie) may.are_nodes in
    let format = c.format.ensures nodes u may named in
    let classes = c.alphabet_len.ensures.value ∙ ap (λ (p : PackPlan). alphabet_len p.classes) c.self.view_is in
    let own = c.own_len.ensures.value nodes u are named
    ∙ ap (λ (t : Trie). length (transition_bytes_of t.built u)) trie in
    let matches = c.match_len-matches.ensures.value nodes u may named in
    c.state_words.ensures ∙ (λ i. words_of_state (format i) (classes i) (own i) (matches i))

-- beside its matches a state takes few words
pub returns-clause-small : goal.returns-clause-small
returns-clause-small g c =
    let has = c.requires.state in
    let q = c.args.self.now in
    let words = returns-clause-value g c has.nodes has.node has.may has.named in
    let matches = c.match_len-matches.ensures.value has.nodes has.node has.may has.named in
    let classes = c.alphabet_len.ensures.value ∙ ap (λ (p : PackPlan). alphabet_len p.classes) c.self.view_is in
    let most = node_words-most q.trie.built q.dense_depth (alphabet_len q.classes) has.node
    (omega (arith, classes, c.alphabet_len.ensures.few)) in
    omega (arith, words, matches, most, c.match_len-matches.ensures.few)
