use Rattle.ac_util.proofs.Prelude.{◌≡◌, List, sym, ◌∙◌, ap, subst, arith, Some, slice_get}
use Rattle.ac_automaton.specs.Prelude.{ChainMatch, chain_at, GrowsBy}
use Rattle.ac_automaton.proofs.Chains.{chain-same, grows-more, take-shifted}
use Rattle.ac_automaton.proofs.automaton.commits.Chains.append.Goals as goal

pub loop-index-preserved : goal.loop-index-preserved
loop-index-preserved g c =
    let other = chain_at c.args.self.now c.args.other in
    let grows = c.loop-index.invariant.grows in
    let at : slice_get other c.loop-index.index ≡ Some c.in-Some.found =
    sym (c.in-Some.ensures ∙ ap (λ (chain : List ChainMatch). slice_get chain c.loop-index.index)
    (chain-same grows.kept c.args.other c.requires.other)) in
    record {
      within = omega (arith, c.loop-index-test.true);
      grows =
          subst (λ (ms : List ChainMatch). GrowsBy c.args.self.now c.args.before ms c.push.new.self c.in_ok-chain.chain)
          (sym (take-shifted c.args.offset c.loop-index.index other c.in-Some.found at)) (grows-more grows c.in_ok-chain.ensures);
    }
