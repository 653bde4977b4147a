use Rattle.ac_util.proofs.Prelude.{◌≡◌, ℕ, ◌-◌, ◌<◌, List, [], ◌∷◌, length, length-append, refl, ap, sym, ◌∙◌, subst, arith, Some, slice_get, slice_get_past}
use Rattle.ac_automaton.specs.Prelude.{chain_at, linked_match}
use Rattle.ac_automaton.proofs.Chains.{chain-none, get-front, get-last, IsLast, link-read}
use Rattle.ac_automaton.proofs.automaton.commits.Chains.get.Given.{Over}
use Rattle.ac_automaton.proofs.automaton.commits.Chains.get.Goals as goal
use Rattle.ac_automaton.proofs.automaton.commits.Chains.get.Goals.{After-index-link}

pub loop-at-init : goal.loop-at-init
loop-at-init g c = record { back = omega arith; same = refl }

module _ (g : Over) (c : After-index-link g) where
  -- the last link of the chain that was come to
  last : IsLast c.args.self.now c.loop-at.at c.index-link.result.now
  last =
      link-read c.self.invariant c.self.view_is (λ none. let some = c.loop-at-test.true in omega arith)
      (let back = c.loop-at.invariant.back in let chained = c.requires.chained in omega arith) c.index-link.ensures

  -- its other matches are those of the chain before it
  before-match : c.args.index < c.index-link.result.now.count → (c.index-link.result.now.count - 1 ≡ c.args.index → ⊥)
      → slice_get (chain_at c.args.self.now c.loop-at.at) c.args.index
      ≡ slice_get (chain_at c.args.self.now c.index-link.result.now.before) c.args.index
  before-match within other =
      let before = chain_at c.args.self.now c.index-link.result.now.before in
      let long = last.count ∙ ap length last.grows ∙ length-append before (linked_match c.index-link.result.now ∷ []) in
      get-front before (chain_at c.args.self.now c.loop-at.at) c.args.index
      (record { rest = linked_match c.index-link.result.now ∷ []; whole = last.grows }) (omega (arith, other))

pub index-link-requires : goal.index-link-requires
index-link-requires g c =
    let many = c.self.invariant.many ∙ refl in let back = c.loop-at.invariant.back in let chained = c.requires.chained in
    let some = c.loop-at-test.true in let is = ap length c.self.view_is in let len = c.self.inside.links.ok.0 in omega arith

pub returns-then-link-index : goal.returns-then-link-index
returns-then-link-index g c =
    let l = last g (goal.at.returns-then-link-index g c).After-index-link in
    sym (c.loop-at.invariant.same
    ∙ slice_get_past (chain_at c.args.self.now c.loop-at.at) c.args.index
    (let count = l.count in let past = c.if-link-index.true in omega arith))

pub returns-then-link-index-2 : goal.returns-then-link-index-2
returns-then-link-index-2 g c =
    let l = last g (goal.at.returns-then-link-index-2 g c).After-index-link in
    sym (c.loop-at.invariant.same
    ∙ subst (λ (index : ℕ). slice_get (chain_at c.args.self.now c.loop-at.at) index ≡ Some (linked_match c.index-link.result.now))
    c.if-link-index-2.true (get-last l))

pub count-requires : goal.count-requires
count-requires g c =
    let l = last g (goal.at.count-requires g c).After-index-link in
    record { chained = (let j = l.jump in let back = c.loop-at.invariant.back in let within = c.requires.chained in omega arith) }

pub loop-at-smaller-then-count-index : goal.loop-at-smaller-then-count-index
loop-at-smaller-then-count-index g c = (last g (goal.at.loop-at-smaller-then-count-index g c).After-index-link).jump

pub loop-at-preserved-then-count-index : goal.loop-at-preserved-then-count-index
loop-at-preserved-then-count-index g c =
    let l = last g (goal.at.loop-at-preserved-then-count-index g c).After-index-link in record {
      back = (let j = l.jump in let back = c.loop-at.invariant.back in omega arith);
      same =
          c.loop-at.invariant.same
          ∙ get-front (chain_at c.args.self.now c.index-link.result.now.jump) (chain_at c.args.self.now c.loop-at.at)
          c.args.index l.skips (let count = c.count.ensures.value in let more = c.if-count-index.true in omega arith);
    }

pub loop-at-smaller : goal.loop-at-smaller
loop-at-smaller g c = (last g (goal.at.loop-at-smaller g c).After-index-link).before

pub loop-at-preserved : goal.loop-at-preserved
loop-at-preserved g c =
    let at = (goal.at.loop-at-preserved g c).After-index-link in
    record {
      back = (let b = (last g at).before in let back = c.loop-at.invariant.back in omega arith);
      same =
          c.loop-at.invariant.same
          ∙ before-match g at (let more = c.if-link-index.false in omega arith) c.if-link-index-2.false;
    }

pub returns : goal.returns
returns g c =
    sym (c.loop-at.invariant.same
    ∙ ap (λ (n : ℕ). slice_get (chain_at c.args.self.now n) c.args.index) (let none = c.loop-at-test.false in omega arith)
    ∙ ap (λ (chain : List _). slice_get chain c.args.index) (chain-none c.self.inside.links.items c.self.view_is))
