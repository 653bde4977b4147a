use Rattle.ac_util.proofs.Prelude.{◌≡◌, ℕ, ◌+◌, List, [], ◌∷◌, length, length-append, ap, sym, ◌∙◌, subst, arith}
use Rattle.ac_automaton.specs.Prelude.{ChainMatch, Link, AreLinks, chains_of, GrowsBy, linked_match}
use Rattle.ac_automaton.proofs.Chains.{chain-added, IsAdded, links-added}
use Rattle.ac_automaton.proofs.automaton.commits.Chains.push.Given.{Over}
use Rattle.ac_automaton.proofs.automaton.commits.Chains.push.Goals as goal
use Rattle.ac_automaton.proofs.automaton.commits.Chains.push.Goals.{After-jump_after}

module _ (g : Over) (c : After-jump_after g) where
  -- the link that is added
  abbrev link : Link
  link = record {
    pattern = c.args.pattern;
    end = c.args.end;
    count = c.count.result + 1;
    before = c.args.before;
    jump = c.jump_after.result;
  }

  added : IsAdded (chains_of c.self.inside.links.items) link
  added =
      subst (λ (chains : List (List ChainMatch)). IsAdded chains link) (sym c.self.view_is)
      (record {
        before = c.requires.chained;
        jump = c.jump_after.ensures.back;
        count = ap (λ (n : ℕ). n + 1) c.count.ensures.value;
        few = omega (arith, c.count.ensures.few);
        front = c.jump_after.ensures.front;
      })

pub invariant_of-self-2 : goal.invariant_of-self-2
invariant_of-self-2 g c =
    subst AreLinks (sym c.in_ok-push.ensures.items)
    (links-added c.self.inside.links.items c.self.invariant _ (added g (goal.at.invariant_of-self-2 g c).After-jump_after))

pub returns : goal.returns
returns g c =
    let at = (goal.at.returns g c).After-jump_after in
    let links = c.self.inside.links.items in
    let new = c.push.new.self in
    let number : c.len.result ≡ length links + 1 =
    c.len.ensures ∙ new.ok.0 ∙ ap length c.in_ok-push.ensures.items ∙ length-append links (link g at ∷ []) in
    rw number
    (subst (λ (old : List (List ChainMatch)). GrowsBy old c.args.before (linked_match (link g at) ∷ []) (chains_of new.items)
    (length links + 1)) c.self.view_is
    (subst (λ (items : List Link). GrowsBy (chains_of links) c.args.before (linked_match (link g at) ∷ []) (chains_of items)
    (length links + 1)) (sym c.in_ok-push.ensures.items)
    (chain-added links c.self.invariant (link g at) (added g at))))
