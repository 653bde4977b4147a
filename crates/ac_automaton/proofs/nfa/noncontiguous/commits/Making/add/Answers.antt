use Rattle.ac_util.proofs.Prelude.{◌≡◌, ℕ, ◌+◌, true, false, is_some, MatchOption, Option, None, Some, List, [], ◌∷◌, ◌++◌, length, length-append, slice_set, refl, ap, sym, ◌∙◌, subst, arith, slice_get_within}
use Rattle.ac_automaton.specs.Prelude.{Commit, Making, Transition, HasAdded, IsChild, HasString, LeadsToChild, Made, made_of, IsNumbered}
use Rattle.ac_automaton.proofs.CommitSteps.{state-in}
use Rattle.ac_automaton.proofs.CommitAdding.{added-commit, added-none}
use Rattle.ac_automaton.proofs.nfa.noncontiguous.commits.Making.add.Given.{Over}
use Rattle.ac_automaton.proofs.nfa.noncontiguous.commits.Making.add.Goals as goal
use Rattle.ac_automaton.proofs.nfa.noncontiguous.commits.Making.add.Goals.{Else-is_some}

-- a child with its string
abbrev child-at : {Z : Type 0} {making : Making Z} {parent : Commit} {next : Transition} (child : IsChild making parent next)
    (u : List ℕ) → IsNumbered child.at.view.nodes next.target u → HasString making next.target
child-at child u named = state-in child.at refl child.at.made u named

pub held-requires : goal.held-requires
held-requires g c = record { at = child-at c.requires.child _ c.requires.child.longer_named }

-- what holds of an option where it is some, and where it is none
some : (P : Type 0) (Q : Commit → Type 0) (r : Option Commit) → is_some r ≡ true → MatchOption r P Q → (commit : Commit) × Q commit
some P Q None is held = absurd (cc)
some P Q (Some commit) is held = (commit, held)

none : (P : Type 0) (Q : Commit → Type 0) (r : Option Commit) → is_some r ≡ false → MatchOption r P Q → P
none P Q None is held = held
none P Q (Some commit) is held = absurd (cc)

pub returns-then-is_some-clause-adds : goal.returns-then-is_some-clause-adds
returns-then-is_some-clause-adds g c = λ child.
    added-none child (λ u named.
    (some _ _ c.held.result (sym c.is_some.ensures ∙ c.if-is_some.true) (c.held.ensures (child-at child u named))).1.none)

-- a child without a match
abbrev leads : (g : Over) (c : Else-is_some g) → IsChild c.args.self.now c.args.parent.now c.args.next
    → LeadsToChild c.args.self.now c.args.parent.now c.args.next
leads g c child = record {
  child = child;
  matchless = (none _ _ c.held.result (sym c.is_some.ensures ∙ c.if-is_some.false)
      (c.held.ensures (child-at child _ child.longer_named))).matchless;
}

pub lead_on-requires : goal.lead_on-requires
lead_on-requires g c = record { leads = leads g (goal.at.lead_on-requires g c).Else-is_some c.requires.child }

pub index_mut-requires : goal.index_mut-requires
index_mut-requires g c =
    let child = c.requires.child in
    let led = c.in_ok-commit.ensures.leads (leads g (goal.at.index_mut-requires g c).Else-is_some child) in
    let within = slice_get_within child.at.view.nodes c.args.next.target _ child.longer_named in
    let same = ap (λ (making : Making _). length making.index.items) c.in_ok-commit.ensures.same in
    let at = c.as_usize-at.ensures.value ∙ led.state in
    let long = child.at.made.long in
    let len = c.lead_on.new.self.index.ok.0 in
    omega (arith, same, at)

pub returns-clause-adds : goal.returns-clause-adds
returns-clause-adds g c = λ child.
    let led = c.in_ok-commit.ensures.leads (leads g (goal.at.returns-clause-adds g c).Else-is_some child) in
    let old = made_of c.args.self.now in
    let same = c.in_ok-commit.ensures.same in
    let at = c.as_usize-at.ensures.value ∙ led.state in
    let commits = c.in_ok-push.ensures.items
    ∙ ap (λ (making : Making _). making.commits.items ++ c.in_ok-commit.commit ∷ []) same in
    let place : c.len.result ≡ length old.commits + 1 =
    c.len.ensures ∙ c.push.new.self.ok.0 ∙ ap length commits ∙ length-append old.commits (c.in_ok-commit.commit ∷ []) in
    let index = ap (λ (making : Making _). making.index.items) same in
    let new : record {
      index = slice_set old.index c.args.next.target (length old.commits + 1);
      commits = old.commits ++ c.in_ok-commit.commit ∷ [];
      chains = c.lead_on.new.self.chains;
    } ≡ record {
      index = slice_set c.lead_on.new.self.index.items c.as_usize-at.result c.len.result;
      commits = c.push.new.self.items;
      chains = c.lead_on.new.self.chains;
    } = cc in
    subst (λ (now : Made). HasAdded child.at.view old now c.args.next) new
    (added-commit child (record { chains = led.chains; state = led.state; has = led.has }))
