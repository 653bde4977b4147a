use Rattle.ac_util.proofs.Prelude.{◌≡◌, ◌<◌, List, length, ap, sym, ◌∙◌, subst, get_or, Contains, rules}
use Rattle.ac_automaton.specs.Prelude.{Commit, CommitsView}
use Rattle.std.proofs.lemmas.Fn.{always_returns_same}
use Rattle.ac_automaton.proofs.CommitSearch.{found-none, found-state}
use Rattle.ac_automaton.proofs.automaton.commits.Commits.of.Goals as goal

pub returns-in-Ok : goal.returns-in-Ok
returns-in-Ok g c =
    let items = ap (λ (v : CommitsView). v.commits) c.self.view_is in
    let found = c.in-Ok.ensures.position (λ (commit : Commit). commit.state) (always_returns_same _ _ _ (λ a r f called. search rules)) in (
      (
        c.in-Ok.place,
        subst (λ (commits : List Commit). c.in-Ok.place < length commits) (c.deref.ensures.value ∙ items) c.in-Ok.ensures.bound,
        subst (λ (commits : List Commit). get_or commits c.in-Ok.place c.index.result.now ≡ c.index.result.now) items
            (sym c.index.ensures),
      ),
      found-state c.deref.result.now c.as_usize-number.result c.in-Ok.place c.index.result.now found
          (rw c.deref.ensures.value c.index.ensures) ∙ c.as_usize-number.ensures.value,
    )

pub returns-in-Err : goal.returns-in-Err
returns-in-Err g c = λ commit has is.
    let items = c.deref.ensures.value ∙ ap (λ (v : CommitsView). v.commits) c.self.view_is in
    let none = c.in-Err.ensures.position (λ (commit : Commit). commit.state) (always_returns_same _ _ _ (λ a r f called. search rules)) in
    found-none c.deref.result.now c.as_usize-number.result c.in-Err.field-0 (rw c.deref.ensures.value c.self.invariant) none
    commit (subst (λ (commits : List Commit). Contains commits commit) (sym items) has)
    (is ∙ sym c.as_usize-number.ensures.value)
