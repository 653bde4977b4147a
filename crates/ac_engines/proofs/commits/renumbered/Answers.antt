use Rattle.ac_util.proofs.Prelude.{◌≡◌, ◌∙◌, sym, ap, refl, subst, List, [], ◌∷◌, ◌++◌, None, Option, Some, filter_map, length, slice_get, take, ◌+◌, append-nil, filter_map-append, slice_get_read}
use Rattle.ac_engines.specs.Prelude.{Commit, renumbered_one}
use Rattle.ac_automaton.proofs.Places.{take-next}
use Rattle.ac_engines.proofs.commits.renumbered.Goals as goal
use Rattle.ac_engines.proofs.commits.renumbered.Goals.{in-Some+in_ok-push, in_default}

-- what isn't some value is none
none-otherwise : {X : Type 0} (r : Option X) → ((x : X) → r ≡ Some x → ⊥) → r ≡ None
none-otherwise None other = refl
none-otherwise (Some x) other = absurd (other x refl)

-- one more commit has got its numbers, where it has some
pub loop-index-preserved : goal.loop-index-preserved
loop-index-preserved g c =
    let x = c.index-all-index.result in
    let commits = c.args.commits.now.commits in
    let by = renumbered_one c.args.numbers.now in
    let at : slice_get commits c.loop-index.index ≡ Some x =
    subst (λ (cs : List Commit). slice_get cs c.loop-index.index ≡ Some x) c.all-all.ensures
    (slice_get_read c.all-all.result.now (length c.all-all.result.now) c.loop-index.index x refl c.loop-index-test.true
    c.index-all-index.is) in
    let step : filter_map by (take (c.loop-index.index + 1) commits)
    ≡ filter_map by (take c.loop-index.index commits) ++ filter_map by (x ∷ []) =
    ap (λ (cs : List Commit). filter_map by cs) (take-next commits c.loop-index.index x at)
    ∙ filter_map-append by (take c.loop-index.index commits) (x ∷ []) in
    elim c.match-renumbered_one.branch [
      | in-Some+in_ok-push w ↦
          let one : by x ≡ Some w.in-Some.commit = sym c.renumbered_one.ensures ∙ w.in-Some.is in
          let single : filter_map by (x ∷ []) ≡ w.in-Some.commit ∷ [] = rw one refl in
          ap (λ (l : _). l.items) w.list-is ∙ w.in_ok-push.ensures.items
          ∙ ap (λ (cs : List Commit). cs ++ w.in-Some.commit ∷ []) c.loop-index.invariant
          ∙ ap (λ (cs : List Commit). filter_map by (take c.loop-index.index commits) ++ cs) (sym single) ∙ sym step
      | in_default w ↦
          let none : by x ≡ None = sym c.renumbered_one.ensures ∙ none-otherwise c.renumbered_one.result w.in_default.not-Some in
          let single : filter_map by (x ∷ []) ≡ [] = rw none refl in
          ap (λ (l : _). l.items) w.list-is ∙ c.loop-index.invariant
          ∙ sym (step ∙ ap (λ (cs : List Commit). filter_map by (take c.loop-index.index commits) ++ cs) single ∙ append-nil _)
    ]
