use Rattle.ac_util.proofs.Prelude.{◌≡◌, ◌∷◌, [], ◌++◌, List, ℕ, ap, ◌∙◌, Some}
use Rattle.ac_engines.specs.Prelude.{row_lists}
use Rattle.ac_engines.proofs.RowLists.{both-starts, one-start}
use Rattle.ac_engines.proofs.dfa.lists.first_lists.Goals.{in-Both, in-Unanchored+in_ok-push-in-Unanchored}
use Rattle.ac_engines.proofs.dfa.lists.first_lists.Goals as goal

-- the lists that were added are the first ones
pub returns : goal.returns
returns g c =
    let built = c.args.nfa.now.built in
    let start_kind = c.args.start_kind in
    let none = ap (λ (ls : List (List ℕ)). (ls ++ [] ∷ []) ++ [] ∷ []) c.in_ok-lists.ensures in
    let one = ap (λ (ls : List (List ℕ)). ls ++ [] ∷ []) c.in_ok-push.ensures in
    let start = c.in_ok-add_rows.ensures c.requires.state.nodes (Some []) c.requires.state.are_nodes
    (rw c.must.ensures.value c.requires.state.are_nodes.start) in
    let first : c.add_rows.new.lists ≡ [] ∷ [] ∷ row_lists start_kind built (Some []) =
    start ∙ ap (λ (ls : List (List ℕ)). ls ++ row_lists start_kind built (Some []))
    (c.in_ok-push-2.ensures ∙ one ∙ none) in
    elim c.match-start_kind.branch [
      | in-Both w ↦ w.lists-is ∙ first ∙ both-starts start_kind built w.in-Both.is
      | in-Unanchored+in_ok-push-in-Unanchored w ↦
          w.lists-is ∙ w.in_ok-push-in-Unanchored.ensures
          ∙ ap (λ (ls : List (List ℕ)). ls ++ [] ∷ []) first
          ∙ one-start start_kind built w.in-Unanchored.is
    ]
