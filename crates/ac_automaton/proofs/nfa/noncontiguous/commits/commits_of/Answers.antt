use Rattle.ac_util.proofs.Prelude.{◌≡◌, true, List, length, refl, sym, ◌∙◌, subst, false≢true}
use Rattle.ac_automaton.specs.Prelude.{AreCommits, automaton_of, Both, Node, built_as, CommonView, reads_on, IsMade, IsViewOf, lists_by, ListsView, made_of, trie_by, IsTrie, meaning_of}
use Rattle.ac_automaton.proofs.WholeCommits.{are-commits, trie-may}
use Rattle.ac_automaton.proofs.nfa.noncontiguous.commits.commits_of.Goals as goal
use Rattle.ac_automaton.proofs.nfa.noncontiguous.commits.commits_of.Goals.{then-reads_on+in_ok-add_all, else-reads_on}

-- what these lists mean
view-of : (common : CommonView) (lists given : ListsView) → given ≡ lists → reads_on (built_as common Both) ≡ true
    → (nodes : List Node) → IsTrie (trie_by common lists) nodes → IsViewOf given (meaning_of (trie_by common lists) nodes)
view-of common lists given same reads nodes is =
    subst (λ (these : ListsView). IsViewOf these (meaning_of (trie_by common lists) nodes)) (sym same)
    (record { leads = refl; ordered = refl; may = trie-may (trie_by common lists) reads nodes is })

pub add_all-requires-clause-view : goal.add_all-requires-clause-view
add_all-requires-clause-view g c =
    let is = c.requires.is_trie in
    let reads = sym c.if-reads_on.ensures in (
      meaning_of (trie_by c.args.common.now (lists_by c.args.lists.now)) is.0,
      view-of c.args.common.now (lists_by c.args.lists.now) _ c.in_ok-making.ensures.lists reads is.0 is.1,
    )

pub returns : goal.returns
returns g c = λ reads. elim c.if-reads_on.branch [
  | then-reads_on+in_ok-add_all w ↦
      let trie = trie_by c.args.common.now (lists_by c.args.lists.now) in
      let made : (nodes : List Node) → IsTrie trie nodes → IsMade (meaning_of trie nodes) (made_of c.if-reads_on.making) (length nodes) =
      λ nodes is. rw w.making-is (w.in_ok-add_all.ensures (meaning_of trie nodes)
      (view-of c.args.common.now (lists_by c.args.lists.now) _ c.in_ok-making.ensures.lists reads nodes is)) in
      subst (AreCommits (automaton_of trie)) (sym c.in_ok-new.ensures.ok) (rw c.new-2.ensures.chains (are-commits trie reads (made_of c.if-reads_on.making) made c.new-2.result.commits c.new-2.ensures.same))
  | else-reads_on w ↦ absurd (false≢true (w.if-reads_on.ensures ∙ reads))
]
