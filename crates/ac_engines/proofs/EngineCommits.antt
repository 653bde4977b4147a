-- The commits of the engines that are built from a trie.
use Rattle.ac_util.proofs.Prelude.{◌≡◌, ℕ, List, ap}
use Rattle.ac_engines.specs.Prelude.{Node, CommitsView, HasCommits, AreNodes, automaton_of, AreRenumbered, contiguous_automaton, dfa_automaton, AreReady, ContiguousView, DfaView, Filling, first_row_in, IsContiguous, IsDfa, MayFill, Packer, places_of}
use Rattle.ac_engines.proofs.DfaNumbering.{dfa-numbering}
use Rattle.ac_engines.proofs.PackedNumbering.{packed-numbering}
use Rattle.ac_engines.proofs.Renumbered.{commits-moved}

-- rows that stand for the nodes, whatever table tells these
pub record StandsFilled (f : Filling) (size : ℕ) (t : DfaView) (nodes : List Node) : Type 0 where
  pub may : MayFill f nodes size
  pub is : IsDfa t (first_row_in nodes f.numbers)

-- the commits of a DFA are those of the trie by the numbers of its first rows
pub dfa-commits : (f : Filling) (size : ℕ) (t : DfaView) → t.built ≡ record f.trie.built { start_kind = f.start_kind }
    → (nodes : List Node) → AreNodes f.trie nodes
    → ((nodes : List Node) → AreNodes f.trie nodes → StandsFilled f size t nodes)
    → (old new : CommitsView) → AreRenumbered f.numbers old new → HasCommits (automaton_of f.trie) old
    → HasCommits (dfa_automaton t) new
dfa-commits f size t built nodes are all old new renumbered has =
    commits-moved f.trie f.numbers (dfa_automaton t) (ap (λ (b : _). b.kind) built) (ap (λ (b : _). b.patterns) built)
    (ap (λ (b : _). b.ignores_case) built) nodes are (all nodes are).may.laid.count
    (λ nodes are. let h = all nodes are in dfa-numbering f nodes size h.may t built h.is) old new renumbered has

-- words that stand for the nodes, whatever table tells these
pub record StandsPacked (f : Packer) (p : ContiguousView) (nodes : List Node) : Type 0 where
  pub ready : AreReady f nodes
  pub is : IsContiguous p (places_of f.plan nodes f.numbers)

-- those of a contiguous NFA are those of the trie by its places
pub contiguous-commits : (f : Packer) (p : ContiguousView) → p.built ≡ f.plan.trie.built
    → (nodes : List Node) → AreNodes f.plan.trie nodes
    → ((nodes : List Node) → AreNodes f.plan.trie nodes → StandsPacked f p nodes)
    → (old new : CommitsView) → AreRenumbered f.numbers old new → HasCommits (automaton_of f.plan.trie) old
    → HasCommits (contiguous_automaton p) new
contiguous-commits f p built nodes are all old new renumbered has =
    commits-moved f.plan.trie f.numbers (contiguous_automaton p) (ap (λ (b : _). b.kind) built)
    (ap (λ (b : _). b.patterns) built) (ap (λ (b : _). b.ignores_case) built) nodes are (all nodes are).ready.places.count
    (λ nodes are. let h = all nodes are in packed-numbering f nodes h.ready p built h.is) old new renumbered has
