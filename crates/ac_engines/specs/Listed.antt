-- The classes and the nodes that an engine is built over; and a state lists the matches of its node, all that an anchored
-- search may want.
use Rattle.std.specs.Prelude.{ℕ, Bool, List, if◌then◌else◌, ◌≡◌, Result, slice_get, Some, ◌<◌, ◌≤◌, MatchResult, zero, suc, [], ◌∷◌, ◌++◌, flat_map, Option, None}
use Rattle.ac_util.specs.Classes.{classes_of, singletons}
use Rattle.ac_util.specs.declared.search.Anchored.{Anchored}
use Rattle.ac_automaton.specs.Util.{Node, BuildError, GREATEST, StateIdOverflow, equal_to, failure, last_start, matches, MatchKind, No, starting_by, Yes}
use Rattle.ac_automaton.specs.Prelude.{AreNodes, Trie}
use Rattle.std.proofs.Common.{refl, sym, ap, ◌∙◌}
use Rattle.std.proofs.lemmas.List.{append-nil}
use Rattle.ac_util.proofs.Found.{matches-failure}
use Rattle.ac_automaton.specs.Automata.{Lists, plain_of}
use Rattle.ac_engines.specs.Contiguous.{ContiguousView, IsContiguousState, match_list_at}
use Rattle.ac_engines.specs.Dfa.{DfaView, IsDfaState, list_at}

-- those of the patterns' bytes, or a class for each byte
abbrev pub classes_by : Bool → Bool → List (List ℕ) → List ℕ
classes_by byte_classes ignores_case patterns = if byte_classes then classes_of ignores_case patterns else singletons

-- a state of the trie stands for a node
pub record HasNode (trie : Trie) (s : ℕ) : Type 0 where
  pub nodes : List Node
  pub are_nodes : AreNodes trie nodes
  pub node : Node
  pub named : slice_get nodes s ≡ Some node

-- the size, where a number is that of a state, or else the error that this number isn't one
abbrev pub AnswersSize : ℕ → ℕ → Result ℕ BuildError → Type 0
AnswersSize size number result =
    MatchResult result (λ n. (n ≡ size) × (number ≤ GREATEST))
    (λ e. (e ≡ StateIdOverflow GREATEST number) × (GREATEST < number))

-- the matches of a node that count in an anchored search stand in front of all its matches
record EqualFirst (kind : MatchKind) (patterns : List (List ℕ)) (w : List ℕ) : Type 0 where
  pub others : List ℕ
  pub first : matches kind patterns No (Some w) ≡ equal_to kind patterns w ++ others

-- the empty string alone begins where nothing was read
only-empty : (f : List ℕ → List ℕ) (last : Option ℕ) → flat_map f (starting_by last ([] ∷ [])) ≡ f [] ++ []
only-empty f None = refl
only-empty f (Some zero) = refl
only-empty f (Some (suc c)) = refl

equal-first : (kind : MatchKind) (patterns : List (List ℕ)) (w : List ℕ) → EqualFirst kind patterns w
equal-first kind patterns [] = record {
  others = [];
  first = only-empty (equal_to kind patterns) (last_start kind patterns []);
}
equal-first kind patterns (x ∷ w) = record {
  others = matches kind patterns No (failure kind patterns (x ∷ w));
  first = matches-failure kind patterns x w;
}

-- a state of a DFA
pub dfa-lists : (t : DfaView) (anchored : Anchored) (s : ℕ) (u : Node)
    → IsDfaState t anchored s u → Lists t.built anchored u (list_at t s)
dfa-lists t No s None h = ap (list_at t) h.number ∙ h.is_dfa.unlisted
dfa-lists t No s (Some w) h = ap (list_at t) h.number ∙ h.is_dfa.lists No w h.supported h.node
dfa-lists t Yes s None h =
    let none = ap (list_at t) h.number ∙ h.is_dfa.unlisted in
    record { passed_over = []; first = none; left_out = []; front = sym (append-nil _ ∙ none) }
dfa-lists t Yes s (Some w) h =
    let own = ap (list_at t) h.number ∙ h.is_dfa.lists Yes w h.supported h.node in
    let all = equal-first t.built.kind (plain_of t.built) w in
    record {
      passed_over = [];
      first = own ∙ sym (append-nil _);
      left_out = all.others;
      front = all.first ∙ ap (λ front. front ++ all.others) (sym own);
    }

-- a state of a contiguous NFA
pub contiguous-lists : (p : ContiguousView) (anchored : Anchored) (s : ℕ) (u : Node)
    → IsContiguousState p anchored s u → Lists p.built anchored u (match_list_at p s)
contiguous-lists p No s None h = ap (match_list_at p) h.number
contiguous-lists p No s (Some w) h = ap (match_list_at p) h.number ∙ h.is_contiguous.lists No w h.node
contiguous-lists p Yes s None h =
    let none = ap (match_list_at p) h.number in
    record { passed_over = []; first = none; left_out = []; front = sym (append-nil _ ∙ none) }
contiguous-lists p Yes s (Some w) h =
    let own = ap (match_list_at p) h.number ∙ h.is_contiguous.lists Yes w h.node in
    let all = equal-first p.built.kind (plain_of p.built) w in
    record {
      passed_over = all.others;
      first = own ∙ all.first;
      left_out = [];
      front = sym own ∙ sym (append-nil _);
    }
