-- Where the states of a contiguous NFA's strings stand is told by its words.
use Rattle.ac_util.proofs.Prelude.{◌≡◌, ◌≢◌, ◌⊎◌, ℕ, ◌-◌, ◌/◌, ◌%◌, ◌<◌, List, [], ◌∷◌, ◌++◌, drop, take, length, inl, inr, refl, ap, sym, ◌∙◌, subst, arith, Some, slice_index_or, Bor, cases_eq, common_steps}
use Rattle.ac_engines.specs.Prelude.{alphabet_len, class_at, IsNode, No, Node, plain_byte, AreNodes, plain_of, Trie, AreNamed, BeginsWith, class_of_place, ContiguousView, Dense, Edge, edges_from, Format, IsContiguous, named, node_format, number_at, One, PackedState, packed_at, Places, Sparse, target_by}
use Rattle.std.specs.Int.{div_ceil}
use Rattle.ac_util.proofs.ClassLists.{class_at-below}
use Rattle.ac_engines.proofs.NodeBytes.{by-last, front-node, last-plain, last-small}
use Rattle.ac_engines.proofs.PackedSteps.{are-named, target_of, target-longer}
use Rattle.ac_engines.proofs.PackedWords.{form-sparse, leads-at, leads-one, LeadsOne}
use Rattle.ac_engines.proofs.Transitions.{sparse-transitions}

-- two targets of one name are the same
named-same : (first second : ℕ) → named first ≡ named second → first ≡ second
named-same first second same = grind (arith, common_steps)

module _ (words : List ℕ) (classes : ℕ) where
  -- what the words of a sparse state are split into: how many transitions it has, their classes and their targets
  abbrev count : ℕ
  count = slice_index_or words 0 0 % 256

  abbrev front : Bor (List ℕ)
  front = record { ref_ptr = (0, 0); now = take (div_ceil count 4) (take (length words - 2) (drop 2 words)) }

  abbrev targets : List ℕ
  targets = take count (drop (div_ceil count 4) (take (length words - 2) (drop 2 words)))

  -- they tell its transitions
  sparse-edges : (s : PackedState) → BeginsWith words Sparse classes s
      → edges_from (class_of_place (Some front)) 0 targets ≡ s.edges
  sparse-edges s h =
      let form = form-sparse words classes s h in
      sparse-transitions words classes s targets Sparse count (div_ceil count 4) front h refl
      (λ e. absurd (omega (arith, e, form.counts, form.few))) (λ e. absurd (omega (arith, e, form.counts, form.few))) refl refl refl

module _ (words : List ℕ) (classes : ℕ) (s t : PackedState) (class : ℕ) (low : class < classes)
    (s-named : AreNamed s.edges) (t-named : AreNamed t.edges) where
  -- two states that the words spell in one form have the same transitions, if they are sparse
  same-sparse : BeginsWith words Sparse classes s → BeginsWith words Sparse classes t → s.edges ≡ t.edges
  same-sparse h k = sym (sparse-edges words classes s h) ∙ sparse-edges words classes t k

  -- and lead to one target by a class
  pub same-target : (format : Format) → BeginsWith words format classes s → BeginsWith words format classes t
      → target_by s.default_target s.edges class ≡ target_by t.default_target t.edges class
  same-target Dense h k =
      sym (leads-at words classes s class h low).target ∙ (leads-at words classes t class k low).target
  same-target One h k = by (cases_eq (slice_index_or words 0 0 / 256 % 256) class)
    where
      one : LeadsOne words classes s class
      one = leads-one words classes s class h

      two : LeadsOne words classes t class
      two = leads-one words classes t class k

      by : (slice_index_or words 0 0 / 256 % 256 ≡ class) ⊎ (slice_index_or words 0 0 / 256 % 256 ≢ class)
          → target_by s.default_target s.edges class ≡ target_by t.default_target t.edges class
      by (inl hit) = named-same _ _ (sym (one.hit hit s-named) ∙ two.hit hit t-named)
      by (inr miss) = named-same _ _ (sym (one.fallback miss) ∙ two.fallback miss)
  same-target Sparse h k =
      let (few, nowhere) = h.fits in
      let (few', nowhere') = k.fits in
      ap (λ (n : ℕ). target_by n s.edges class) (nowhere ∙ sym nowhere')
      ∙ ap (λ (es : List Edge). target_by t.default_target es class) (same-sparse h k)

module _ (trie : Trie) (nodes : List Node) (are : AreNodes trie nodes) (p : ContiguousView)
    (kind : p.built.kind ≡ trie.built.kind) (plains : plain_of p.built ≡ plain_of trie.built)
    (ignores_case : p.built.ignores_case ≡ trie.built.ignores_case) where
  -- a string that leads to a node of the packed states does in the trie
  same-node : (w : List ℕ) → IsNode p.built.kind (plain_of p.built) (Some w)
      → IsNode trie.built.kind (plain_of trie.built) (Some w)
  same-node w node = rw (sym kind, sym plains) node

  -- the number of a string in unanchored searches is its place
  pub place-number : (at : Places) (w : List ℕ) → number_at at No (Some w) ≡ at.place w
  place-number at [] = refl
  place-number at (x ∷ w) = refl

  -- a string's state leads to that of the longer one by its last byte
  longer-place : (at : Places) → IsContiguous p at → (v : List ℕ) (b : ℕ)
      → IsNode p.built.kind (plain_of p.built) (Some (v ++ b ∷ []))
      → target_of p at No (Some v) b ≡ at.place (v ++ b ∷ [])
  longer-place at is v b node =
      let there = same-node (v ++ b ∷ []) node in
      let plain : plain_byte p.built.ignores_case b ≡ b =
      ap (λ (ignores : _). plain_byte ignores b) ignores_case ∙ last-plain trie nodes are v b there in
      target-longer p at is No v b (last-small trie nodes are v b there)
      (rw plain node)
      ∙ ap (λ (c : ℕ). at.place (v ++ c ∷ [])) plain

  -- so all say the same of where strings stand
  pub same-place : (first second : Places) → IsContiguous p first → IsContiguous p second
      → (w : List ℕ) → IsNode p.built.kind (plain_of p.built) (Some w) → first.place w ≡ second.place w
  same-place first second one two w node =
      by-last (λ w. IsNode p.built.kind (plain_of p.built) (Some w) → first.place w ≡ second.place w)
      (λ node. one.start ∙ sym two.start)
      (λ v b same node.
      let there = same-node (v ++ b ∷ []) node in
      let short : IsNode p.built.kind (plain_of p.built) (Some v) = rw (kind, plains) (front-node trie nodes are v b there) in
      let number : number_at first No (Some v) ≡ number_at second No (Some v) =
      place-number first v ∙ same short ∙ sym (place-number second v) in
      sym (longer-place first one v b node)
      ∙ same-target (drop (number_at second No (Some v)) p.words) (alphabet_len p.classes) (packed_at p first No (Some v))
      (packed_at p second No (Some v)) (class_at p.classes b)
      (class_at-below p.classes one.classes b (last-small trie nodes are v b there))
      (are-named p first one No (Some v)) (are-named p second two No (Some v)) (node_format p.built p.dense_depth (Some v))
      (subst (λ (n : ℕ). BeginsWith (drop n p.words) (node_format p.built p.dense_depth (Some v)) (alphabet_len p.classes)
      (packed_at p first No (Some v))) number (one.states No (Some v) short))
      (two.states No (Some v) short)
      ∙ longer-place second two v b node)
      w node
