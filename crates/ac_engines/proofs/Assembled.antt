-- A DFA whose rows are laid out and filled.
use Rattle.ac_util.proofs.Prelude.{◌≡◌, ◌≢◌, ◌⊎◌, inl, inr, ℕ, zero, suc, ◌+◌, ◌-◌, ◌*◌, ◌^◌, ◌<◌, ◌≤◌, Bool, true, false, List, [], ◌∷◌, length, slice_index_or, refl, ap, sym, ◌∙◌, arith, Some, None, rules, slice_get_within, cases_lt, common_steps}
use Rattle.ac_engines.specs.Prelude.{alphabet_len, AreClasses, Built, class_at, GREATEST, IsNode, Node, SetsApart, start_refusal, StartKind, state_count, stride, stride2, AreNodes, plain_of, Trie, anchored_shift, classes_by, DfaView, FilledUpTo, Filling, HasMatchesAmong, HasRow, IsDfa, IsFilled, IsLayout, MayFill, first_row_in, rows_refusal, row_input, table_rows, width}
use Rattle.ac_util.specs.declared.search.Anchored.{Anchored}
use Rattle.ac_util.proofs.ClassLists.{class_at-below, classes_of-AreClasses, classes_of-set_apart, singletons-AreClasses, singletons-set_apart}
use Rattle.ac_util.proofs.NodeCount.{inner_nodes-has}
use Rattle.ac_util.proofs.StrideLemmas.{stride-enough}
use Rattle.ac_engines.proofs.Numbered.{after-starts, place-row, place-start}
use Rattle.ac_engines.proofs.Owning.{row-room}
use Rattle.ac_engines.proofs.RowLists.{anchored_shift-rows}

-- the classes by which a DFA steps are those of all bytes
classes_by-AreClasses : (byte_classes ignores_case : Bool) (patterns : List (List ℕ))
    → AreClasses (classes_by byte_classes ignores_case patterns)
classes_by-AreClasses true ignores_case patterns = classes_of-AreClasses ignores_case patterns
classes_by-AreClasses false ignores_case patterns = singletons-AreClasses

-- and set each byte of a pattern apart
pub classes_by-set_apart : (byte_classes ignores_case : Bool) (patterns : List (List ℕ))
    → SetsApart ignores_case patterns (classes_by byte_classes ignores_case patterns)
classes_by-set_apart true ignores_case patterns = classes_of-set_apart ignores_case patterns
classes_by-set_apart false ignores_case patterns = singletons-set_apart ignores_case patterns

-- where the last row begins at a number that a state may have, there are few entries
few-entries : (rows width : ℕ) → 1 ≤ rows → (rows - 1) * width ≤ GREATEST → rows * width ≤ GREATEST + width
few-entries zero width some last = absurd (omega arith)
few-entries (suc rows) width some last = grind (arith, common_steps)

-- the classes of a DFA have room in its rows, and set each byte of a pattern apart
pub record HasClasses (built : Built) (classes : List ℕ) (exponent : ℕ) : Type 0 where
  pub are : AreClasses classes
  pub apart : SetsApart built.ignores_case built.patterns classes
  pub room : alphabet_len classes ≤ 2 ^ exponent

-- those by which a DFA steps do
has-classes : (built : Built) (byte_classes : Bool) (classes : List ℕ) (exponent : ℕ)
    → classes ≡ classes_by byte_classes built.ignores_case built.patterns → exponent ≡ stride2 classes
    → HasClasses built classes exponent
has-classes built byte_classes classes exponent e f =
    let are : AreClasses classes = rw e (classes_by-AreClasses byte_classes built.ignores_case built.patterns) in
    record {
      are = are;
      apart = rw e (classes_by-set_apart byte_classes built.ignores_case built.patterns);
      room = rw f (stride-enough classes are);
    }

-- what a build knows before it lays out rows: the classes, how long a row is, and how many entries there are
pub record IsPlanned (trie : Trie) (start_kind : StartKind) (classes : List ℕ) (exponent width len : ℕ) : Type 0 where
  pub has : HasClasses trie.built classes exponent
  pub width_is : width ≡ 2 ^ exponent
  pub len_is : len ≡ table_rows start_kind (state_count trie.built.kind (plain_of trie.built)) * 2 ^ exponent
  pub few : table_rows start_kind (state_count trie.built.kind (plain_of trie.built)) * 2 ^ exponent ≤ GREATEST + 2 ^ exponent
  pub allowed : rows_refusal start_kind classes (state_count trie.built.kind (plain_of trie.built)) ≡ None

-- what follows from the steps of a build
pub planned : (trie : Trie) (start_kind : StartKind) (byte_classes : Bool) (classes : List ℕ) (exponent width len : ℕ)
    → classes ≡ classes_by byte_classes trie.built.ignores_case trie.built.patterns → exponent ≡ stride2 classes
    → width ≡ stride classes
    → len ≡ table_rows start_kind (state_count trie.built.kind (plain_of trie.built)) * stride classes
    → rows_refusal start_kind classes (state_count trie.built.kind (plain_of trie.built)) ≡ None
    → IsPlanned trie start_kind classes exponent width len
planned trie start_kind byte_classes classes exponent width len class two wide long allowed =
    let rows = table_rows start_kind (state_count trie.built.kind (plain_of trie.built)) in
    record {
      has = has-classes trie.built byte_classes classes exponent class two;
      width_is = wide ∙ ap (λ (k : ℕ). 2 ^ k) (sym two);
      len_is = long ∙ ap (λ (k : ℕ). rows * 2 ^ k) (sym two);
      few = grind (arith, common_steps, few-entries rows (2 ^ exponent));
      allowed = allowed;
    }

module _ (trie : Trie) (start_kind : StartKind) (classes : List ℕ) (exponent : ℕ) (numbers : List ℕ)
    (nodes : List Node) (size : ℕ) where
  -- how the rows of the table are filled
  abbrev pub filling : Filling
  filling = record {
    trie = trie;
    classes = classes;
    start_kind = start_kind;
    stride = 2 ^ exponent;
    numbers = numbers;
  }

  -- what the table is built from
  abbrev pub built : Built
  built = record trie.built { start_kind = start_kind }

  -- rows that are laid out can be filled
  pub may-fill : (lists : List (List ℕ)) (first end : ℕ) → HasClasses trie.built classes exponent → AreNodes trie nodes
      → IsLayout built (2 ^ exponent) size nodes numbers lists first end → size ≤ GREATEST + 2 ^ exponent
      → MayFill filling nodes size
  may-fill lists first end has are_nodes layout small = record {
    are_nodes = are_nodes;
    below = class_at-below classes has.are;
    room = has.room;
    apart = has.apart;
    laid = layout.laid classes;
    small = small;
  }

  module _ (may : MayFill filling nodes size) where
    -- each string that leads to a node has a state with rows
    state-of : (w : List ℕ) → IsNode trie.built.kind (plain_of trie.built) (Some w)
        → (s : ℕ) × HasRow filling nodes size s w
    state-of [] node = (2, record { may = may; named = may.are_nodes.start; place = inl refl })
    state-of (x ∷ w) node =
        let (s, number) = may.are_nodes.numbered.each (x ∷ w)
        (inner_nodes-has trie.built.kind (plain_of trie.built) (x ∷ w) node (λ e. absurd cc)) in
        (s, record { may = may; named = number.named; place = inr number.inner })

    -- its first row stands after whole rows
    first-row : (s : ℕ) (w : List ℕ) → HasRow filling nodes size s w
        → (row : ℕ) × (slice_index_or numbers s 0 ≡ row * 2 ^ exponent)
    first-row s w h = search (rules, slice_get_within)

    -- the rows of an earlier state and of a later one stand apart
    ordered-apart : (s t : ℕ) (v w : List ℕ) → HasRow filling nodes size s v → HasRow filling nodes size t w → s < t
        → (first_row_in nodes numbers v + width (row_input filling nodes) ≤ first_row_in nodes numbers w)
        ⊎ (first_row_in nodes numbers w + width (row_input filling nodes) ≤ first_row_in nodes numbers v)
    ordered-apart s t v w first later order =
        grind (
          arith,
          common_steps,
          slice_get_within nodes t (Some w) later.named,
          place-row filling nodes size s v first,
          place-row filling nodes size t w later,
        )

    -- so do those of any two strings
    strings-apart : (s t : ℕ) (v w : List ℕ) → HasRow filling nodes size s v → HasRow filling nodes size t w → v ≢ w
        → (first_row_in nodes numbers v + width (row_input filling nodes) ≤ first_row_in nodes numbers w)
        ⊎ (first_row_in nodes numbers w + width (row_input filling nodes) ≤ first_row_in nodes numbers v)
    strings-apart s t v w one two other =
        elim (cases_lt s t) [
          | inl less ↦ ordered-apart s t v w one two less
          | inr no_less ↦ elim (cases_lt t s) [
            | inl less ↦ elim (ordered-apart t s w v two one less) [ inl after ↦ inr after | inr before ↦ inl before ]
            | inr no_more ↦
                let same : s ≡ t = omega arith in
                let first = one.named in let second = two.named in absurd (other (let e : v ≡ w = cc in e))
          ]
        ]

    module _ (entries : List ℕ) (lists : List (List ℕ)) (first end : ℕ)
        (filled : FilledUpTo filling nodes size (length nodes) entries)
        (layout : IsLayout built (2 ^ exponent) size nodes numbers lists first end) where
      -- the table of these rows
      abbrev pub table : DfaView
      table = record {
        built = built;
        wants_prefilter = trie.wants_prefilter;
        classes = classes;
        stride2 = exponent;
        entries = entries;
        lists = lists;
      }

      -- rows that are laid out and filled stand for the nodes
      pub are-table : IsDfa table (first_row_in nodes numbers)
      are-table = record {
        narrow = narrow;
        dead = filled.dead;
        unlisted = layout.unlisted;
        start = place-start trie nodes may.are_nodes numbers may.laid.count ∙ may.laid.start;
        inner = λ w node some.
            let (s, has) = state-of w node in
            let inner = after-starts trie nodes may.are_nodes s w some has.named in
            let within = slice_get_within nodes s (Some w) has.named in
            let count = may.laid.count in
            let place = place-row filling nodes size s w has in
            let row = may.laid.inner s inner (omega arith) in
            omega arith;
        rows = λ anchored w node. row-of w node anchored;
        apart = λ v w first second other.
            let (s, one) = state-of v first in
            let (t, two) = state-of w second in
            elim (strings-apart s t v w one two other) [
              | inl before ↦ inl (omega arith)
              | inr after ↦ inr (omega arith)
            ];
        within = λ anchored w node.
            let (s, has) = state-of w node in
            let room = row-room filling nodes size s w has anchored in
            let long = filled.long in
            omega arith;
        steps = λ anchored w b supported node byte.
            (filled-row w (state-of w node) anchored supported).steps b byte;
        past = λ anchored w k supported node from to.
            (filled-row w (state-of w node) anchored supported).past k from to;
        lists = λ anchored w supported node.
            let (s, has) = state-of w node in
            rw (place-row filling nodes size s w has) (layout.rows s w has.named has.place anchored supported);
      }
        where
          narrow : (b : ℕ) → b < 256 → class_at classes b < 2 ^ exponent
          narrow b byte = let below = may.below b byte in let room = may.room in omega arith

          filled-row : (w : List ℕ) → (s : ℕ) × HasRow filling nodes size s w → (anchored : Anchored)
              → start_refusal start_kind anchored ≡ None → IsFilled (row_input filling nodes) anchored (Some w) entries
          filled-row w state anchored supported =
              let (s, row) = state in
              filled.filled s (Some w) (slice_get_within nodes s (Some w) row.named)
              (λ other. elim row.place [ inl start ↦ absurd (omega arith) | inr inner ↦ absurd (omega arith) ])
              row.named anchored supported

          row-of : (w : List ℕ) → IsNode trie.built.kind (plain_of trie.built) (Some w) → (anchored : Anchored)
              → (row : ℕ) × (first_row_in nodes numbers w + anchored_shift start_kind anchored (2 ^ exponent) ≡ row * 2 ^ exponent)
          row-of w node anchored =
              let (s, has) = state-of w node in
              let (row, first) = first-row s w has in (
                row + anchored_shift start_kind anchored 1,
                ap (λ n. n + anchored_shift start_kind anchored (2 ^ exponent)) (place-row filling nodes size s w has ∙ first)
                    ∙ anchored_shift-rows start_kind anchored row (2 ^ exponent),
              )

      -- and the layout says which of them have matches
      pub has-matches-among : HasMatchesAmong table first end
      has-matches-among = record { early = layout.early; late = layout.late; starts = layout.starts }
