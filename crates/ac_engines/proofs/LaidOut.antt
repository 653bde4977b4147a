-- A DFA whose states all have their rows is laid out.
use Rattle.ac_util.proofs.Prelude.{◌≡◌, inl, inr, ℕ, ◌+◌, ◌*◌, ◌/◌, ◌<◌, ◌≤◌, List, [], length, slice_index_or, ap, sym, ◌∙◌, arith, Some, None, slice_get, rules, get_or_past, slice_get_within, common_steps}
use Rattle.ac_engines.specs.Prelude.{start_refusal, Yes, matches_of, anchored_shift, AreLaid, first_lists, IsLayout, row_list}
use Rattle.std.proofs.lemmas.Nat.{div_below, le-div, mul-le}
use Rattle.ac_util.specs.declared.search.Anchored.{Anchored}
use Rattle.ac_engines.proofs.Numbers.{anchored_shift-small}
use Rattle.ac_engines.proofs.LaidUpTo.{IsLaidUpTo, Plan, each, row-order}
use Rattle.ac_engines.proofs.Laying.{long}
use Rattle.ac_engines.proofs.RowLists.{anchored_shift-each, anchored_shift-rows, first_lists-at, first_lists-none, listed-row, none-left, row_lists-at}

module _ (p : Plan) where
  module _ (numbers : List ℕ) (lists : List (List ℕ)) (back last : ℕ)
      (h : IsLaidUpTo p (length p.nodes) numbers lists back last) (positive : 0 < p.stride) where
    -- all rows up to the back have lists
    full : back ≡ length lists
    full = let r = h.room in let n = none-left p.start_kind (length p.nodes) in omega (arith, r, n)

    -- the first four are among them
    four : 4 ≤ length lists
    four = long p (length p.nodes) numbers lists back last h

    -- the list that a node's row has, counted in rows
    at-number : (row : ℕ) (anchored : Anchored)
        → row_list lists p.stride (row * p.stride + anchored_shift p.start_kind anchored p.stride)
        ≡ slice_index_or lists (row + anchored_shift p.start_kind anchored 1) []
    at-number row anchored = search (rules, anchored_shift-rows, listed-row)

    -- the first four lists stay
    first-at : (k : ℕ) → k < 4 → slice_index_or lists k [] ≡ slice_index_or (first_lists p.start_kind p.built) k []
    first-at k small = grind (arith, common_steps)

    -- no state before the start has matches
    pub two-empty : (k : ℕ) → k < 2 → slice_index_or lists k [] ≡ []
    two-empty k small = grind (arith, common_steps)

    -- nor one before the inner ones, where the start has none
    pub four-empty : ((anchored : Anchored) → matches_of p.built anchored (Some []) ≡ [])
        → (k : ℕ) → k < 4 → slice_index_or lists k [] ≡ []
    four-empty none k small = first-at k small ∙ first_lists-none p.built p.start_kind none k small

    module _ (anchored : Anchored) (supported : start_refusal p.start_kind anchored ≡ None) where
      -- the row of the start lists its matches
      start-row : row_list lists p.stride (slice_index_or numbers 2 0 + anchored_shift p.start_kind anchored p.stride)
          ≡ matches_of p.built anchored (Some [])
      start-row = search (rules, anchored_shift-small, at-number, first-at, first_lists-at)

      -- so does that of an inner state
      inner-row : (s : ℕ) (w : List ℕ) → 4 ≤ s → slice_get p.nodes s ≡ Some (Some w)
          → row_list lists p.stride (slice_index_or numbers s 0 + anchored_shift p.start_kind anchored p.stride)
          ≡ matches_of p.built anchored (Some w)
      inner-row s w inner named =
          let rows = h.rows s inner (slice_get_within p.nodes s (Some w) named) in
          ap (λ n. row_list lists p.stride (n + anchored_shift p.start_kind anchored p.stride)) rows.number
          ∙ at-number rows.row anchored ∙ elim rows.place [
            | inl front ↦ front.listed (Some w) (anchored_shift p.start_kind anchored 1) named (anchored_shift-each p.start_kind anchored)
                ∙ row_lists-at p.built (Some w) p.start_kind anchored supported
            | inr side ↦
                let b = side.after in
                let f = full in
                get_or_past lists (rows.row + anchored_shift p.start_kind anchored 1) [] (omega (arith, b, f))
                ∙ sym (side.none (Some w) anchored named)
          ]

    -- a state's rows stand after those of the start
    inner-number : (s : ℕ) → 4 ≤ s → s < length p.nodes → 4 * p.stride ≤ slice_index_or numbers s 0
    inner-number s inner within = grind (arith, common_steps)

    -- and within the table
    within-table : (s : ℕ) → 4 ≤ s → s < length p.nodes
        → slice_index_or numbers s 0 + (p.stride + anchored_shift p.start_kind Yes p.stride) ≤ last * p.stride
    within-table s inner within =
        let rows = h.rows s inner within in
        let w = h.within in
        let f = full in
        let ends : rows.row + each p ≤ last = elim rows.place [
          | inl front ↦ let e = front.within in omega (arith, e, w, f)
          | inr side ↦ side.within
        ] in
        rw rows.number (row-order p rows.row last ends)

    -- all rows are laid
    all-laid : (classes : List ℕ) → AreLaid (record {
      built = record p.built { start_kind = p.start_kind };
      classes = classes;
      stride = p.stride;
      nodes = p.nodes;
      numbers = numbers;
    }) (last * p.stride)
    all-laid classes =
        let c = h.count in
        let w = h.within in
        let f = full in
        let l = four in
        record {
          count = h.count;
          positive = positive;
          dead = h.dead;
          unreached = h.unreached;
          start = h.start;
          whole = mul-le 4 p.stride last p.stride (omega (arith, w, f, l)) (omega arith);
          inner = λ s from before. inner-number s from (omega (arith, c, before));
          rows = λ s from before. let rows = h.rows s from (omega (arith, c, before)) in (rows.row, rows.number);
          within = λ s from before. within-table s from (omega (arith, c, before));
          apart = λ s t from after before. h.apart s t from after (omega (arith, c, before));
        }

    -- where all states have their rows the table is laid out
    pub laid-out : (first : ℕ) → slice_get p.nodes 2 ≡ Some (Some [])
        → ((k : ℕ) → k < first → slice_index_or lists k [] ≡ [])
        → IsLayout (record p.built { start_kind = p.start_kind }) p.stride (last * p.stride) p.nodes numbers lists
        (first * p.stride) (length lists * p.stride)
    laid-out first start empty = record {
      laid = all-laid;
      rows = λ s w named place anchored supported. elim place [
        | inl second ↦
            let none : w ≡ [] = let named_second = rw second at named in cc in
            rw (second, none) (start-row anchored supported)
        | inr inner ↦ inner-row anchored supported s w inner named
      ];
      unlisted = ap (row_list lists p.stride) (let none : 0 ≡ 0 * p.stride = omega arith in none)
          ∙ listed-row lists 0 p.stride positive ∙ two-empty 0 (omega arith);
      early = λ s before. empty (s / p.stride) (div_below s p.stride first positive before);
      late = λ s after. get_or_past lists (s / p.stride) [] (le-div (length lists) s p.stride positive after);
      starts = mul-le 4 p.stride (length lists) p.stride four (omega arith);
    }
