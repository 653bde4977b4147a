-- Laying out the rows of the states of a trie, one after another.
use Rattle.ac_util.proofs.Prelude.{◌≡◌, inl, inr, ℕ, ◌+◌, ◌-◌, ◌*◌, ◌<◌, ◌≤◌, List, [], ◌∷◌, ◌++◌, length, slice_index_or, ap, ◌∙◌, arith, Some, length-append, slice_get, rules, cases_eq, append_assoc, get_or-append-add, common_steps}
use Rattle.ac_engines.specs.Prelude.{GREATEST, Node, HasPlaced, IsAtBack, IsInFront, first_lists}
use Rattle.ac_engines.proofs.RowLists.{each-room}
use Rattle.ac_engines.proofs.LaidUpTo.{Apart, HasRows, IsLaidUpTo, Plan, each, kept, row-order}

module _ (p : Plan) where
  -- one state more has its rows, between front and back
  record LaysOn (s row : ℕ) (lists : List (List ℕ)) (back : ℕ) (new_lists : List (List ℕ)) (new_back last : ℕ) : Type 0 where
    added : List (List ℕ)
    is : new_lists ≡ lists ++ added
    nearer : new_back ≤ back
    after : length lists ≤ row
    before : row + each p ≤ back
    room : new_back ≡ length new_lists + each p * (length p.nodes - (s + 1))
    own : HasRows p new_lists new_back last s (row * p.stride)

  module _ (s : ℕ) (numbers : List ℕ) (lists : List (List ℕ)) (back last : ℕ) (h : IsLaidUpTo p s numbers lists back last) where
    -- the first four rows have lists
    pub long : 4 ≤ length lists
    long = grind (arith, common_steps)

    module _ (u : Node) (row : ℕ) (new_lists : List (List ℕ)) (new_back : ℕ) (left : s < length p.nodes)
        (named : slice_get p.nodes s ≡ Some u) where
      -- in front
      in-front : IsInFront p.start_kind p.built u row lists back new_lists new_back
          → LaysOn s row lists back new_lists new_back last
      in-front front = search (rules, each-room, get_or-append-add, length-append, long)

      -- or at the back
      at-back : IsAtBack p.start_kind p.built u row lists back new_lists new_back
          → LaysOn s row lists back new_lists new_back last
      at-back side = grind (arith, common_steps)

      -- it has its rows wherever it was given them
      goes-on : HasPlaced p.start_kind p.built u row lists back new_lists new_back
          → LaysOn s row lists back new_lists new_back last
      goes-on placed = elim placed [ inl front ↦ in-front front | inr side ↦ at-back side ]

      -- its rows end within the table, so its number is small
      pub row-number : HasPlaced p.start_kind p.built u row lists back new_lists new_back
          → (last - 1) * p.stride ≤ GREATEST → row * p.stride ≤ GREATEST
      row-number placed small = grind (arith, common_steps)

      -- and stand apart from those of the states before
      apart-from : (t n : ℕ) → LaysOn s row lists back new_lists new_back last → HasRows p lists back last t n
          → Apart p n (row * p.stride)
      apart-from t n on rows = elim rows.place [
        | inl front ↦
            let w = front.within in
            let b = on.after in
            rw rows.number (inl (row-order p rows.row row (omega (arith, w, b))))
        | inr side ↦
            let b = side.after in
            let before = on.before in
            rw rows.number (inr (row-order p row rows.row (omega (arith, b, before))))
      ]

      -- the numbers before stay
      old-number : (t : ℕ) → t < s
          → slice_index_or (numbers ++ row * p.stride ∷ []) t 0 ≡ slice_index_or numbers t 0
      old-number t before = grind (arith, common_steps)

      -- and its own is after them
      new-number : slice_index_or (numbers ++ row * p.stride ∷ []) s 0 ≡ row * p.stride
      new-number = grind (arith, common_steps)

      module _ (inner : 4 ≤ s) (placed : HasPlaced p.start_kind p.built u row lists back new_lists new_back) where
        -- all states up to it have rows
        rows-now : (t : ℕ) → 4 ≤ t → t < s + 1
            → HasRows p new_lists new_back last t (slice_index_or (numbers ++ row * p.stride ∷ []) t 0)
        rows-now t from before = elim (cases_eq t s) [
          | inl same ↦ rw (same, new-number) (goes-on placed).own
          | inr other ↦
              let earlier : t < s = omega (arith, before, other) in
              rw (old-number t earlier, (goes-on placed).is)
              (kept p lists (goes-on placed).added back new_back last t (slice_index_or numbers t 0) (goes-on placed).nearer
              (h.rows t from earlier))
        ]

        -- which are apart
        apart-now : (t r : ℕ) → 4 ≤ t → t < r → r < s + 1
            → Apart p (slice_index_or (numbers ++ row * p.stride ∷ []) t 0)
            (slice_index_or (numbers ++ row * p.stride ∷ []) r 0)
        apart-now t r from after before = elim (cases_eq r s) [
          | inl same ↦
              let earlier : t < s = omega (arith, after, same) in
              rw (same, new-number, old-number t earlier)
              (apart-from t (slice_index_or numbers t 0) (goes-on placed) (h.rows t from earlier))
          | inr other ↦
              let earlier : r < s = omega (arith, before, other) in
              let first : t < s = omega (arith, after, earlier) in
              rw (old-number t first, old-number r earlier) (h.apart t r from after earlier)
        ]

        -- with them one state more is laid
        pub one-more-laid : IsLaidUpTo p (s + 1) (numbers ++ row * p.stride ∷ []) new_lists new_back last
        one-more-laid =
            let on = goes-on placed in
            let w = h.within in
            let nearer = on.nearer in
            record {
              count = let c = h.count in let l = length-append numbers (row * p.stride ∷ []) in omega (arith, c, l);
              dead = old-number 0 (omega (arith, inner)) ∙ h.dead;
              unreached = old-number 1 (omega (arith, inner)) ∙ h.unreached;
              start = old-number 2 (omega (arith, inner)) ∙ h.start;
              more = h.more ++ on.added;
              first = on.is ∙ ap (λ ls. ls ++ on.added) h.first
                  ∙ append_assoc (first_lists p.start_kind p.built) h.more on.added;
              room = on.room;
              within = omega (arith, w, nearer);
              rows = rows-now;
              apart = apart-now;
            }
