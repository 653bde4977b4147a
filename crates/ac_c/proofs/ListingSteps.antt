-- How a listing goes on, by what it has passed over.
use Rattle.ac_util.proofs.Prelude.{◌≡◌, ℕ, ◌+◌, ◌<◌, ◌≤◌, List, [], ◌∷◌, ◌++◌, length, drop, filter, ap, sym, ◌∙◌, subst, arith, inl, inr, All, drop-append_seam, eqb_tells, filter-append, All-append, All-cons, All-nil, All-weaker}
use Rattle.ac_util.specs.Prelude.{all, IsBefore, Occurrence, Occurs, Search}
use Rattle.ac_util.proofs.Lists.{IsIn, IsOrdered, IsIn-from_filter, IsIn-append_left, IsOrdered-filter, filter-none}
use Rattle.ac_util.proofs.Listing.{all-only, all-ordered}
use Rattle.ac_c.specs.declared.search.Cursor.{Cursor}
use Rattle.ac_c.specs.Batches.{ends_from, listing_from}
use Rattle.ac_c.specs.Searches.{stepped}
use Rattle.ac_c.specs.Steps.{StandsInListing}
use Rattle.ac_c.proofs.FewAtEnd.{few-end}
use Rattle.ac_c.proofs.LateListings.{ends_from-true, ends_from-false, ends_from-only}
use Rattle.ac_c.proofs.ListLemmas.{at-element, filter-all, one-kept, one-left, one-more, ordered-left, ordered-right}

-- an occurrence ends no later
abbrev EndsBy : ℕ → Occurrence → Type 0
EndsBy place m = m.end ≤ place

-- what is due is what is left, from the place on
due-rest : (at given : ℕ) (passed rest : List Occurrence) → length (filter (ends_from at) passed) ≡ given
    → drop given (filter (ends_from at) (passed ++ rest)) ≡ filter (ends_from at) rest
due-rest at given passed rest counted =
    let before = filter (ends_from at) passed in let after = filter (ends_from at) rest in
    ap (drop given) (filter-append (ends_from at) passed rest)
    ∙ subst (λ n. drop n (before ++ after) ≡ after) counted (drop-append_seam before after)

-- what is due where a listing stands at a cursor
stands-due : (q : Search) (rest : List Occurrence) (at given : ℕ) → StandsInListing q rest at given
    → drop given (filter (ends_from at) (all q)) ≡ filter (ends_from at) rest
stands-due q rest at given s =
    ap (λ ms. drop given (filter (ends_from at) ms)) s.listing ∙ due-rest at given s.passed rest s.counted

-- an occurrence is the first that is left
module _ (q : Search) (rest : List Occurrence) (m : Occurrence) (at given : ℕ)
    (s : StandsInListing q (m ∷ rest) at given) where
  -- what was passed over with it
  abbrev and_it : List Occurrence
  and_it = s.passed ++ m ∷ []

  -- that and what is left then are the listing
  more : all q ≡ and_it ++ rest
  more = s.listing ∙ one-more s.passed rest m

  -- and ends no later than a place that neither the cursor nor the occurrence is past
  more-end : (place : ℕ) → at ≤ place → m.end ≤ place → All (EndsBy place) and_it
  more-end place later high =
      All-append (EndsBy place) s.passed (m ∷ [])
      (All-weaker (EndsBy at) (EndsBy place) (λ x h. omega (arith, h, later)) s.passed s.ends)
      (All-cons (EndsBy place) m [] high (All-nil (EndsBy place)))

  -- an occurrence that ends before the cursor is passed over
  pub stands-past : m.end < at → StandsInListing q rest at given
  stands-past earlier = record {
    passed = and_it;
    listing = more;
    ends = more-end at (omega arith) (omega arith);
    counted = one-left (ends_from at) s.passed m (ends_from-false at m earlier) ∙ s.counted;
  }

  -- one that ends at it is counted
  counted-at : m.end ≡ at → length (filter (ends_from at) and_it) ≡ given + 1
  counted-at here =
      one-kept (ends_from at) s.passed m (ends_from-true at m (omega arith)) ∙ ap (λ n. n + 1) s.counted

  stands-at : m.end ≡ at → StandsInListing q rest at (given + 1)
  stands-at here = record {
    passed = and_it;
    listing = more;
    ends = more-end at (omega arith) (omega arith);
    counted = counted-at here;
  }

  -- one that ends later is the first there
  none-there : at < m.end → filter (ends_from m.end) s.passed ≡ []
  none-there later = filter-none (ends_from m.end) s.passed (λ x i.
      let by = at-element (EndsBy at) x s.passed s.ends i in
      ends_from-false m.end x (omega (arith, by, later)))

  stands-on : at < m.end → StandsInListing q rest m.end 1
  stands-on later = record {
    passed = and_it;
    listing = more;
    ends = more-end m.end (omega arith) (omega arith);
    counted = one-kept (ends_from m.end) s.passed m (ends_from-true m.end m (omega arith))
        ∙ ap (λ (ms : List Occurrence). length ms + 1) (none-there later);
  }

  -- all that is left ends where the occurrence does or later
  rest-later : (place : ℕ) → place ≤ m.end → filter (ends_from place) rest ≡ rest
  rest-later place low =
      let ordered = ordered-right IsBefore s.passed (m ∷ rest) (subst (IsOrdered IsBefore) s.listing (all-ordered q)) in
      filter-all (ends_from place) rest (λ x i.
      let rises = (ordered.0 x i).ends in ends_from-true place x (omega (arith, rises, low)))

  -- where the cursor is no later, the occurrence is due first, and then what is left
  due-first : at ≤ m.end → filter (ends_from at) (m ∷ rest) ≡ m ∷ rest
  due-first late = rw (ends_from-true at m late) (ap (λ (ms : List Occurrence). m ∷ ms) (rest-later at late))

  -- what was passed over with it and ends at the cursor or later occurs, and ends at it
  ends-there : m.end ≡ at → (x : Occurrence) → IsIn x (filter (ends_from at) and_it) → Occurs q x × (x.end ≡ at)
  ends-there here x i =
      let passes = IsIn-from_filter (ends_from at) x and_it i in
      let low = ends_from-only at x passes.1 in
      let high = at-element (EndsBy at) x and_it (more-end at (omega arith) (omega arith)) passes.0 in
      (all-only q x (subst (IsIn x) (sym more) (IsIn-append_left x and_it rest passes.0)), omega (arith, low, high))

  -- so fewer were given there than there are patterns
  pub stands-few : m.end ≡ at → given < length q.patterns
  stands-few here =
      let ordered = ordered-left IsBefore and_it rest (subst (IsOrdered IsBefore) more (all-ordered q)) in
      let few = few-end q at (filter (ends_from at) and_it)
      (IsOrdered-filter IsBefore (ends_from at) and_it ordered) (ends-there here) in
      omega (arith, few, counted-at here)

module _ (q : Search) (rest : List Occurrence) (m : Occurrence) (cursor : Cursor)
    (s : StandsInListing q (m ∷ rest) cursor.at cursor.given) where
  -- an occurrence that ends at the cursor or later is counted
  pub stands-stepped : cursor.at ≤ m.end → StandsInListing q rest (stepped cursor m.end).at (stepped cursor m.end).given
  stands-stepped late = elim (eqb_tells cursor.at m.end) [
    | inl e ↦ rw e.0 (stands-at q rest m cursor.at cursor.given s (sym e.1))
    | inr e ↦ rw e.0 (stands-on q rest m cursor.at cursor.given s (let differ = e.1 in omega arith))
  ]

  -- the cursor goes no further than it ends
  stepped-to : cursor.at ≤ m.end → (stepped cursor m.end).at ≤ m.end
  stepped-to late = elim (eqb_tells cursor.at m.end) [
    | inl e ↦ rw e.0 late
    | inr e ↦ rw e.0 (omega arith)
  ]

  -- it is the first that is due, and those that are due at the next cursor follow
  pub due-stepped : cursor.at ≤ m.end → listing_from q cursor ≡ m ∷ listing_from q (stepped cursor m.end)
  due-stepped late =
      let next = stepped cursor m.end in
      let left = stands-due q rest next.at next.given (stands-stepped late)
      ∙ rest-later q rest m cursor.at cursor.given s next.at (stepped-to late) in
      stands-due q (m ∷ rest) cursor.at cursor.given s
      ∙ due-first q rest m cursor.at cursor.given s late
      ∙ ap (λ (ms : List Occurrence). m ∷ ms) (sym left)
