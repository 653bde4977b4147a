-- A stream that goes on: the walk over what was there before stays, and other matches follow.
use Rattle.ac_util.proofs.Prelude.{common_steps, ◌≡◌, ℕ, zero, suc, ◌+◌, ◌-◌, ◌<◌, ◌≤◌, Bool, true, false, List, [], ◌∷◌, ◌++◌, length, length-append, get_or, refl, ap, sym, ◌∙◌, arith, Option, None, Some, All, AllPairs, filter, rules, cases_lt, cond-true, cond-false, lt-leb, leb-false, All-nil}
use Rattle.ac_util.specs.Prelude.{whole_input, Built, continued, from, IsAfter, MatchKind, next_match, Occurrence, pick, Search, search_in, Standard, stream_result, unless_repeated, walk, walk_after}
use Rattle.ac_util.proofs.Beginning.{ends_by, walk-beginning}
use Rattle.ac_util.proofs.Longer.{pick-extended}
use Rattle.ac_util.proofs.Walks.{pick-Occurs, walk-ordered}

-- the search once these bytes have come
abbrev longer : Search → List ℕ → Search
longer q more = record q { haystack = q.haystack ++ more }

-- nothing is picked in a span that ends before it begins
none-backward : (kind : MatchKind) (q : Search) → q.high < q.low → pick kind q ≡ None
none-backward kind q back = by (pick kind q) refl
  where
    by : (r : Option Occurrence) → pick kind q ≡ r → pick kind q ≡ None
    by None e = e
    by (Some m) e = grind (arith, common_steps, pick-Occurs kind q m e)

module _ (kind : MatchKind) (more : List ℕ) where
  pick-longer : (q : Search) → q.high ≤ length q.haystack → pick kind (longer q more) ≡ pick kind q
  pick-longer q inside = search (rules, cases_lt, none-backward, pick-extended)

  unless-longer : (q : Search) → q.high ≤ length q.haystack → (r : Option Occurrence) (t : Bool)
      → unless_repeated kind (longer q more) r t ≡ unless_repeated kind q r t
  unless-longer q inside r false = refl
  unless-longer q inside r true = pick-longer (from q (q.low + 1)) inside

  next-longer : (q : Search) → q.high ≤ length q.haystack → (last : Option ℕ)
      → next_match kind (longer q more) last ≡ next_match kind q last
  next-longer q inside last = search (rules, pick-longer, unless-longer)

  continued-longer : (q : Search) → q.high ≤ length q.haystack → (n : ℕ) (r : Option Occurrence)
      → continued kind (longer q more) n r ≡ continued kind q n r
  continued-longer q inside zero r = refl
  continued-longer q inside (suc n) None = refl
  continued-longer q inside (suc n) (Some m) = search (rules, next-longer)

  -- the walk stays as it was
  pub walk-longer : (q : Search) → q.high ≤ length q.haystack → walk kind (longer q more) ≡ walk kind q
  unfolding walk_after
  walk-longer q inside =
      ap (continued kind (longer q more) (q.high + 1 - q.low)) (next-longer q inside None)
      ∙ continued-longer q inside (q.high + 1 - q.low) (next_match kind q None)

-- where all matches end past h, none ends by h
none-late : (h : ℕ) (ms : List Occurrence)
    → ((k : ℕ) (d : Occurrence) → k < length ms → h < (get_or ms k d).end) → filter (ends_by h) ms ≡ []
none-late h [] late = refl
none-late h (m ∷ ms) late =
    cond-false (ends_by h m) (m ∷ filter (ends_by h) ms) (filter (ends_by h) ms)
    (lt-leb m.end h (late 0 m (omega arith)))
    ∙ none-late h ms (λ k d within. late (suc k) d (omega arith))

-- of matches that end later and later those that end by h come first, and the others end past it
ends-first : (h : ℕ) (ms : List Occurrence) → AllPairs IsAfter ms
    → (rest : List Occurrence) × (ms ≡ filter (ends_by h) ms ++ rest) × All (λ m. h < m.end) rest
ends-first h [] pairs = ([], refl, All-nil (λ (m : Occurrence). h < m.end))
ends-first h (m ∷ ms) pairs = by (ends_by h m) refl (ends-first h ms later)
  where
    later : AllPairs IsAfter ms
    later = λ i j d before within. pairs (suc i) (suc j) d (omega arith) (omega arith)

    late : ends_by h m ≡ false → (k : ℕ) (d : Occurrence) → k < length (m ∷ ms) → h < (get_or (m ∷ ms) k d).end
    late e zero d within = leb-false m.end h e
    late e (suc k) d within =
        let a = (pairs 0 (suc k) d (omega arith) within).rises in let b = leb-false m.end h e in omega arith

    by : (t : Bool) → ends_by h m ≡ t
        → (rest : List Occurrence) × (ms ≡ filter (ends_by h) ms ++ rest) × All (λ m. h < m.end) rest
        → (rest : List Occurrence) × (m ∷ ms ≡ filter (ends_by h) (m ∷ ms) ++ rest) × All (λ m. h < m.end) rest
    by true e i = (
      i.0,
      ap (λ (xs : List Occurrence). m ∷ xs) i.1
          ∙ ap (λ (xs : List Occurrence). xs ++ i.0)
          (sym (cond-true (ends_by h m) (m ∷ filter (ends_by h) ms) (filter (ends_by h) ms) e)),
      i.2,
    )
    by false e i =
        (m ∷ ms, ap (λ (xs : List Occurrence). xs ++ m ∷ ms) (sym (none-late h (m ∷ ms) (late e))), λ k d within. late e k d within)

-- under Standard a stream that goes on keeps the matches that it had, and others end past what was there
pub stream_result-begins : (built : Built) → built.kind ≡ Standard → (bytes more : List ℕ)
    → (rest : List Occurrence) × (stream_result built (bytes ++ more) ≡ stream_result built bytes ++ rest)
    × All (λ m. length bytes < m.end) rest
stream_result-begins built standard bytes more = (
  first.0,
  ap (λ (kind : MatchKind). walk kind whole) standard ∙ first.1
      ∙ ap (λ (ms : List Occurrence). ms ++ first.0)
      (sym (walk-beginning whole (length bytes) (let l = length-append bytes more in omega arith))
      ∙ walk-longer Standard more before (omega arith)
      ∙ ap (λ (kind : MatchKind). walk kind before) (sym standard)),
  first.2,
)
  where
    whole : Search
    whole = search_in built (whole_input (bytes ++ more))

    before : Search
    before = search_in built (whole_input bytes)

    first : (rest : List Occurrence)
        × (walk Standard whole ≡ filter (ends_by (length bytes)) (walk Standard whole) ++ rest)
        × All (λ m. length bytes < m.end) rest
    first = ends-first (length bytes) (walk Standard whole) (walk-ordered Standard whole)
