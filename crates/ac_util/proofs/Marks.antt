-- Which bytes are marked as those with which patterns begin, and the bytes that are marked.
use Rattle.ac_util.proofs.Prelude.{◌≡◌, ℕ, zero, suc, ◌+◌, ◌-◌, ◌<◌, ◌≤◌, Bool, true, false, cond, ◌||◌, ◌⊎◌, List, [], ◌∷◌, ◌++◌, length, length-take, get_or, set, take, Some, None, inl, inr, refl, ap, sym, ◌∙◌, arith, ◌==◌, ◌&&◌, not, filter, slice_get, rules, list_any, range_with_len, eq-eqb, false≢true, or_left, or_right, true≢false, nat_tests, common_steps, append-nil, filter-append}
use Rattle.ac_util.specs.Prelude.{begins_with, BeginWith, first_bytes, first_bytes_of, FirstBytes, FirstOf, is_empty, is_one_of, marked, MOST_BYTES, MOST_PATTERNS, One, plain_byte, same_byte, skip_among, skip_for, Three, Two, is_marked, Needle}
use Rattle.ac_util.proofs.Lists.{IsIn, IsIn-filter, IsIn-range, none-from_nil}
use Rattle.ac_util.proofs.PlainListing.{range-more}

-- a test of its length says whether a pattern is empty
pub is_empty-length : (p : List ℕ) → is_empty p ≡ (length p == 0)
is_empty-length [] = refl
is_empty-length (b ∷ p) = grind (arith, nat_tests)

-- a pattern with a first byte begins with what is the same
pub begins_with-first : (ignores_case : Bool) (b c : ℕ) (p : List ℕ) → slice_get p 0 ≡ Some c
    → begins_with ignores_case b p ≡ same_byte ignores_case b c
begins_with-first ignores_case b c [] e = absurd (cc)
begins_with-first ignores_case b c (a ∷ p) e = ap (same_byte ignores_case b) (let s : a ≡ c = cc in s)

-- one without begins with nothing
pub begins_with-none : (ignores_case : Bool) (b : ℕ) (p : List ℕ) → slice_get p 0 ≡ None → begins_with ignores_case b p ≡ false
begins_with-none ignores_case b [] e = refl
begins_with-none ignores_case b (a ∷ p) e = absurd (cc)

-- one more mark
pub marked_more : (marks : List Bool) (j k : ℕ) → k < length marks
    → get_or (set marks k true) j false ≡ (get_or marks j false || j == k)
marked_more marks j k h = grind (arith, common_steps)

-- the numbers below one more that pass are those below, and the one if it passes
filter-one_more : (p : ℕ → Bool) (n : ℕ)
    → filter p (range_with_len 0 (n + 1)) ≡ filter p (range_with_len 0 n) ++ cond (p n) (n ∷ []) []
filter-one_more p n = search (rules, range-more 0 n n (omega arith), filter-append)

-- one more number passes
pub filter-passes : (p : ℕ → Bool) (n : ℕ) → p n ≡ true
    → filter p (range_with_len 0 (n + 1)) ≡ filter p (range_with_len 0 n) ++ n ∷ []
filter-passes p n e = search (rules, filter-one_more)

-- it doesn't
pub filter-fails : (p : ℕ → Bool) (n : ℕ) → p n ≡ false
    → filter p (range_with_len 0 (n + 1)) ≡ filter p (range_with_len 0 n)
filter-fails p n e = search (rules, append-nil, filter-one_more)

-- no fewer pass below more
filter-more : (p : ℕ → Bool) (n more : ℕ)
    → length (filter p (range_with_len 0 n)) ≤ length (filter p (range_with_len 0 (n + more)))
filter-more p n zero = grind (arith, common_steps)
filter-more p n (suc more) = grind (arith, common_steps, filter-more p n more, filter-one_more p (n + more))

-- where one passes after some that do, more than these pass in all
pub filter-exceeds : (p : ℕ → Bool) (xs : List ℕ) (k n : ℕ) → k < n → p k ≡ true
    → xs ≡ filter p (range_with_len 0 k) → length xs < length (filter p (range_with_len 0 n))
filter-exceeds p xs k n within passes same = grind (arith, common_steps, filter-more p (k + 1) (n - (k + 1)), filter-passes)

-- one more byte, noted after the others
pub take_noted : (xs : List ℕ) (count b : ℕ) → count < length xs
    → take (count + 1) (set xs count b) ≡ take count xs ++ b ∷ []
take_noted xs count b h = grind (arith, common_steps)

-- the first ones of three
pub first_ones : (xs : List ℕ) → length xs ≡ 3
    → (take 1 xs ≡ get_or xs 0 0 ∷ [])
    × (take 2 xs ≡ get_or xs 0 0 ∷ get_or xs 1 0 ∷ [])
    × (take 3 xs ≡ get_or xs 0 0 ∷ get_or xs 1 0 ∷ get_or xs 2 0 ∷ [])
first_ones [] e = absurd (omega arith)
first_ones (a ∷ []) e = absurd (omega arith)
first_ones (a ∷ b ∷ []) e = absurd (omega arith)
first_ones (a ∷ b ∷ c ∷ []) e = (refl, refl, refl)
first_ones (a ∷ b ∷ c ∷ d ∷ xs) e = absurd (omega arith)

-- what is noted once all bytes were tested is what is marked
pub noted_all : (ignores_case : Bool) (marks : List Bool) (bytes : List ℕ) (count k byte : ℕ) → byte ≡ 256 → count ≡ k
    → take count bytes ≡ filter (is_marked ignores_case marks) (range_with_len 0 byte) → take k bytes ≡ marked ignores_case marks
noted_all ignores_case marks bytes count k byte e f h = cc

-- three are noted, and one more is marked
pub marked_more_than_noted : (ignores_case : Bool) (marks : List Bool) (bytes : List ℕ) (byte : ℕ) → byte < 256
    → length bytes ≡ 3 → take 3 bytes ≡ filter (is_marked ignores_case marks) (range_with_len 0 byte)
    → is_marked ignores_case marks byte ≡ true → 3 < length (marked ignores_case marks)
marked_more_than_noted ignores_case marks bytes byte within whole noted passes =
    grind (arith, common_steps, filter-exceeds (is_marked ignores_case marks) (take 3 bytes) byte 256 within passes noted, length-take 3 bytes)

-- a byte among the bytes is one of these
is_one_of-IsIn : (b : ℕ) (bytes : List ℕ) → IsIn b bytes → is_one_of bytes b ≡ true
is_one_of-IsIn b [] h = absurd h
is_one_of-IsIn b (a ∷ bytes) (inl e) = or_left (b == a) (is_one_of bytes b) (eq-eqb b a (sym e))
is_one_of-IsIn b (a ∷ bytes) (inr h) = or_right (b == a) (is_one_of bytes b) (is_one_of-IsIn b bytes h)

-- a plain byte is no less than its byte
plain_byte-ge : (ignores_case : Bool) (b : ℕ) → b ≤ plain_byte ignores_case b
plain_byte-ge false b = omega arith
plain_byte-ge true b = grind (arith, nat_tests)

-- a mark that is set stands within the list
read_within : (marks : List Bool) (k : ℕ) → get_or marks k false ≡ true → k < length marks
read_within [] k e = absurd (false≢true e)
read_within (m ∷ marks) zero e = omega arith
read_within (m ∷ marks) (suc k) e = let h = read_within marks k e in omega arith

-- marks of the bytes with which patterns begin, of which there are some and none is empty
module _ (ignores_case : Bool) (patterns : List (List ℕ)) (marks : List Bool) (whole : length marks ≡ 256)
    (reads : (b : ℕ) → get_or marks (plain_byte ignores_case b) false ≡ list_any (begins_with ignores_case b) patterns)
    (some : list_any is_empty patterns ≡ false) where
  -- what is marked are the bytes with which the patterns begin
  pub marked-first_bytes : marked ignores_case marks ≡ first_bytes ignores_case patterns
  unfolding first_bytes
  marked-first_bytes = λ i. filter (λ b. reads b i) (range_with_len 0 256)

  -- a byte with which a pattern begins is marked
  marked-has : (b : ℕ) → list_any (begins_with ignores_case b) patterns ≡ true → IsIn b (marked ignores_case marks)
  marked-has b e =
      grind (
        arith,
        common_steps,
        IsIn-filter (is_marked ignores_case marks) b (range_with_len 0 256) (IsIn-range b 0 256 (omega arith) (omega (
          arith,
          read_within marks (plain_byte ignores_case
              b) (reads b ∙ e),
          plain_byte-ge ignores_case b,
        ))) (reads b ∙ e),
      )

  -- the patterns begin with what is marked
  pub marked-BeginWith : BeginWith (marked ignores_case marks) ignores_case patterns
  marked-BeginWith = search (rules, is_one_of-IsIn, marked-has)

-- patterns of which none is empty begin with some byte
begin_somehow : (ignores_case : Bool) (patterns : List (List ℕ)) → list_any is_empty patterns ≡ false
    → (length patterns ≡ 0 → ⊥) → (b : ℕ) × (list_any (begins_with ignores_case b) patterns ≡ true)
begin_somehow ignores_case [] some more = absurd (more refl)
begin_somehow ignores_case ([] ∷ ps) some more = absurd (true≢false some)
begin_somehow ignores_case ((c ∷ p) ∷ ps) some more =
    (c, or_left (same_byte ignores_case c c) (list_any (begins_with ignores_case c) ps) (eq-eqb (plain_byte ignores_case c) (plain_byte ignores_case c) refl))

-- where no pattern is empty a search skips as it does among these
skip_for-among : (ignores_case : Bool) (patterns : List (List ℕ)) → list_any is_empty patterns ≡ false
    → skip_for true ignores_case patterns ≡ skip_among ignores_case patterns
skip_for-among ignores_case patterns some = ap (λ (t : Bool). cond (true && not t) (skip_among ignores_case patterns) None) some

-- a pattern alone is skipped to by itself
pub skip_for-needle : (patterns : List (List ℕ)) (needle : List ℕ) → patterns ≡ needle ∷ []
    → list_any is_empty patterns ≡ false → skip_for true false patterns ≡ Some (Needle needle)
skip_for-needle patterns needle e some = skip_for-among false patterns some ∙ ap (skip_among false) e

-- at most a hundred patterns
module _ (ignores_case : Bool) (patterns : List (List ℕ)) (some : list_any is_empty patterns ≡ false)
    (more : length patterns ≡ 0 → ⊥) (alone : length patterns ≡ 1 → ignores_case ≡ true)
    (few : length patterns ≤ MOST_PATTERNS) where
  -- are skipped to by their first bytes where these are at most three
  pub skip_for-bytes : (bytes : List ℕ) → bytes ≡ first_bytes ignores_case patterns → length bytes ≤ MOST_BYTES
      → Some (FirstOf bytes) ≡ skip_for true ignores_case patterns
  skip_for-bytes bytes e h = grind (arith, common_steps)

  -- and not at all where these are more
  pub skip_for-many_bytes : MOST_BYTES < length (first_bytes ignores_case patterns) → None ≡ skip_for true ignores_case patterns
  skip_for-many_bytes h = grind (arith, common_steps)

-- the bytes of a prefilter are at most three
pub first_few : (first : FirstBytes) → length (first_bytes_of first) ≤ MOST_BYTES
first_few (One a) = omega arith
first_few (Two a b) = omega arith
first_few (Three a b c) = omega arith

-- where no byte is marked or more than three are, patterns that aren't empty begin with more than three bytes
pub too_many : (ignores_case : Bool) (patterns : List (List ℕ)) (marks : List Bool) → length marks ≡ 256
    → ((b : ℕ) → get_or marks (plain_byte ignores_case b) false ≡ list_any (begins_with ignores_case b) patterns)
    → list_any is_empty patterns ≡ false → (length patterns ≡ 0 → ⊥)
    → (marked ignores_case marks ≡ []) ⊎ (3 < length (marked ignores_case marks)) → MOST_BYTES < length (first_bytes ignores_case patterns)
too_many ignores_case patterns marks whole reads some more (inl none) =
    let b = begin_somehow ignores_case patterns some more in
    absurd (none-from_nil b.0 (marked ignores_case marks) none (marked-has ignores_case patterns marks whole reads some b.0 b.1))
too_many ignores_case patterns marks whole reads some more (inr h) =
    omega (arith, ap length (marked-first_bytes ignores_case patterns marks whole reads some))

-- a list of one pattern is that alone
pub only_one : (patterns : List (List ℕ)) (p : List ℕ) → length patterns ≡ 1 → slice_get patterns 0 ≡ Some p
    → patterns ≡ p ∷ []
only_one [] p e h = absurd (omega arith)
only_one (q ∷ []) p e h = ap (λ (x : List ℕ). x ∷ []) (let s : q ≡ p = cc in s)
only_one (q ∷ r ∷ ps) p e h = absurd (omega arith)
