-- Sums over the states of a plan, and over the strings that they stand for.
use Rattle.ac_util.proofs.Prelude.{◌≡◌, ◌≢◌, ℕ, zero, suc, ◌+◌, ◌<◌, ◌≤◌, List, [], ◌∷◌, length, map, inl, inr, Option, None, Some, refl, ap, sym, subst, ◌∙◌, add-one, arith, slice_get, rules, range_with_len, sum_by, length-map-range_with_len, cases_lt, common_steps}
use Rattle.ac_engines.specs.Prelude.{inner_nodes, Node, AreNodes, plain_of, Trie, total}
use Rattle.std.proofs.lemmas.List.Sums.{sum_by-cons}
use Rattle.ac_util.proofs.Lists.{IsIn, IsIn-from_Contains, IsIn-from_map, IsIn-from_range, IsOrdered}

-- one number more is summed
pub total-more : (f : ℕ → ℕ) (n : ℕ) → total f (n + 1) ≡ total f n + f n
unfolding total
total-more f n = rw add-one refl

-- a sum grows with the numbers that it is over
pub total-grows : (f : ℕ → ℕ) (m n : ℕ) → m ≤ n → total f m ≤ total f n
unfolding total
total-grows f m zero le = let none : m ≡ zero = omega arith in rw none (omega arith)
total-grows f m (suc n) le = elim (cases_lt m (suc n)) [
  | inl below ↦ omega (arith, total-grows f m n (omega (arith, below)))
  | inr past ↦ let all : m ≡ suc n = omega (arith, past, le) in rw all (omega arith)
]

-- the sums of two functions are the sum of both
pub total-both : (f g : ℕ → ℕ) (n : ℕ) → total f n + total g n ≡ total (λ s. f s + g s) n
unfolding total
total-both f g zero = refl
total-both f g (suc n) = omega (arith, total-both f g n)

-- a sum over more numbers, of which the last ones are listed
pub total-range : (f : ℕ → ℕ) (a n : ℕ) → total f (a + n) ≡ total f a + sum_by f (range_with_len a n)
total-range f a zero = ap (total f) (let e : a + zero ≡ a = omega arith in e) ∙ omega arith
total-range f a (suc n) = search (rules, total-range f (a + 1) n, total-more, sum_by-cons)

-- a list without one place at which an element stands
record Without {X : Type 0} (f : X → ℕ) (x : X) (ys : List X) : Type 0 where
  rest : List X
  shorter : suc (length rest) ≡ length ys
  others : (z : X) → x ≢ z → IsIn z ys → IsIn z rest
  sum : sum_by f ys ≡ f x + sum_by f rest

-- an element's place can be taken out
without : {X : Type 0} (f : X → ℕ) (x : X) (ys : List X) → IsIn x ys → Without f x ys
without f x [] h = absurd h
without f x (y ∷ ys) (inl e) = record {
  rest = ys;
  shorter = refl;
  others = λ z other k. elim k [ inl g ↦ absurd (other (sym e ∙ g)) | inr l ↦ l ];
  sum = sum_by-cons f y ys ∙ ap (λ z. f z + sum_by f ys) e;
}
without f x (y ∷ ys) (inr h) =
    let later = without f x ys h in
    let shorter = later.shorter in
    record {
      rest = y ∷ later.rest;
      shorter = omega arith;
      others = λ z other k. elim k [ inl g ↦ inl g | inr l ↦ inr (later.others z other l) ];
      sum = omega (arith, sum_by-cons f y ys, sum_by-cons f y later.rest, later.sum);
    }

-- two lists have one sum if one has distinct elements, and the other has all of these and no more elements
sum-same : {X : Type 0} (f : X → ℕ) (xs ys : List X) → IsOrdered (λ x y. x ≢ y) xs → length ys ≤ length xs
    → ((x : X) → IsIn x xs → IsIn x ys) → sum_by f xs ≡ sum_by f ys
sum-same f [] [] apart short into = refl
sum-same f [] (y ∷ ys) apart short into = absurd (omega arith)
sum-same f (x ∷ xs) ys apart short into =
    let cut = without f x ys (into x (inl refl)) in
    let shorter = cut.shorter in
    let (other, later) = apart in
    let rest = sum-same f xs cut.rest later (omega arith) (λ z h. cut.others z (other z h) (into z (inr h))) in
    omega (arith, sum_by-cons f x xs, cut.sum, rest)

-- the string of a node
abbrev string_of : Option (Option (List ℕ)) → List ℕ
string_of None = []
string_of (Some None) = []
string_of (Some (Some w)) = w

module _ (trie : Trie) (nodes : List Node) (h : AreNodes trie nodes) where
  -- the string of a state
  abbrev string_at : ℕ → List ℕ
  string_at s = string_of (slice_get nodes s)

  abbrev inner : List (List ℕ)
  inner = inner_nodes trie.built.kind (plain_of trie.built)

  -- a state after the starts stands for its string
  string-named : (s : ℕ) → 4 ≤ s → s < length nodes → slice_get nodes s ≡ Some (Some (string_at s))
  string-named s after within =
      let (w, node) = h.numbered.node s after within in
      node.named ∙ ap (λ w. Some (Some (string_of w))) (sym node.named)

  -- different states after the starts stand for different strings
  strings-apart : (a n : ℕ) → 4 ≤ a → a + n ≤ length nodes
      → IsOrdered (λ (v w : List ℕ). v ≢ w) (map string_at (range_with_len a n))
  strings-apart a zero after within = tt
  strings-apart a (suc n) after within = (
    (λ w has same.
        let (s, among, is) = IsIn-from_map string_at w (range_with_len (a + 1) n) has in
        let (later, below) = IsIn-from_range s (a + 1) n among in
        let first = string-named a after (omega arith) in
        let second = string-named s (omega (arith, later)) (omega (arith, below)) in
        let both : string_at a ≡ string_at s = same ∙ sym is in
        let once = h.numbered.once a s (string_at a) (record { inner = after; named = first })
        (record { inner = omega (arith, later); named = second ∙ ap (λ v. Some (Some v)) (sym both) }) in
        omega (arith, once, later)),
    strings-apart (a + 1) n (omega arith) (omega arith),
  )

  -- all of them are counted
  strings-inner : (n : ℕ) → 4 + n ≤ length nodes → (w : List ℕ) → IsIn w (map string_at (range_with_len 4 n)) → IsIn w inner
  strings-inner n within w has =
      let (s, among, is) = IsIn-from_map string_at w (range_with_len 4 n) has in
      let (after, below) = IsIn-from_range s 4 n among in
      subst (λ v. IsIn v inner) is
      (IsIn-from_Contains (string_at s) inner (h.numbered.only s (string_at s)
      (record { inner = after; named = string-named s after (omega (arith, below)) })))

  module _ (f : ℕ → ℕ) (g : List ℕ → ℕ)
      (same : (s : ℕ) (w : List ℕ) → 4 ≤ s → slice_get nodes s ≡ Some (Some w) → f s ≡ g w) where
    -- a sum over states is one over their strings
    sum-strings : (a n : ℕ) → 4 ≤ a → a + n ≤ length nodes
        → sum_by f (range_with_len a n) ≡ sum_by g (map string_at (range_with_len a n))
    sum-strings a zero after within = refl
    sum-strings a (suc n) after within = grind (arith, common_steps, string-named, sum-strings (a + 1) n (omega arith) (omega arith))

    -- and so the sum over all is that over the first four and that over the strings that aren't empty
    pub total-inner : total f (length nodes) ≡ total f 4 + sum_by g inner
    total-inner = search (rules, length-map-range_with_len, strings-apart, strings-inner, sum-same, sum-strings, total-range)
