-- Looking up the commit of a state among those that are in ascending order of their states.
use Rattle.ac_util.proofs.Prelude.{◌≡◌, ◌≢◌, ◌⊎◌, ℕ, ◌<◌, ◌≤◌, List, inl, inr, ap, sym, ◌∙◌, subst, arith, get_or, Contains, Ok, Err, IsBinarySearchResult, IsNonDecreasingBy, nat_cmp, ordering_index, cases_lt}
use Rattle.ac_automaton.specs.Prelude.{Commit}
use Rattle.std.specs.Cmp.{nat_cmp_is}
use Rattle.std.specs.declared.cmp.Ordering.TheVariants.{Less, Equal, Greater}

-- how two numbers compare
abbrev Compares : ℕ → ℕ → Type 0
Compares x y = ((x < y) × (nat_cmp x y ≡ Less)) ⊎ ((x ≡ y) × (nat_cmp x y ≡ Equal)) ⊎ ((y < x) × (nat_cmp x y ≡ Greater))

compares : (x y : ℕ) → Compares x y
compares x y = elim (cases_lt x y) [
  | inl less ↦ inl (less, sym (nat_cmp_is x y Less less))
  | inr least ↦ elim (cases_lt y x) [
    | inl more ↦ inr (inr (more, sym (nat_cmp_is x y Greater more)))
    | inr none ↦ let e : x ≡ y = omega arith in inr (inl (e, sym (nat_cmp_is x y Equal e)))
  ]
]

-- the answers rise with the numbers
index-rises : (x y s : ℕ) → x ≤ y → ordering_index (nat_cmp x s) ≤ ordering_index (nat_cmp y s)
index-rises x y s le = by (compares x s) (compares y s)
  where
    by : Compares x s → Compares y s → ordering_index (nat_cmp x s) ≤ ordering_index (nat_cmp y s)
    by (inl a) b = let i = ap ordering_index a.1 in omega arith
    by (inr (inl a)) (inl b) = absurd (let l = b.0 in let e = a.0 in omega arith)
    by (inr (inl a)) (inr (inl b)) = let i = ap ordering_index a.1 in let j = ap ordering_index b.1 in omega arith
    by (inr (inl a)) (inr (inr b)) = let i = ap ordering_index a.1 in let j = ap ordering_index b.1 in omega arith
    by (inr (inr a)) (inl b) = absurd (let l = b.0 in let m = a.0 in omega arith)
    by (inr (inr a)) (inr (inl b)) = absurd (let e = b.0 in let m = a.0 in omega arith)
    by (inr (inr a)) (inr (inr b)) = let i = ap ordering_index a.1 in let j = ap ordering_index b.1 in omega arith

equal-numbers : (x s : ℕ) → nat_cmp x s ≡ Equal → x ≡ s
equal-numbers x s e = by (compares x s)
  where
    by : Compares x s → x ≡ s
    by (inl a) = absurd (let no = sym a.1 ∙ e in cc)
    by (inr (inl a)) = a.0
    by (inr (inr a)) = absurd (let no = sym a.1 ∙ e in cc)

module _ (commits : List Commit) (s i : ℕ) where
  -- what is found is the commit of the state
  pub found-state : (commit : Commit) → IsBinarySearchResult (λ c. nat_cmp c.state s) commits (Ok i)
      → commit ≡ get_or commits i commit → commit.state ≡ s
  found-state commit position is =
      equal-numbers commit.state s
      (subst (λ (c : Commit). nat_cmp c.state s ≡ Equal) (sym is) (position commit))

  -- where none is found there is none
  pub found-none : IsNonDecreasingBy (λ (c : Commit). c.state) commits
      → IsBinarySearchResult (λ c. nat_cmp c.state s) commits (Err i)
      → (commit : Commit) → Contains commits commit → commit.state ≢ s
  found-none rising position commit has is =
      let point = position (λ j k d le within. index-rises (get_or commits j d).state (get_or commits k d).state s (rising j k d le within)) in
      let same : nat_cmp (get_or commits has.0 commit).state s ≡ Equal =
      sym (nat_cmp_is (get_or commits has.0 commit).state s Equal (ap (λ (c : Commit). c.state) has.2 ∙ is)) in
      elim (cases_lt has.0 i) [
        | inl before ↦ let no = sym (point.0 has.0 commit (omega arith) before) ∙ same in cc
        | inr from ↦ let no = sym (point.1 has.0 commit from has.1) ∙ same in cc
      ]
