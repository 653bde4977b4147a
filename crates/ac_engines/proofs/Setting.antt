-- Setting own transitions in a row of a DFA, one after another.
use Rattle.ac_util.proofs.Prelude.{◌≡◌, ◌≢◌, inl, inr, ℕ, ◌+◌, ◌<◌, List, [], ◌∷◌, ◌++◌, length, slice_set, sym, ◌∙◌, arith, Some, Contains, cases_eq, get_or-set_same, get_or-set_other, length-set, Contains-append_cases, Contains-append_left, Contains-append_right}
use Rattle.ac_engines.specs.Prelude.{alphabet_len, class_at, plain_byte, HasSet, RowInput, row_at}
use Rattle.ac_util.specs.declared.search.Anchored.{Anchored}
use Rattle.ac_util.proofs.Lists.{IsIn-from_Contains}

Contains-one : (a b : ℕ) → Contains (b ∷ []) a → a ≡ b
Contains-one a b h = elim (IsIn-from_Contains a (b ∷ []) h) [ inl same ↦ sym same | inr none ↦ absurd none ]

Contains-own : (a b : ℕ) → a ≡ b → Contains (b ∷ []) a
Contains-own a b same = (0, omega arith, sym same)

module _ (p : RowInput) (anchored : Anchored) (w : List ℕ)
    (below : (b : ℕ) → b < 256 → class_at p.classes b < alphabet_len p.classes) where
  -- the row begins here
  abbrev row : ℕ
  row = row_at p anchored (Some w)

  -- one byte more, whose class has no other byte
  pub set-more : (bytes : List ℕ) (b v : ℕ) (old now : List ℕ) → b < 256
      → ((a : ℕ) → a < 256 → class_at p.classes a ≡ class_at p.classes b → a ≡ b)
      → row_at p anchored (Some w) + class_at p.classes b < length now
      → v ≡ row_at p anchored (Some (w ++ plain_byte p.built.ignores_case b ∷ []))
      → HasSet p anchored w bytes old now
      → HasSet p anchored w (bytes ++ b ∷ []) old (slice_set now (row_at p anchored (Some w) + class_at p.classes b) v)
  set-more bytes b v old now byte alone within e h =
      let at = row + class_at p.classes b in
      let apart : (a : ℕ) → a < 256 → (a ≡ b → ⊥) → row + class_at p.classes a ≢ at = λ a small other same.
      other (alone a small (omega arith)) in
      record {
        same_length = length-set now at v ∙ h.same_length;
        beside = λ k outside.
            get_or-set_other now at k v 0 (let n = below b byte in λ same. omega arith) ∙ h.beside k outside;
        own = λ a small has. elim (cases_eq a b) [
          | inl same ↦ rw same (get_or-set_same now at v 0 within ∙ e)
          | inr other ↦ elim (Contains-append_cases bytes (b ∷ []) a has) [
            | inl before ↦ get_or-set_other now at (row + class_at p.classes a) v 0 (apart a small other)
                ∙ h.own a small before
            | inr last ↦ absurd (other (Contains-one a b last))
          ]
        ];
        others = λ a small none.
            get_or-set_other now at (row + class_at p.classes a) v 0
            (apart a small (λ same. none (Contains-append_right bytes (b ∷ []) a (Contains-own a b same))))
            ∙ h.others a small (λ before. none (Contains-append_left bytes (b ∷ []) a before));
      }
