-- The row of a node once its own transitions are set.
use Rattle.ac_util.proofs.Prelude.{◌≡◌, ◌≢◌, ◌⊎◌, ℕ, ◌+◌, ◌<◌, ◌≤◌, Bool, true, false, List, [], ◌∷◌, slice_index_or, refl, ap, sym, ◌∙◌, arith, Some, Contains, rules, range_with_len, false≢true, common_steps}
use Rattle.ac_engines.specs.Prelude.{Built, class_at, failure, No, Node, plain_byte, Yes, leads_on, transition_bytes_of, plain_of, step_of, EndsDead, entry, HasSet, IsFilled, row_at, SameBeside, RowInput}
use Rattle.ac_util.specs.declared.search.Anchored.{Anchored}
use Rattle.ac_util.proofs.Failures.{step-own, step-failure}
use Rattle.ac_util.proofs.Lists.{Contains-from_IsIn, IsIn-filter, IsIn-from_Contains, IsIn-from_filter, IsIn-from_range, IsIn-range}

-- the bytes that lead on are those that pass the test
pub transition_bytes_of-has : (built : Built) (u : Node) (b : ℕ) → b < 256 → leads_on built u b ≡ true → Contains (transition_bytes_of built u) b
unfolding transition_bytes_of
transition_bytes_of-has built u b byte leads =
    Contains-from_IsIn b (transition_bytes_of built u)
    (IsIn-filter (leads_on built u) b (range_with_len 0 256) (IsIn-range b 0 256 (omega arith) (omega arith)) leads)

pub transition_bytes_of-only : (built : Built) (u : Node) (b : ℕ) → Contains (transition_bytes_of built u) b → leads_on built u b ≡ true
unfolding transition_bytes_of
transition_bytes_of-only built u b has =
    (IsIn-from_filter (leads_on built u) b (range_with_len 0 256) (IsIn-from_Contains b (transition_bytes_of built u) has)).1

pub transition_bytes_of-small : (built : Built) (u : Node) (b : ℕ) → Contains (transition_bytes_of built u) b → b < 256
unfolding transition_bytes_of
transition_bytes_of-small built u b has =
    (IsIn-from_range b 0 256
    (IsIn-from_filter (leads_on built u) b (range_with_len 0 256) (IsIn-from_Contains b (transition_bytes_of built u) has)).0).1

module _ (p : RowInput) where
  -- what was filled stays so while entries elsewhere are set
  pub filled-beside : (narrow : (b : ℕ) → b < 256 → class_at p.classes b < p.stride) (anchored : Anchored) (u : Node)
      (first width : ℕ) (old new : List ℕ)
      → (row_at p anchored u + p.stride ≤ first) ⊎ (first + width ≤ row_at p anchored u)
      → SameBeside first width old new → IsFilled p anchored u old → IsFilled p anchored u new
  filled-beside narrow anchored u first width old new apart same filled = grind (arith, common_steps)

  -- entries past the classes stay dead while own transitions are set
  pub past-set : (anchored : Anchored) (w bytes old new : List ℕ) → HasSet p anchored w bytes old new
      → EndsDead p anchored (Some w) old → EndsDead p anchored (Some w) new
  past-set anchored w bytes old new set past = grind (arith, common_steps)

  -- in an anchored row a byte that doesn't lead on leads to the dead state
  pub filled-anchored : (narrow : (b : ℕ) → b < 256 → class_at p.classes b < p.stride) (w : List ℕ) (old new : List ℕ)
      → ((k : ℕ) → k < p.stride → slice_index_or old (row_at p Yes (Some w) + k) 0 ≡ 0)
      → HasSet p Yes w (transition_bytes_of p.built (Some w)) old new → IsFilled p Yes (Some w) new
  filled-anchored narrow w old new blank set = record {
    steps = λ b byte. go b byte (leads_on p.built (Some w) b) refl;
    past = past-set Yes w (transition_bytes_of p.built (Some w)) old new set (λ k from to. blank k to);
  }
    where
      go : (b : ℕ) → b < 256 → (t : Bool) → leads_on p.built (Some w) b ≡ t
          → entry p.classes new (row_at p Yes (Some w)) b ≡ row_at p Yes (step_of p.built Yes (Some w) b)
      go b byte true leads = set.own b byte (transition_bytes_of-has p.built (Some w) b byte leads) ∙ rw leads refl
      go b byte false none =
          set.others b byte (λ has. false≢true (sym none ∙ transition_bytes_of-only p.built (Some w) b has))
          ∙ blank (class_at p.classes b) (narrow b byte) ∙ rw none refl

  -- in an unanchored row one that doesn't lead on leads where it leads from the failure target
  pub filled-inner : (x : ℕ) (w : List ℕ) (old copied new : List ℕ)
      → IsFilled p No (failure p.built.kind (plain_of p.built) (x ∷ w)) old
      → ((b : ℕ) → b < 256 → entry p.classes copied (row_at p No (Some (x ∷ w))) b
      ≡ entry p.classes old (row_at p No (failure p.built.kind (plain_of p.built) (x ∷ w))) b)
      → EndsDead p No (Some (x ∷ w)) copied
      → HasSet p No (x ∷ w) (transition_bytes_of p.built (Some (x ∷ w))) copied new → IsFilled p No (Some (x ∷ w)) new
  filled-inner x w old copied new target copies past set = record {
    steps = λ b byte. go b byte (leads_on p.built (Some (x ∷ w)) b) refl;
    past = past-set No (x ∷ w) (transition_bytes_of p.built (Some (x ∷ w))) copied new set past;
  }
    where
      go : (b : ℕ) → b < 256 → (t : Bool) → leads_on p.built (Some (x ∷ w)) b ≡ t
          → entry p.classes new (row_at p No (Some (x ∷ w))) b ≡ row_at p No (step_of p.built No (Some (x ∷ w)) b)
      go b byte true leads =
          set.own b byte (transition_bytes_of-has p.built (Some (x ∷ w)) b byte leads)
          ∙ ap (row_at p No) (sym (step-own p.built.kind (plain_of p.built) x w (plain_byte p.built.ignores_case b) leads))
      go b byte false none =
          set.others b byte (λ has. false≢true (sym none ∙ transition_bytes_of-only p.built (Some (x ∷ w)) b has))
          ∙ copies b byte ∙ target.steps b byte
          ∙ ap (row_at p No) (sym (step-failure p.built.kind (plain_of p.built) x w (plain_byte p.built.ignores_case b) none))

  -- the same of a string that isn't empty
  pub filled-longer : (w : List ℕ) (old copied new : List ℕ) → w ≢ []
      → IsFilled p No (failure p.built.kind (plain_of p.built) w) old
      → ((b : ℕ) → b < 256 → entry p.classes copied (row_at p No (Some w)) b
      ≡ entry p.classes old (row_at p No (failure p.built.kind (plain_of p.built) w)) b)
      → EndsDead p No (Some w) copied
      → HasSet p No w (transition_bytes_of p.built (Some w)) copied new → IsFilled p No (Some w) new
  filled-longer [] old copied new some target copies past set = absurd (some refl)
  filled-longer (x ∷ w) old copied new some target copies past set = search (rules, filled-inner)
