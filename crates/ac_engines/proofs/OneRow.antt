-- How one row of a DFA is filled.
use Rattle.ac_util.proofs.Prelude.{◌≡◌, ◌≢◌, ◌⊎◌, inl, inr, ℕ, ◌+◌, ◌<◌, ◌≤◌, Bool, true, false, cond, List, [], ◌∷◌, length, slice_get, slice_index_or, refl, ap, sym, ◌∙◌, arith, Some, None, if◌then◌else◌, CopiedTo, SameBelow, SameFrom, false≢true, common_steps}
use Rattle.ac_engines.specs.Prelude.{alphabet_len, class_at, failure, No, Node, plain_byte, Yes, leads_on, transition_bytes_of, plain_of, step_of, anchored_shift, EndsDead, entry, Filling, HasFilled, HasRow, HasSet, IsFilled, MayFillRow, row_at, SameBeside, RowInput, row_input}
use Rattle.ac_util.proofs.Reached.{step-nil, stops}
use Rattle.ac_engines.proofs.Filled.{filled-anchored, filled-longer, transition_bytes_of-has, transition_bytes_of-only, past-set}
use Rattle.ac_engines.proofs.StateRows.{narrow}

-- what holds beside a part of the table that was changed twice
pub beside-both : (p : RowInput) (first room : ℕ) (old between new : List ℕ) → SameBeside first room old between
    → SameBeside first room between new → SameBeside first room old new
beside-both p first room old between new one two = λ k outside. two k outside ∙ one k outside

module _ (f : Filling) (nodes : List Node) (size s : ℕ) (w : List ℕ) (h : HasRow f nodes size s w) where
  -- the sheet of the table
  abbrev p : RowInput
  p = row_input f nodes

  -- a string that isn't empty stands after the starts
  pub inner-row : w ≢ [] → 4 ≤ s
  inner-row some = elim h.place [
    | inl start ↦ absurd (some (let same = sym h.named ∙ ap (slice_get nodes) start ∙ h.may.are_nodes.start in cc))
    | inr inner ↦ inner
  ]

  -- what was changed within the classes was changed within the row
  beside-row : (row : ℕ) (old new : List ℕ) → SameBeside row (alphabet_len f.classes) old new
      → SameBeside row f.stride old new
  beside-row row old new same k (inl before) = same k (inl before)
  beside-row row old new same k (inr anchored_shift) = same k (inr (let room = h.may.room in omega arith))

  -- an anchored row is filled once its own transitions are set
  pub anchored-filled : (old new : List ℕ) → MayFillRow f nodes size s w Yes old
      → HasSet p Yes w (transition_bytes_of p.built (Some w)) old new → HasFilled p Yes w old new
  anchored-filled old new m set = record {
    same_length = set.same_length;
    beside = beside-row (row_at p Yes (Some w)) old new set.beside;
    filled = filled-anchored p (narrow f nodes size h.may) w old new m.blank set;
  }

  -- where a byte leads from the start that leads on
  start-own : (b : ℕ) → leads_on p.built (Some []) b ≡ true
      → step_of p.built No (Some []) b ≡ Some (plain_byte p.built.ignores_case b ∷ [])
  start-own b own = step-nil p.built.kind (plain_of p.built) (plain_byte p.built.ignores_case b) ∙ rw own refl

  -- the start's row is filled where all classes led where a byte leads that doesn't lead on
  pub start-filled : (default_target : Node) (old led new : List ℕ)
      → ((b : ℕ) → leads_on p.built (Some []) b ≡ false → step_of p.built No (Some []) b ≡ default_target)
      → length led ≡ length old → EndsDead p No (Some []) old
      → SameBeside (row_at p No (Some [])) (alphabet_len f.classes) old led
      → ((b : ℕ) → b < 256 → entry f.classes led (row_at p No (Some [])) b ≡ row_at p No default_target)
      → HasSet p No [] (transition_bytes_of p.built (Some [])) led new → HasFilled p No [] old new
  start-filled default_target old led new misses long past beside leads set = record {
    same_length = set.same_length ∙ long;
    beside = beside-row (row_at p No (Some [])) old new
        (beside-both p (row_at p No (Some [])) (alphabet_len f.classes) old led new beside set.beside);
    filled = record {
      steps = λ b byte. go b byte (leads_on p.built (Some []) b) refl;
      past = past-set p No [] (transition_bytes_of p.built (Some [])) led new set past-led;
    };
  }
    where
      past-led : EndsDead p No (Some []) led
      past-led k from to = beside (row_at p No (Some []) + k) (inr (omega arith)) ∙ past k from to

      go : (b : ℕ) → b < 256 → (t : Bool) → leads_on p.built (Some []) b ≡ t
          → entry p.classes new (row_at p No (Some [])) b ≡ row_at p No (step_of p.built No (Some []) b)
      go b byte true own =
          set.own b byte (transition_bytes_of-has p.built (Some []) b byte own) ∙ ap (row_at p No) (sym (start-own b own))
      go b byte false none =
          set.others b byte (λ has. false≢true (sym none ∙ transition_bytes_of-only p.built (Some []) b has))
          ∙ leads b byte ∙ ap (row_at p No) (sym (misses b none))

  -- where a byte leads from the start that doesn't lead on
  pub start-misses : (t : Bool) → stops p.built.kind (plain_of p.built) [] ≡ t → (b : ℕ)
      → leads_on p.built (Some []) b ≡ false → step_of p.built No (Some []) b ≡ cond t None (Some [])
  start-misses t stopped b none = grind (arith, common_steps)

  -- the row of that node
  pub default_target-row : (t : Bool) → (if t then 0 else row_at p No (Some [])) ≡ row_at p No (cond t None (Some []))
  default_target-row true = refl
  default_target-row false = refl

  -- the start's row, where all its classes first led to that node
  pub start-led : (t : Bool) (start to len : ℕ) (old led new : List ℕ) → w ≡ []
      → stops p.built.kind (plain_of p.built) [] ≡ t → start ≡ row_at p No (Some [])
      → to ≡ (if t then 0 else start) → len ≡ alphabet_len f.classes → length led ≡ length old
      → EndsDead p No (Some []) old
      → ((k : ℕ) → start ≤ k → k < start + len → slice_index_or led k 0 ≡ to)
      → ((k : ℕ) → (k < start) ⊎ (start + len ≤ k) → slice_index_or led k 0 ≡ slice_index_or old k 0)
      → HasSet p No [] (transition_bytes_of p.built (Some [])) led new → HasFilled p No [] old new
  start-led t start to len old led new empty stopped row target classes long past leads beside set =
      start-filled (cond t None (Some [])) old led new (start-misses t stopped) long past
      (λ k outside. beside k (elim outside [ inl before ↦ inl (omega arith) | inr after ↦ inr (omega arith) ]))
      (λ b byte. leads (row_at p No (Some []) + class_at f.classes b) (omega arith)
      (let below = h.may.below b byte in omega arith)
      ∙ target ∙ ap (λ n. if t then 0 else n) row ∙ default_target-row t)
      set

  -- an inner row is filled once that of the failure target was copied and its own transitions are set
  pub inner-filled : (from to len : ℕ) (old copied new : List ℕ) → w ≢ []
      → IsFilled p No (failure f.trie.built.kind (plain_of f.trie.built) w) old
      → from ≡ row_at p No (failure f.trie.built.kind (plain_of f.trie.built) w) → to ≡ row_at p No (Some w)
      → len ≡ alphabet_len f.classes → length copied ≡ length old → EndsDead p No (Some w) old
      → CopiedTo old copied from to len → SameBelow old copied to → SameFrom old copied (to + len)
      → HasSet p No w (transition_bytes_of p.built (Some w)) copied new → HasFilled p No w old new
  inner-filled from to len old copied new some earlier target row classes long past copies below above set = record {
    same_length = set.same_length ∙ long;
    beside = beside-row (row_at p No (Some w)) old new
        (beside-both p (row_at p No (Some w)) (alphabet_len f.classes) old copied new outside set.beside);
    filled = filled-longer p w old copied new some earlier copied-entry past-copied set;
  }
    where
      outside : SameBeside (row_at p No (Some w)) (alphabet_len f.classes) old copied
      outside k (inl before) = below k 0 (omega arith)
      outside k (inr anchored_shift) = above k 0 (omega arith)

      past-copied : EndsDead p No (Some w) copied
      past-copied k from_class to_end = outside (row_at p No (Some w) + k) (inr (omega arith)) ∙ past k from_class to_end

      copied-entry : (b : ℕ) → b < 256 → entry p.classes copied (row_at p No (Some w)) b
          ≡ entry p.classes old (row_at p No (failure p.built.kind (plain_of p.built) w)) b
      copied-entry b byte =
          let below = h.may.below b byte in
          copies (row_at p No (Some w) + class_at p.classes b) 0 (omega arith) (omega arith)
          ∙ ap (λ (k : ℕ). slice_index_or old k 0) (omega arith)
