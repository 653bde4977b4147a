-- The rows of a DFA, filled one after another.
use Rattle.ac_util.proofs.Prelude.{◌≡◌, ◌≢◌, inl, inr, ℕ, ◌+◌, ◌<◌, ◌≤◌, List, length, slice_index_or, refl, ◌∙◌, arith, Some, None, slice_get, rules, cases_lt, slice_get_within, common_steps}
use Rattle.ac_engines.specs.Prelude.{Both, No, Node, start_refusal, StartKind, Unanchored, Yes, FilledUpTo, Filling, HasFilled, HasRow, IsFilled, MayFill, MayFillRow, row_at, SameBeside, RowInput, row_input, width}
use Rattle.ac_util.specs.declared.search.Anchored.{Anchored}
use Rattle.ac_util.specs.declared.search.StartKind.TheVariants.{Anchored as AnchoredAlone}
use Rattle.ac_engines.proofs.Filled.{filled-beside}
use Rattle.ac_engines.proofs.Numbered.{place-row}
use Rattle.ac_engines.proofs.Owning.{anchored_shift-most}
use Rattle.ac_engines.proofs.OneRow.{beside-both}
use Rattle.ac_engines.proofs.StateRows.{has-row, narrow, row-anchored_shift, rows-apart}

module _ (f : Filling) (nodes : List Node) (size s : ℕ) (w : List ℕ) (h : HasRow f nodes size s w) where
  -- the sheet of the table
  abbrev p : RowInput
  p = row_input f nodes

  -- where the rows of this state are filled and nothing else, those of all up to it are
  pub filled-on : (old new : List ℕ) → FilledUpTo f nodes size s old → length new ≡ length old
      → SameBeside (slice_index_or f.numbers s 0) (width p) old new
      → ((anchored : Anchored) → start_refusal f.start_kind anchored ≡ None → IsFilled p anchored (Some w) new)
      → FilledUpTo f nodes size (s + 1) new
  filled-on old new up long beside rows = record {
    long = long ∙ up.long;
    dead = λ k inside.
        beside k (inl (let first = row-anchored_shift f nodes size h.may s h.place there in omega arith)) ∙ up.dead k inside;
    filled = λ t u before other named anchored supported. elim (cases_lt t s) [
      | inl earlier ↦ kept t u earlier other named anchored (up.filled t u earlier other named anchored supported)
      | inr now ↦ last t u (omega arith) named anchored (rows anchored supported)
    ];
    blank = λ t k later other within from to. blank-still t k later other within from to;
  }
    where
      there : s < length f.numbers
      there = let within = slice_get_within nodes s (Some w) h.named in let count = h.may.laid.count in omega arith

      last : (t : ℕ) (u : Node) → t ≡ s → slice_get nodes t ≡ Some u → (anchored : Anchored)
          → IsFilled p anchored (Some w) new → IsFilled p anchored u new
      last t u same named anchored filled =
          let node : u ≡ Some w = let there_is = h.named in cc in rw node filled

      kept : (t : ℕ) (u : Node) → t < s → t ≢ 3 → slice_get nodes t ≡ Some u → (anchored : Anchored)
          → IsFilled p anchored u old → IsFilled p anchored u new
      kept t None earlier other named anchored filled =
          search (rules, filled-beside, narrow, row-anchored_shift, there)
      kept t (Some v) earlier other named anchored filled =
          let row = has-row f nodes size h.may t v named other in
          let place = place-row f nodes size t v row in
          let most = anchored_shift-most f.start_kind anchored f.stride in
          let inner : 4 ≤ s = elim h.place [
            | inl start ↦ elim row.place [ inl first ↦ absurd (omega arith) | inr after ↦ absurd (omega arith) ]
            | inr after ↦ after
          ] in
          filled-beside p (narrow f nodes size h.may) anchored (Some v) (slice_index_or f.numbers s 0) (width p) old new
          (elim (rows-apart f nodes size h.may t s row.place inner earlier there) [
            | inl before ↦ inl (omega arith)
            | inr after ↦ inr (omega arith)
          ]) beside filled

      blank-still : (t k : ℕ) → s + 1 ≤ t → t ≢ 3 → t < length nodes → slice_index_or f.numbers t 0 ≤ k
          → k < slice_index_or f.numbers t 0 + width p → slice_index_or new k 0 ≡ 0
      blank-still t k later other within from to =
          let inner : 4 ≤ t = elim h.place [
            | inl start ↦ omega arith
            | inr after ↦ omega arith
          ] in
          let numbered : t < length f.numbers = rw h.may.laid.count within in
          beside k (elim (rows-apart f nodes size h.may s t h.place inner (omega arith) numbered) [
            | inl before ↦ inr (omega arith)
            | inr after ↦ inl (omega arith)
          ])
          ∙ up.blank t k (omega arith) other within from to

  -- the row of a state may be filled once those before it are
  pub may-row : (anchored : Anchored) (old : List ℕ) → start_refusal f.start_kind anchored ≡ None
      → FilledUpTo f nodes size s old → MayFillRow f nodes size s w anchored old
  may-row anchored old supported up = search (rules, place-row f nodes size s w h, slice_get_within)

  -- what was changed in a row was changed in the rows of the state
  row-beside : (anchored : Anchored) (old new : List ℕ) → SameBeside (row_at p anchored (Some w)) f.stride old new
      → SameBeside (slice_index_or f.numbers s 0) (width p) old new
  row-beside anchored old new beside k outside = search (rules, place-row f nodes size s w h)

  -- with the only row of a state filled
  pub one-filled : (anchored : Anchored) (old new : List ℕ)
      → ((other : Anchored) → start_refusal f.start_kind other ≡ None → other ≡ anchored)
      → FilledUpTo f nodes size s old → HasFilled p anchored w old new → FilledUpTo f nodes size (s + 1) new
  one-filled anchored old new only up filled =
      filled-on old new up filled.same_length (row-beside anchored old new filled.beside)
      (λ other supported. rw (only other supported) filled.filled)

  -- where there are both starts the anchored row stands after the unanchored one
  both-rows : f.start_kind ≡ Both → row_at p Yes (Some w) ≡ row_at p No (Some w) + f.stride
  both-rows both = grind (arith, common_steps)

  -- and is still empty when that is filled
  pub second-row : (old between : List ℕ) → f.start_kind ≡ Both → MayFillRow f nodes size s w Yes old
      → HasFilled p No w old between → MayFillRow f nodes size s w Yes between
  second-row old between both m first = grind (arith, common_steps)

  -- with both rows filled
  pub both-filled : (old between new : List ℕ) → f.start_kind ≡ Both → FilledUpTo f nodes size s old
      → HasFilled p No w old between → HasFilled p Yes w between new → FilledUpTo f nodes size (s + 1) new
  both-filled old between new both up first second =
      filled-on old new up (second.same_length ∙ first.same_length)
      (beside-both p (slice_index_or f.numbers s 0) (width p) old between new (row-beside No old between first.beside)
      (row-beside Yes between new second.beside)) each
    where
      each : (anchored : Anchored) → start_refusal f.start_kind anchored ≡ None → IsFilled p anchored (Some w) new
      each Yes supported = second.filled
      each No supported = search (rules, both-rows, filled-beside, narrow)

-- a DFA for one start has rows for its searches alone
pub only-unanchored : (kind : StartKind) → kind ≡ Unanchored → (other : Anchored) → start_refusal kind other ≡ None
    → other ≡ No
only-unanchored kind is No supported = refl
only-unanchored kind is Yes supported = let refused = rw is at supported in absurd cc

pub only-anchored : (kind : StartKind) → kind ≡ AnchoredAlone → (other : Anchored) → start_refusal kind other ≡ None
    → other ≡ Yes
only-anchored kind is Yes supported = refl
only-anchored kind is No supported = let refused = rw is at supported in absurd cc

module _ (f : Filling) (nodes : List Node) (size : ℕ) (may : MayFill f nodes size) where
  -- a DFA with nothing but dead entries has the rows of the first two states filled
  pub filled-none : (entries : List ℕ) → length entries ≡ size → ((k : ℕ) → slice_index_or entries k 0 ≡ 0)
      → FilledUpTo f nodes size 2 entries
  filled-none entries long blank = grind (arith, common_steps)

  -- the start of anchored searches has no row of its own
  pub filled-third : (entries : List ℕ) → FilledUpTo f nodes size 3 entries → FilledUpTo f nodes size 4 entries
  filled-third entries up = search rules
