-- A batch of the listing that is made again from a later start gives what was due of the whole one.
use Rattle.ac_util.proofs.Prelude.{◌≡◌, ℕ, ◌+◌, ◌-◌, ◌<◌, ◌≤◌, List, ◌++◌, drop, length, map, max, take, sym, ap, ◌∙◌, arith}
use Rattle.ac_search.specs.Occurrence.{Occurrence, Search, from}
use Rattle.ac_search.specs.Patterns.{longest_len}
use Rattle.ac_search.specs.declared.Anchored.TheVariants.{No}
use Rattle.ac_c.specs.declared.search.Cursor.{Cursor}
use Rattle.ac_c.specs.declared.search.FoundMatch.{FoundMatch}
use Rattle.ac_c.specs.Batches.{Gives, listing_from}
use Rattle.ac_c.specs.Searches.{match_of, past}
use Rattle.ac_c.proofs.LateListings.{listing-later}
use Rattle.ac_c.proofs.ListingStarts.{listed-past, starts-late}

-- so many as were given at a cursor were passed over in the listing of a search
abbrev pub Passes : Search → Cursor → Cursor → Type 0
Passes p cursor passed =
    listing_from p passed ≡ drop cursor.given (listing_from p (record { at = cursor.at; given = 0 }))

-- how far a batch has come, once all items before the cursor were passed over, and what was due was written
pub record IsBatch (q : Search) (start : ℕ) (cursor passed here : Cursor) (out new_out : List FoundMatch) (filled : ℕ)
    : Type 0 where
  pub free : q.anchored ≡ No
  pub low : q.low ≤ start
  pub near : start ≤ max (cursor.at - longest_len q.patterns) q.low
  pub onward : cursor.at ≤ passed.at
  pub further : passed.at ≤ here.at
  pub passes : Passes (from q start) cursor passed
  pub gives : Gives (listing_from (from q start)) passed here out new_out filled

module _ (q : Search) (start : ℕ) (cursor passed here : Cursor) (out new_out : List FoundMatch) (filled : ℕ)
    (batch : IsBatch q start cursor passed here out new_out filled) where
  -- from a cursor that is no earlier, the listing is that of the whole span
  same-from : (other : Cursor) → cursor.at ≤ other.at → listing_from (from q start) other ≡ listing_from q other
  same-from other later =
      ap (drop other.given) (listing-later q other.at start batch.free batch.low
      (starts-late q other.at start (let near = batch.near in omega arith)))

  -- what was due before is what the batch began with
  began : listing_from (from q start) passed ≡ listing_from q cursor
  began = batch.passes ∙ same-from cursor (omega arith)

  -- what was written, and then these
  abbrev written : List Occurrence → List Occurrence
  written ms = map match_of (take filled new_out) ++ ms

  -- a batch that was filled
  pub batch-filled : Gives (listing_from q) cursor here out new_out filled
  batch-filled =
      let same = same-from here (let a = batch.onward in let b = batch.further in omega arith) in record {
        given = ap written (sym same) ∙ batch.gives.given ∙ began;
        kept = batch.gives.kept;
        fits = batch.gives.fits;
        ends = λ short. sym same ∙ batch.gives.ends short;
      }

  -- a batch that wasn't leaves nothing due, and the cursor past the haystack
  pub batch-ended : (haystack : List ℕ) → q.high ≤ length haystack → filled < length out
      → Gives (listing_from q) cursor (past haystack) out new_out filled
  batch-ended haystack within short =
      let nothing = listed-past q (length haystack + 1) 0 (omega arith) in record {
        given = ap written (nothing ∙ sym (batch.gives.ends short)) ∙ batch.gives.given ∙ began;
        kept = batch.gives.kept;
        fits = batch.gives.fits;
        ends = λ _. nothing;
      }
