-- A search of a text in pieces: what one call of its `next` gives, and what a loop over these has written.
use Rattle.ac_util.proofs.Prelude.{◌≡◌, ℕ, ◌+◌, List, [], ◌∷◌, ◌++◌, drop, take, map, length, length-append, nil_from_length, refl, sym, ap, ◌∙◌, subst, Option, None, Some, append-nil, arith, slice_get, take_all, take_more, get_or_from_slice_get, slice_get_within}
use Rattle.std.proofs.lemmas.Option.{none-some}
use Rattle.ac_search.specs.Occurrence.{Occurrence}
use Rattle.ac_search.specs.OverlappingPieces.{ListsTaken, PieceListing, listed_taken}
use Rattle.ac_search.specs.Pieces.{TakesOn}
use Rattle.ac_search.specs.Stream.{stream_result}
use Rattle.ac_search.specs.Streams.{Streaming}
use Rattle.ac_c.specs.declared.search.FoundMatch.{FoundMatch}
use Rattle.ac_c.specs.declared.stream.search.PieceSearch.{PieceSearch}
use Rattle.ac_c.specs.declared.stream.search.PieceSearch.TheVariants.{Listing, Walk}
use Rattle.ac_c.specs.Searches.{match_of}
use Rattle.ac_c.specs.Streams.{Feeding, HasMovedOn, IsAllWritten, TakesNext, bytes_of_search, ended_search, matches_taken, count_given, matches_given}

-- one element more of the first ones
take-next : {X : Type 0} (xs : List X) (n : ℕ) (x : X) → slice_get xs n ≡ Some x → take (n + 1) xs ≡ take n xs ++ x ∷ []
take-next xs n x e =
    take_more xs n x (slice_get_within xs n x e) ∙ ap (λ (y : _). take n xs ++ y ∷ []) (get_or_from_slice_get xs n x x e)

module _ (v : Streaming) (piece left : List ℕ) where
  -- a walk over pieces takes and gives what its library says
  pub takes-walk : (found : Option Occurrence) (w : Streaming) → TakesOn v piece found w left → TakesNext (Walk v) piece found (Walk w) left
  takes-walk None w t =
      let same = t.gives.same in
      record {
        same = subst (λ (x : Streaming). HasMovedOn (Walk v) (Walk x)) (sym same) refl;
        taken = t.taken;
        parted = t.parted;
        bytes = ap (λ (x : Streaming). x.bytes) same;
        gives = ap (λ (x : Streaming). matches_given (Walk x)) same ∙ t.kept ∙ sym (append-nil _);
        counted = ap (λ (x : Streaming). x.given) same ∙ (let e : v.given ≡ v.given + 0 = omega arith in e);
        settled = λ _. subst (λ (x : Streaming). IsAllWritten (Walk x)) (sym same) t.gives.all;
        whole = λ _ open'. t.whole refl open';
      }
  takes-walk (Some m) w t =
      let same = t.gives.same in
      record {
        same = subst (λ (x : Streaming). HasMovedOn (Walk v) (Walk x)) (sym same) refl;
        taken = t.taken;
        parted = t.parted;
        bytes = ap (λ (x : Streaming). x.bytes) same;
        gives = ap (λ (x : Streaming). matches_given (Walk x)) same
            ∙ take-next (stream_result v.built (v.bytes ++ t.taken)) v.given m t.gives.next
            ∙ ap (λ (ms : List Occurrence). ms ++ m ∷ []) t.kept;
        counted = ap (λ (x : Streaming). x.given) same;
        settled = λ e. absurd (none-some m (sym e));
        whole = λ e. absurd (none-some m (sym e));
      }

module _ (v : PieceListing) (piece left : List ℕ) where
  -- and so does a listing
  pub takes-listing : (found : Option Occurrence) (w : PieceListing) → ListsTaken v piece found w left
      → TakesNext (Listing v) piece found (Listing w) left
  takes-listing None w t =
      let same = t.gives.same in
      record {
        same = subst (λ (x : PieceListing). HasMovedOn (Listing v) (Listing x)) (sym same) refl;
        taken = t.taken;
        parted = t.parted;
        bytes = ap (λ (x : PieceListing). x.bytes) same;
        gives = ap (λ (x : PieceListing). matches_given (Listing x)) same ∙ t.kept ∙ sym (append-nil _);
        counted = ap (λ (x : PieceListing). x.given) same ∙ (let e : v.given ≡ v.given + 0 = omega arith in e);
        settled = λ _. subst (λ (x : PieceListing). IsAllWritten (Listing x)) (sym same) t.gives.all;
        whole = λ _ _. t.whole refl;
      }
  takes-listing (Some m) w t =
      let same = t.gives.same in
      record {
        same = subst (λ (x : PieceListing). HasMovedOn (Listing v) (Listing x)) (sym same) refl;
        taken = t.taken;
        parted = t.parted;
        bytes = ap (λ (x : PieceListing). x.bytes) same;
        gives = ap (λ (x : PieceListing). matches_given (Listing x)) same
            ∙ take-next (listed_taken (record v { bytes = v.bytes ++ t.taken })) v.given m t.gives.next
            ∙ ap (λ (ms : List Occurrence). ms ++ m ∷ []) t.kept;
        counted = ap (λ (x : PieceListing). x.given) same;
        settled = λ e. absurd (none-some m (sym e));
        whole = λ e. absurd (none-some m (sym e));
      }

-- a loop over `next` has written so many matches
pub record HasWritten (old : Feeding) (piece : List ℕ) (out new_out : List FoundMatch) (filled : ℕ) (new : Feeding) (left : List ℕ)
    : Type 0 where
  pub same : (new.ended ≡ old.ended) × HasMovedOn old.search new.search
  pub taken : List ℕ
  pub parted : piece ≡ taken ++ left
  pub bytes : bytes_of_search new.search ≡ bytes_of_search old.search ++ taken
  pub written : matches_given new.search ≡ matches_given old.search ++ map match_of (take filled new_out)
  pub counted : count_given new.search ≡ count_given old.search + filled
  pub kept : drop filled new_out ≡ drop filled out
  pub length' : length new_out ≡ length out

-- of nothing nothing is left
pub none-left : (taken left : List ℕ) → [] ≡ taken ++ left → left ≡ []
none-left taken left e =
    let l : 0 ≡ length taken + length left = ap length e ∙ length-append taken left in nil_from_length left (omega arith)

-- a search that has ended, and gave all that is settled, gave all
pub ended-gives-all : (s : PieceSearch) → IsAllWritten (ended_search s) → matches_given (ended_search s) ≡ matches_taken (ended_search s)
ended-gives-all (Walk v) all = take_all v.given (stream_result v.built v.bytes) (let e = all.settled.0 in omega arith)
ended-gives-all (Listing v) all = take_all v.given (listed_taken v) (let e = all in omega arith)
