-- What the replacement of a stream leaves of its writer, by the stream alone.
use Rattle.ac_util.proofs.Prelude.{◌≡◌, ℕ, Bool, List, inl, inr, subst, sym, Option, Result, Ok, Err, length, map}
use Rattle.ac_search.specs.Prelude.{Calls, IsStreamRefused, MatchError, Reading, stream_refusal, StreamError, Writing, Calling, AlwaysWritesOut, by_length, ExchangesBeginning, text_of, Io, Match, Memory, TooLong, WriteZero, ClosuresWrite, ListsWrite}
use Rattle.std.specs.declared.io.Error.{Error}
use Rattle.ac_automaton.specs.Util.{Built, Occurrence}
use Rattle.ac_util.proofs.StreamExchanges.{all-alike, beginning-alike, by_length-same, closure-begun, closure-whole, texts-begun, texts-whole, unchanged-begins}

-- a call that is refused has changed nothing
refused-unchanged : (refusal : Option MatchError) (unchanged : Type 0) (e : StreamError) → IsStreamRefused refusal unchanged e
    → unchanged
refused-unchanged refusal unchanged (Match m) refused = refused.1
refused-unchanged refusal unchanged Memory refused = refused.1
refused-unchanged refusal unchanged (Io e) refused = absurd refused
refused-unchanged refusal unchanged WriteZero refused = absurd refused
refused-unchanged refusal unchanged TooLong refused = absurd refused

module _ {R W : Type 0} (ends : Bool) (reads : R → Reading) (writes : W → Writing) where
  -- what was read and written is as it was
  same-begins : (built : Built) (write : Occurrence → List ℕ → List ℕ) (reader new_reader : R) (writer new_writer : W)
      → (new_reader ≡ reader) × (new_writer ≡ writer)
      → ExchangesBeginning built write ends (reads reader) (reads new_reader) (writes writer) (writes new_writer)
  same-begins built write reader new_reader writer new_writer same =
      subst (λ (r : R). ExchangesBeginning built write ends (reads reader) (reads r) (writes writer) (writes new_writer))
      (sym same.0)
      (subst (λ (w : W). ExchangesBeginning built write ends (reads reader) (reads reader) (writes writer) (writes w))
      (sym same.1) (unchanged-begins built write ends (reads reader) (writes writer)))

  -- by a list of texts
  pub lists-write : (built : Built) (texts : List (List ℕ)) → ListsWrite ends reads writes built texts (text_of texts)
  lists-write built texts reader new_reader writer new_writer (Ok done) (served, h) =
      texts-whole built texts ends (reads reader) (reads new_reader) (writes writer) (writes new_writer) h
  lists-write built texts reader new_reader writer new_writer (Err e) (inl refused) =
      same-begins built (text_of texts) reader new_reader writer new_writer
      (refused-unchanged (stream_refusal built) ((new_reader ≡ reader) × (new_writer ≡ writer)) e refused)
  lists-write built texts reader new_reader writer new_writer (Err e) (inr (served, fails)) =
      texts-begun built texts ends (reads reader) (reads new_reader) (writes writer) (writes new_writer) e served fails

  -- where each text is what f gives for the length of its pattern
  pub lists-by_length : (built : Built) (texts : List (List ℕ)) (f : ℕ → List ℕ)
      → texts ≡ map (λ p. f (length p)) built.patterns → ListsWrite ends reads writes built texts (by_length f)
  lists-by_length built texts f are reader new_reader writer new_writer (Ok done) h =
      all-alike built (text_of texts) (by_length f) (by_length-same built texts f are) ends (reads reader) (reads new_reader)
      (writes writer) (writes new_writer) (lists-write built texts reader new_reader writer new_writer (Ok done) h)
  lists-by_length built texts f are reader new_reader writer new_writer (Err e) h =
      beginning-alike built (text_of texts) (by_length f) (by_length-same built texts f are) ends (reads reader)
      (reads new_reader) (writes writer) (writes new_writer)
      (lists-write built texts reader new_reader writer new_writer (Err e) h)

  -- by a closure whose calls write what `write` gives
  pub closures-write : {F : Type 0} (closures : Calling F W (Result (Unit {0}) Error)) (built : Built)
      (write : Occurrence → List ℕ → List ℕ) → AlwaysWritesOut (Calls closures) writes write
      → ClosuresWrite ends reads writes closures built write
  closures-write closures built write out closure reader new_reader writer new_writer (Ok done) (served, h) =
      closure-whole writes closures built write ends (reads reader) (reads new_reader) closure writer new_writer out h
  closures-write closures built write out closure reader new_reader writer new_writer (Err e) (inl refused) =
      same-begins built write reader new_reader writer new_writer
      (refused-unchanged (stream_refusal built) ((new_reader ≡ reader) × (new_writer ≡ writer)) e refused)
  closures-write closures built write out closure reader new_reader writer new_writer (Err e) (inr (served, fails)) =
      closure-begun writes closures built write ends (reads reader) (reads new_reader) closure writer new_writer e out served fails
