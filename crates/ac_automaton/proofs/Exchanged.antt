-- A replacement by texts, match by match: what was written, and what stands from there on with the matches that are
-- left exchanged, is the whole.
use Rattle.ac_util.proofs.Prelude.{◌≡◌, ◌<◌, [], ◌∷◌, ◌++◌, ℕ, List, Option, None, Result, Ok, Err, IsErrAnd, arith, drop, get_or, length, slice_range, Bor, common_steps}
use Rattle.ac_automaton.specs.Prelude.{AnswersWhole, bytes_of, MatchError, Occurrence, replaced_from, ReplaceError, Memory}

-- and so it is once the gap before the next match and the text of its pattern were written
pub turned : (haystack : List ℕ) (texts : List (Bor (List ℕ))) (place start number end : ℕ) (m : Occurrence)
    (ms was : List Occurrence) (t : Bor (List ℕ)) (before gapped after whole : List ℕ) → was ≡ m ∷ ms
    → before ++ replaced_from haystack (bytes_of texts) place was ≡ whole → m.pattern < length texts
    → start ≡ m.start → number ≡ m.pattern → end ≡ m.end
    → gapped ≡ before ++ slice_range haystack place start → after ≡ gapped ++ (get_or texts number t).now
    → after ++ replaced_from haystack (bytes_of texts) end ms ≡ whole
turned haystack texts place start number end m ms was t before gapped after whole given so_far known s n e gap text =
    grind (arith, common_steps)

-- and once what follows the last match was written, that is the whole
pub ended : (haystack : List ℕ) (texts : List (Bor (List ℕ))) (place : ℕ) (was : List Occurrence)
    (before after rest whole : List ℕ) → was ≡ [] → before ++ replaced_from haystack (bytes_of texts) place was ≡ whole
    → after ≡ before ++ rest → rest ≡ drop place haystack → after ≡ whole
ended haystack texts place was before after rest whole none so_far wrote is = grind (arith, common_steps)

-- where it isn't refused, and memory was, that is the answer
pub answers-by_memory : {A : Type 0} (refused : Option MatchError) (whole : A → Type 0) (result : Result A ReplaceError)
    → refused ≡ None → IsErrAnd result (λ e. e ≡ Memory) → AnswersWhole refused whole result
answers-by_memory refused whole (Ok a) none memory = absurd memory
answers-by_memory refused whole (Err e) none memory = grind (arith, common_steps)
