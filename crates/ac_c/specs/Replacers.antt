-- What the calls on a replacement in a text in pieces return and leave.
use Rattle.std.specs.Prelude.{◌≡◌, ◌≢◌, ℕ, ℤ, true, ◌&&◌, ◌==◌, ◌≤◌, List, [], drop, length, MatchResult, Option, None, Some, Result, if◌then◌else◌}
use Rattle.ac_search.specs.Built.{stream_refusal}
use Rattle.ac_search.specs.PieceReplacements.{HasBegunToReplace, PieceReplacing, TakesAndReplaces, is_closed}
use Rattle.ac_search.specs.Searchers.{Searcher}
use Rattle.ac_search.specs.declared.Phase.TheVariants.{Ended}
use Rattle.ac_c.specs.declared.handle.held.Held.{Held}
use Rattle.ac_c.specs.declared.status.TheConstants.{ARGUMENTS, OK}
use Rattle.ac_c.specs.Replaces.{IsOkOrMemory}
use Rattle.ac_c.specs.Statuses.{status_unless}
use Rattle.ac_c.specs.StreamCalls.{takes}
use Rattle.ac_c.specs.Texts.{are_ends, texts_in}

-- what is returned where one is begun by these texts and there is memory: ARGUMENTS where these are no ends, or aren't as many as the
-- patterns
abbrev pub replacer_status : Searcher → List ℕ → List ℕ → ℤ
replacer_status searcher bytes ends =
    status_unless (are_ends (length bytes) 0 ends && (length ends == length searcher.built.patterns)) (stream_refusal searcher.built) OK

-- one by these texts has begun
abbrev pub HasBegunBy : Searcher → List ℕ → List ℕ → PieceReplacing → Type 0
HasBegunBy searcher bytes ends = HasBegunToReplace searcher.built (texts_in bytes 0 ends)

-- this searcher is held with it
pub record HoldsReplacer (searcher : Searcher) (bytes ends : List ℕ) (h : Held) : Type 0 where
  pub searcher' : h.searcher ≡ searcher
  pub replacer : PieceReplacing
  pub is : h.replacer ≡ Some replacer
  pub begun : HasBegunBy searcher bytes ends replacer

-- one that has begun is returned where nothing refuses it, and else the status
abbrev pub AnswersReplacer : Searcher → List ℕ → List ℕ → Result PieceReplacing ℤ → Type 0
AnswersReplacer searcher bytes ends result =
    MatchResult result (λ v. (replacer_status searcher bytes ends ≡ OK) × HasBegunBy searcher bytes ends v)
    (λ status. (status ≢ OK) × IsOkOrMemory (replacer_status searcher bytes ends) status)

-- so is the searcher with it
abbrev pub AnswersHeldReplacer : Searcher → List ℕ → List ℕ → Result Held ℤ → Type 0
AnswersHeldReplacer searcher bytes ends result =
    MatchResult result (λ h. (replacer_status searcher bytes ends ≡ OK) × HoldsReplacer searcher bytes ends h)
    (λ status. (status ≢ OK) × IsOkOrMemory (replacer_status searcher bytes ends) status)

-- nothing refuses pieces; or the status says what does, or that more searches share the engine than usize counts
abbrev pub AllowsPieces : Searcher → Result (Unit {0}) ℤ → Type 0
AllowsPieces searcher result =
    MatchResult result (λ _. stream_refusal searcher.built ≡ None)
    (λ status. (status ≢ OK) × IsOkOrMemory (status_unless true (stream_refusal searcher.built) OK) status)

-- ARGUMENTS where there is none, or it was said that nothing follows and the piece isn't empty
abbrev pub replacer_feed_status : Option PieceReplacing → List ℕ → ℤ
replacer_feed_status None piece = ARGUMENTS
replacer_feed_status (Some v) piece = if takes (is_closed v.text.phase) piece then OK else ARGUMENTS

-- ARGUMENTS where there is none
abbrev pub replacer_end_status : Option PieceReplacing → ℤ
replacer_end_status None = ARGUMENTS
replacer_end_status (Some v) = OK

-- so many bytes of a piece were taken, and what follows of the replaced text was written
pub record FeedsReplacer (piece : List ℕ) (taken : ℕ) (out new_out : List ℕ) (filled : ℕ) (old new : PieceReplacing) : Type 0 where
  pub within : taken ≤ length piece
  pub writes : TakesAndReplaces old piece out new_out filled new (drop taken piece)

-- nothing follows, and what is left was written
abbrev pub EndsReplacer : List ℕ → List ℕ → ℕ → PieceReplacing → PieceReplacing → Type 0
EndsReplacer out new_out filled old new =
    TakesAndReplaces (record old { text = record old.text { phase = Ended } }) [] out new_out filled new []
