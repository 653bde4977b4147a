-- What `ac_raw_replace` returns and writes.
use Rattle.std.specs.Prelude.{◌≡◌, ◌≢◌, MatchResult, Result, ◌<◌, ◌≤◌, ◌⊎◌, ◌++◌, ◌&&◌, ◌==◌, ℕ, ℤ, List, drop, length}
use Rattle.std.specs.declared.vec.Vec.{Vec}
use Rattle.ac_search.specs.Built.{exchanged, replace_refusal}
use Rattle.ac_search.specs.Replacement.{replaced}
use Rattle.ac_search.specs.Searchers.{Searcher}
use Rattle.ac_c.specs.declared.status.TheConstants.{MEMORY, OK}
use Rattle.ac_c.specs.Statuses.{status_unless}
use Rattle.ac_c.specs.Texts.{are_ends, texts_in}

-- the haystack with each match of its walk replaced by the text of its pattern
abbrev pub replaced_by : Searcher → List ℕ → List ℕ → List ℕ → List ℕ
replaced_by searcher haystack bytes ends =
    replaced haystack (texts_in bytes 0 ends) (exchanged searcher.built haystack)

-- what is returned where there is memory: ARGUMENTS where these are no ends, or aren't as many as the patterns
abbrev pub replace_status : Searcher → List ℕ → List ℕ → ℤ
replace_status searcher bytes ends =
    status_unless (are_ends (length bytes) 0 ends && (length ends == length searcher.built.patterns))
    (replace_refusal searcher.built) OK

-- a call returns the status that is expected, or MEMORY in place of OK
abbrev pub IsOkOrMemory : ℤ → ℤ → Type 0
IsOkOrMemory expected status = (status ≡ expected) ⊎ ((expected ≡ OK) × (status ≡ MEMORY))

-- `needed` is the length of the whole. Where that fits the whole stands at the beginning of `out`; nothing else changes
pub record Puts (whole : List ℕ) (out new_out : List ℕ) (needed : ℕ) : Type 0 where
  pub needs : needed ≡ length whole
  pub fits : needed ≤ length out → new_out ≡ whole ++ drop needed out
  pub stays : length out < needed → new_out ≡ out

-- what is replaced in the haystack is written so
abbrev pub Replaces : Searcher → List ℕ → List ℕ → List ℕ → List ℕ → List ℕ → ℕ → Type 0
Replaces searcher haystack bytes ends = Puts (replaced_by searcher haystack bytes ends)

-- the whole is returned where nothing refuses it, and else the status
abbrev pub AnswersReplaced : {Z : Type 0} → Searcher → List ℕ → List ℕ → List ℕ → Result (Vec ℕ Z) ℤ → Type 0
AnswersReplaced searcher haystack bytes ends result =
    MatchResult result
    (λ whole. (replace_status searcher bytes ends ≡ OK) × (whole.items ≡ replaced_by searcher haystack bytes ends))
    (λ status. (status ≢ OK) × IsOkOrMemory (replace_status searcher bytes ends) status)
