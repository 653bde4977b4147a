-- What calls of an automaton answer.
use Rattle.std.specs.Prelude.{◌≡◌, ℕ, Bool, List, None, Option, Result, MatchResult, Some, String, string_bytes, ⊤}
use Rattle.std.specs.Borrow.{Bor, MutBor}
use Rattle.std.specs.Fn.{Mut}
use Rattle.std.specs.declared.io.Error.{Error}
use Rattle.std.specs.declared.vec.Vec.{Vec}
use Rattle.ac_util.specs.declared.error.ReplaceError.TheVariants.{Memory}
use Rattle.ac_util.specs.declared.search.Anchored.{Anchored}
use Rattle.ac_automaton.specs.Util.{AnswersStream, AnswersUnless, AnswersWhole, Built, FailsToReplace, FailsToReplaceWith, Reading, ReplacesStream, ReplacesStreamWith, Writing, exchanged, exchanged_in_text, InputView, IsStreamRefused, find_refusal, find_result, MakesSteps, MatchError, Occurrence, overlapping_iter_refusal, overlapping_refusal, replace_refusal, replaced, ReplaceError, search_in, start_refusal, StepsLead, stream_refusal, StreamError}
use Rattle.ac_automaton.specs.declared.automaton.overlap.OverlappingState.{OverlappingState}
use Rattle.ac_automaton.specs.Automata.{AutomatonView}
use Rattle.ac_automaton.specs.Iterators.{Walking, initial_walk}
use Rattle.ac_automaton.specs.Overlaps.{GivesNext, IsPlaced, Overlapping, initial_listing}

-- something that begins at a start is answered, or there is no such start
abbrev pub BeginsBy : {X : Type 0} → AutomatonView → Anchored → (X → Type 0) → Result X MatchError → Type 0
BeginsBy a anchored Begun result =
    MatchResult result (λ x. (start_refusal a.built.start_kind anchored ≡ None) × Begun x)
    (λ e. start_refusal a.built.start_kind anchored ≡ Some e)

-- what a find answers
abbrev pub AnswersFind : Built → InputView → Result (Option Occurrence) MatchError → Type 0
AnswersFind built input result = AnswersUnless (find_refusal built input) (find_result built input) result

-- what a walk begins with
abbrev pub AnswersWalk : AutomatonView → InputView → Result Walking MatchError → Type 0
AnswersWalk a input result =
    AnswersUnless (find_refusal a.built input) (initial_walk a.most a.built a.wants_prefilter input) result

-- what an iterator over the listing begins with
abbrev pub AnswersListing : AutomatonView → InputView → Result Overlapping MatchError → Type 0
AnswersListing a input result =
    AnswersUnless (overlapping_iter_refusal a.built input) (initial_listing a.most a.built a.wants_prefilter input) result

-- a state may be handed to an overlapping search of an input by an automaton
abbrev pub IsPlacedIn : AutomatonView → InputView → OverlappingState → Type 0
IsPlacedIn a input state = IsPlaced (a.stands input.anchored) a.listed a.built.kind (search_in a.built input) state

-- an overlapping search has given the next item, or none past the last; or it is refused, and the state is as it was
abbrev pub FindsNext : AutomatonView → InputView → OverlappingState → Result (Unit {0}) MatchError → OverlappingState → Type 0
FindsNext a input state result new_state =
    MatchResult result
    (λ done. (overlapping_refusal a.built input ≡ None)
    × GivesNext (a.stands input.anchored) a.listed a.built.kind (search_in a.built input) state new_state)
    (λ e. (overlapping_refusal a.built input ≡ Some e) × (new_state ≡ state))

abbrev pub IsReplacedText : {Z : Type 0} → Built → List ℕ → List (List ℕ) → String Z → Type 0
IsReplacedText built haystack texts whole = string_bytes whole ≡ replaced haystack texts (exchanged_in_text built haystack)

-- that is what a replacement by a list answers
abbrev pub AnswersBytes : {Z : Type 0} → Built → List ℕ → List (List ℕ) → Result (Vec ℕ Z) ReplaceError → Type 0
AnswersBytes built haystack texts result =
    AnswersWhole (replace_refusal built)
    (λ whole. whole.items ≡ replaced haystack texts (exchanged built haystack)) result

abbrev pub AnswersText : {Z : Type 0} → Built → List ℕ → List (List ℕ) → Result (String Z) ReplaceError → Type 0
AnswersText built haystack texts result =
    AnswersWhole (replace_refusal built) (IsReplacedText built haystack texts) result

-- closures of a type that are called with a match, its slice and a destination, and answer
abbrev pub Calling : Type 0 → Type 0 → Type 0 → Type 1
Calling F D A = Mut F (Bor Occurrence × (Bor (List ℕ) × (MutBor D × Unit {0}))) (A × (MutBor D × Unit {0}))

-- a replacement by a closure makes the steps that exchange these matches, and changes nothing where it is refused
abbrev pub MakesStepsBy : {F D : Type 0} → Calling F D Bool → (D → List ℕ) → (Built → List ℕ → List Occurrence) → Built
    → List ℕ → F → D → D → Result (Unit {0}) ReplaceError → Type 0
MakesStepsBy closures holds chosen built haystack closure old new result =
    MakesSteps (replace_refusal built)
    (λ end. StepsLead closures holds haystack (chosen built haystack) closure old end new) (new ≡ old) result

-- a stream is searched from its beginning, or that is refused
abbrev pub BeginsStream : {X : Type 0} → Built → (X → Type 0) → Result X StreamError → Type 0
BeginsStream built Begun result =
    MatchResult result (λ x. (stream_refusal built ≡ None) × Begun x) (IsStreamRefused (stream_refusal built) ⊤)

-- a replacement of these matches by a closure makes all of its steps, or those up to an append that was refused
abbrev pub StepsOver : {F D E : Type 0} → Calling F D Bool → (D → List ℕ) → List ℕ → List Occurrence → F → D → D
    → Result (Unit {0}) E → Type 0
StepsOver closures holds haystack ms closure old new result =
    MatchResult result (λ done. StepsLead closures holds haystack ms closure old None new)
    (λ e. StepsLead closures holds haystack ms closure old (Some Memory) new)

-- such a replacement of the matches that are chosen
abbrev pub StepsBy : {F D E : Type 0} → Calling F D Bool → (D → List ℕ) → (Built → List ℕ → List Occurrence) → Built → List ℕ
    → F → D → D → Result (Unit {0}) E → Type 0
StepsBy closures holds chosen built haystack = StepsOver closures holds haystack (chosen built haystack)

-- the same in bytes
module _ {F Z : Type 0} (closures : Calling F (Vec ℕ Z) Bool) where
  abbrev pub ExchangesBytes : Built → List ℕ → F → Vec ℕ Z → Vec ℕ Z → Result (Unit {0}) ReplaceError → Type 0
  ExchangesBytes = MakesStepsBy closures (λ d. d.items) exchanged

-- and in a text, of which no match is exchanged that cuts a character
module _ {F Z : Type 0} (closures : Calling F (String Z) Bool) where
  abbrev pub ExchangesText : Built → List ℕ → F → String Z → String Z → Result (Unit {0}) ReplaceError → Type 0
  ExchangesText = MakesStepsBy closures string_bytes exchanged_in_text

-- what is seen of a reader and of a writer, and what is replaced between them
module _ {R W : Type 0} (ends : Bool) (reads : R → Reading) (writes : W → Writing) where
  -- the matches of a stream are exchanged for texts; or that is refused, and nothing changes; or it ends early
  abbrev pub ExchangesStream : Built → List (List ℕ) → R → W → R → W → Result (Unit {0}) StreamError → Type 0
  ExchangesStream built texts reader writer new_reader new_writer result =
      AnswersStream (stream_refusal built) ((new_reader ≡ reader) × (new_writer ≡ writer))
      (ReplacesStream built texts (writes writer) (writes new_writer) ends (reads reader) (reads new_reader))
      (FailsToReplace built texts (writes writer) (writes new_writer) ends (reads reader) (reads new_reader)) result

  -- the same by a closure, which writes what stands for each match
  abbrev pub ExchangesStreamBy : {F : Type 0} → Calling F W (Result (Unit {0}) Error) → Built → F → R → W → R → W
      → Result (Unit {0}) StreamError → Type 0
  ExchangesStreamBy closures built closure reader writer new_reader new_writer result =
      AnswersStream (stream_refusal built) ((new_reader ≡ reader) × (new_writer ≡ writer))
      (ReplacesStreamWith writes closures built closure writer ends (reads reader) (reads new_reader) new_writer)
      (FailsToReplaceWith writes closures built closure writer ends (reads reader) (reads new_reader) new_writer) result
