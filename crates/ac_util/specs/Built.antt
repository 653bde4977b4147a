-- What a searcher was built from, what it answers by that, and what it refuses.
use Rattle.std.specs.Prelude.{◌≡◌, Bool, true, Option, None, Some, List, [], ◌∷◌, Result, MatchResult, ℕ, ◌==◌, length, ◌+◌, ◌<◌, ◌≤◌, slice_range, ◌≢◌, All}
use Rattle.ac_util.specs.declared.search.MatchKind.{MatchKind}
use Rattle.ac_util.specs.declared.search.MatchKind.TheVariants.{Standard}
use Rattle.ac_util.specs.declared.search.StartKind.{StartKind}
use Rattle.ac_util.specs.declared.search.StartKind.TheVariants.{Both, Unanchored, Anchored as AnchoredAlone}
use Rattle.ac_util.specs.declared.search.Anchored.{Anchored}
use Rattle.ac_util.specs.declared.search.Anchored.TheVariants.{No, Yes}
use Rattle.ac_util.specs.declared.error.MatchError.{MatchError}
use Rattle.ac_util.specs.declared.error.MatchError.TheVariants.{InvalidInputAnchored, InvalidInputUnanchored, UnsupportedOverlapping, UnsupportedEmpty}
use Rattle.std.specs.List.{list_any}
use Rattle.ac_util.specs.Occurrence.{Occurrence, Search, IsSame, pattern_of}
use Rattle.ac_util.specs.Pick.{order_of, pick}
use Rattle.ac_util.specs.Walk.{walk}
use Rattle.ac_util.specs.Replacement.{whole_characters}
use Rattle.ac_util.specs.Input.{InputView, whole_input, search_for}
use Rattle.std.specs.Str.{IsCharBoundary, IsUtf8}

-- a call answers the value where nothing refuses it, and else why it is refused
abbrev pub AnswersUnless : {A : Type 0} → Option MatchError → A → Result A MatchError → Type 0
AnswersUnless refusal value result =
    MatchResult result (λ r. (refusal ≡ None) × (r ≡ value)) (λ e. refusal ≡ Some e)

-- the calls that differ in what they refuse: finds and walks, replacement, overlapping search by a state and by
-- an iterator, and streams. Replacement and streams have no anchored form
pub data Call : Type 0 where
  Find : Anchored → Call
  Replace : Call
  OverlappingByState : Anchored → Call
  OverlappingIterator : Anchored → Call
  Stream : Call

-- whether the call is anchored
abbrev pub anchoring : Call → Anchored
anchoring (Find anchored) = anchored
anchoring Replace = No
anchoring (OverlappingByState anchored) = anchored
anchoring (OverlappingIterator anchored) = anchored
anchoring Stream = No

-- the searcher lacks the start that the search begins at
abbrev pub start_refusal : StartKind → Anchored → Option MatchError
start_refusal Both anchored = None
start_refusal Unanchored No = None
start_refusal Unanchored Yes = Some InvalidInputAnchored
start_refusal AnchoredAlone No = Some InvalidInputUnanchored
start_refusal AnchoredAlone Yes = None

-- the match kind isn't Standard, which an overlapping search needs
abbrev pub kind_refusal : MatchKind → Call → Option MatchError
kind_refusal Standard call = None
kind_refusal kind (Find anchored) = None
kind_refusal kind Replace = None
kind_refusal kind (OverlappingByState anchored) = Some (UnsupportedOverlapping kind)
kind_refusal kind (OverlappingIterator anchored) = Some (UnsupportedOverlapping kind)
kind_refusal kind Stream = None

-- the search is anchored, and the overlapping iterator has no anchored form
abbrev pub form_refusal : Call → Option MatchError
form_refusal (OverlappingIterator Yes) = Some InvalidInputAnchored
form_refusal call = None

-- some pattern is empty, and a stream is searched for none such
abbrev pub empty_refusal : Call → Bool → Option MatchError
empty_refusal Stream true = Some UnsupportedEmpty
empty_refusal call has_empty = None

-- the first refusal of the list
abbrev pub first_refusal : List (Option MatchError) → Option MatchError
first_refusal [] = None
first_refusal (None ∷ later) = first_refusal later
first_refusal (Some e ∷ later) = Some e

-- why the call is refused, if it is: the tests come in this order. has_empty says whether some pattern is empty
abbrev pub refusal : StartKind → MatchKind → Call → Bool → Option MatchError
refusal start kind call has_empty =
    first_refusal (
    start_refusal start (anchoring call)
    ∷ kind_refusal kind call
    ∷ form_refusal call
    ∷ empty_refusal call has_empty
    ∷ [])

-- the patterns, whether case is ignored, the match kind, and which starts there are
pub record Built : Type 0 where
  pub patterns : List (List ℕ)
  pub ignores_case : Bool
  pub kind : MatchKind
  pub start_kind : StartKind

-- whether some pattern is empty
abbrev pub has_empty : Built → Bool
has_empty built = list_any (λ p. length p == 0) built.patterns

-- the search that an input asks for
abbrev pub search_in : Built → InputView → Search
search_in built input = search_for built.patterns built.ignores_case input

-- what a find answers
abbrev pub find_result : Built → InputView → Option Occurrence
find_result built input = pick (order_of built.kind input.earliest) (search_in built input)

-- which matches a walk gives
abbrev pub walk_result : Built → InputView → List Occurrence
walk_result built input = walk (order_of built.kind input.earliest) (search_in built input)

-- which matches are exchanged in a haystack: those of the walk over all of it
abbrev pub exchanged : Built → List ℕ → List Occurrence
exchanged built haystack = walk_result built (whole_input haystack)

-- which are exchanged in a text: those of that walk that cut no character
abbrev pub exchanged_in_text : Built → List ℕ → List Occurrence
exchanged_in_text built text = whole_characters text (exchanged built text)

-- why a find or a walk is refused, if it is
abbrev pub find_refusal : Built → InputView → Option MatchError
find_refusal built input = refusal built.start_kind built.kind (Find input.anchored) (has_empty built)

-- why an overlapping search by a state is refused, if it is
abbrev pub overlapping_refusal : Built → InputView → Option MatchError
overlapping_refusal built input =
    refusal built.start_kind built.kind (OverlappingByState input.anchored) (has_empty built)

-- why an iterator over the listing is refused, if it is
abbrev pub overlapping_iter_refusal : Built → InputView → Option MatchError
overlapping_iter_refusal built input =
    refusal built.start_kind built.kind (OverlappingIterator input.anchored) (has_empty built)

-- why a replacement is refused, if it is
abbrev pub replace_refusal : Built → Option MatchError
replace_refusal built = refusal built.start_kind built.kind Replace (has_empty built)

-- why the search of a stream is refused, if it is
abbrev pub stream_refusal : Built → Option MatchError
stream_refusal built = refusal built.start_kind built.kind Stream (has_empty built)

-- m has the number of a pattern and stands in the span of the input, as long as the pattern and the same string
pub record LiesIn (built : Built) (input : InputView) (m : Occurrence) : Type 0 where
  pub numbered : m.pattern < length built.patterns
  pub from_start : input.start ≤ m.start
  pub in_order : m.start ≤ m.end
  pub to_end : m.end ≤ input.end
  pub in_haystack : m.end ≤ length input.haystack
  pub as_long : m.start + length (pattern_of built.patterns m.pattern) ≡ m.end
  pub same : IsSame built.ignores_case (pattern_of built.patterns m.pattern)
      (slice_range input.haystack m.start m.end)

-- each pattern is a text, and none is empty
pub record AreTexts (patterns : List (List ℕ)) : Type 0 where
  pub texts : All IsUtf8 patterns
  pub nonempty : All (λ p. p ≢ []) patterns

-- m starts and ends at boundaries of characters
pub record IsBetweenCharacters (text : List ℕ) (m : Occurrence) : Type 0 where
  pub starts : IsCharBoundary text m.start
  pub ends : IsCharBoundary text m.end
