-- What the laws say: of tests, of values and classes, and of what a search answers.
use Rattle.std.specs.Prelude.{◌≡◌, ℕ, ◌+◌, ◌≤◌, ◌++◌, ◌↔◌, Bool, true, false, List, [], ◌∷◌, All, drop, length, map, take, Option, None, Some}
use Rattle.std.specs.declared.alloc.AllocError.{AllocError}
use Rattle.ac_util.specs.declared.search.MatchKind.{MatchKind}
use Rattle.ac_util.specs.declared.search.MatchKind.TheVariants.{Standard}
use Rattle.ac_util.specs.Built.{Built, has_empty, search_in, LiesIn}
use Rattle.ac_util.specs.Classes.{IsLawful, SetsApart, class_at, is_in_patterns}
use Rattle.ac_util.specs.Input.{InputView, whole_input}
use Rattle.ac_util.specs.Node.{is_leftmost, is_node}
use Rattle.ac_util.specs.Occurrence.{Occurrence, plain, plain_byte, Search, from}
use Rattle.ac_util.specs.Pick.{pick}
use Rattle.ac_util.specs.Replacement.{replaced, AppendsBeginning, Replacing, ReplacementSteps, WritesText, answer_of}
use Rattle.ac_util.specs.Stream.{exchanged_to, IsSettledAt, NoneOpen, kept_back_len, stream_exchanged, stream_result, without_last, IsSettledBy}
use Rattle.ac_util.specs.Walk.{next_match, walk_after}

-- a test is true exactly where its fact holds
abbrev pub Decides : {X Y : Type 0} → (X → Y → Bool) → (X → Y → Type 0) → Type 0
Decides {X} {Y} test Fact = (x : X) (y : Y) → (test x y ≡ true) ↔ Fact x y

-- values that compare as equal hand a hasher the same
abbrev pub HashesEqually : {X : Type 0} → (X → X → Bool) → (X → List (List ℕ)) → Type 0
HashesEqually {X} eq hash_input = (a b : X) → eq a b ≡ true → hash_input a ≡ hash_input b

-- by these classes an automaton may step, whatever its settings and patterns
abbrev pub IsAlwaysLawful : (Bool → List (List ℕ) → ℕ → ℕ) → Type 0
IsAlwaysLawful class =
    (ignores_case : Bool) (kind : MatchKind) (patterns : List (List ℕ))
    → IsLawful (class ignores_case patterns) kind ignores_case patterns

-- it may by these, as they are read from their list
abbrev pub IsLawfulAsRead : (Bool → List (List ℕ) → List ℕ) → Type 0
IsLawfulAsRead classes = IsAlwaysLawful (λ ignores_case patterns. class_at (classes ignores_case patterns))

-- in these, each byte of a pattern has a class of its own
abbrev pub AlwaysSetsApart : (Bool → List (List ℕ) → List ℕ) → Type 0
AlwaysSetsApart classes =
    (ignores_case : Bool) (patterns : List (List ℕ)) → SetsApart ignores_case patterns (classes ignores_case patterns)

-- only a byte that stands in some pattern leads from a node to one that is longer
abbrev pub OnlyPatternsLead : Bool → MatchKind → Type 0
OnlyPatternsLead ignores_case kind =
    (patterns : List (List ℕ)) (u : List ℕ) (b : ℕ)
    → is_node kind (map (plain ignores_case) patterns) (u ++ plain_byte ignores_case b ∷ []) ≡ true
    → is_in_patterns ignores_case patterns b ≡ true

-- all that this gives lies there
abbrev pub AllLieIn : (Built → InputView → List Occurrence) → Type 0
AllLieIn answers =
    (built : Built) (input : InputView) → input.end ≤ length input.haystack → All (LiesIn built input) (answers built input)

-- with `earliest` this answers what it answers without under Standard
abbrev pub EarliestIsStandard : {X : Type 0} → (Built → InputView → X) → Type 0
EarliestIsStandard answer =
    (built : Built) (input : InputView) → answer built (record input { earliest = true })
    ≡ answer (record built { kind = Standard }) (record input { earliest = false })

module _ (kind : MatchKind) (q : Search) (last : Option ℕ) where
  -- the walk is the next match, and then the walk from its end on
  abbrev pub WalkGoesOn : Type 0
  WalkGoesOn =
      (m : Occurrence) → next_match kind q last ≡ Some m
      → walk_after kind q last ≡ m ∷ walk_after kind (from q m.end) (Some m.end)

module _ (built : Built) (bytes more : List ℕ) where
  -- so it is where a stream is settled under a leftmost kind, and no pattern is empty
  abbrev pub SettledStays : Type 0
  SettledStays =
      (given place : ℕ) → is_leftmost built.kind ≡ true → has_empty built ≡ false → IsSettledAt built bytes given place
      → (take given (stream_result built (bytes ++ more)) ≡ take given (stream_result built bytes))
      × All (λ m. place ≤ m.start) (drop given (stream_result built (bytes ++ more)))

module _ (built : Built) (bytes : List ℕ) where
  -- where that is so of a match within the bytes under a leftmost kind, no offset from there up to its start is open
  abbrev pub StayingIsDecided : Type 0
  StayingIsDecided =
      (low : ℕ) (m : Occurrence) → is_leftmost built.kind ≡ true → m.end ≤ length bytes
      → ((more : List ℕ) → pick built.kind (from (search_in built (whole_input (bytes ++ more))) low) ≡ Some m)
      → NoneOpen built bytes low (m.start + 1)

-- where a stream is settled under Standard, of which these bytes came, the replaced text so far is all of the replaced text but
-- as many bytes as are held back
abbrev pub HoldsBack : Built → List ℕ → List (List ℕ) → Type 0
HoldsBack built bytes texts =
    (given place : ℕ) → built.kind ≡ Standard → IsSettledBy built.kind built bytes given place
    → replaced (take place bytes) texts (take given (stream_result built bytes))
    ≡ without_last (kept_back_len built bytes) (replaced bytes texts (stream_result built bytes))

-- what is settled of a stream of which these bytes came begins what is written for each stream that begins with them, whatever
-- its matches are exchanged for. No pattern is empty
abbrev pub SettledBegins : Built → (Occurrence → List ℕ → List ℕ) → List ℕ → List ℕ → Type 0
SettledBegins built write bytes more =
    (given place : ℕ) → has_empty built ≡ false → IsSettledBy built.kind built bytes given place
    → (rest : List ℕ) × (stream_exchanged built write (bytes ++ more) ≡ exchanged_to built write bytes given place ++ rest)

module _ (haystack : List ℕ) (texts : List (List ℕ)) where
  -- steps that append to a list the text of each of the matches lead it from s to t
  abbrev pub TextStepsLead : List Occurrence → Replacing (Unit {0}) (List ℕ) → Option AllocError → Replacing (Unit {0}) (List ℕ)
      → Type 0
  TextStepsLead ms s end t =
      ReplacementSteps (AppendsBeginning (λ d. d)) (WritesText texts) answer_of haystack 0 ms s end t

  -- without a failure they leave the replaced text after what was there
  abbrev pub StepsLeaveWhole : Type 0
  StepsLeaveWhole =
      (ms : List Occurrence) (s t : Replacing (Unit {0}) (List ℕ)) → TextStepsLead ms s None t
      → t.destination ≡ s.destination ++ replaced haystack texts ms

  -- with or without, they leave a beginning of it there
  abbrev pub StepsLeaveBeginning : Type 0
  StepsLeaveBeginning =
      (ms : List Occurrence) (s t : Replacing (Unit {0}) (List ℕ)) (end : Option AllocError) → TextStepsLead ms s end t
      → (rest : List ℕ) × (t.destination ++ rest ≡ s.destination ++ replaced haystack texts ms)

  -- what was there stays
  abbrev pub StepsKeep : Type 0
  StepsKeep =
      (ms : List Occurrence) (s t : Replacing (Unit {0}) (List ℕ)) (end : Option AllocError) → TextStepsLead ms s end t
      → (more : List ℕ) × (t.destination ≡ s.destination ++ more)
