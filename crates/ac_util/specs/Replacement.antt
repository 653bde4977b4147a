-- Replacement: the text with its matches exchanged, and the steps by which it is written.
use Rattle.std.specs.Prelude.{ℕ, ◌<◌, ◌≤◌, ⊤, Bool, ◌&&◌, ◌||◌, nat_le, nat_lt, List, [], ◌∷◌, ◌++◌, length, drop, filter, slice_range, slice_index, slice_index_or, ◌≡◌, ◌≢◌, ◌⊎◌, true, false, Option, None, Some, Result, MatchResult}
use Rattle.ac_util.specs.Occurrence.{Occurrence}
use Rattle.std.specs.Borrow.{Bor, MutBor}
use Rattle.std.specs.Fn.{Called, Mut}
use Rattle.ac_util.specs.declared.error.MatchError.{MatchError}
use Rattle.ac_util.specs.declared.error.ReplaceError.{ReplaceError}
use Rattle.ac_util.specs.declared.error.ReplaceError.TheVariants.{Match, Memory}

-- what stands from an offset on: each gap as it is, each match exchanged for what `write` gives for it and its bytes
abbrev pub exchanged_from : List ℕ → (Occurrence → List ℕ → List ℕ) → ℕ → List Occurrence → List ℕ
exchanged_from haystack write place [] = drop place haystack
exchanged_from haystack write place (m ∷ ms) =
    slice_range haystack place m.start ++ write m (slice_range haystack m.start m.end)
    ++ exchanged_from haystack write m.end ms

-- the same, each match exchanged for the text of its pattern
abbrev pub replaced_from : List ℕ → List (List ℕ) → ℕ → List Occurrence → List ℕ
replaced_from haystack texts place ms =
    exchanged_from haystack (λ m bytes. slice_index_or texts m.pattern []) place ms

-- the whole haystack, with each match exchanged for the text of its pattern
abbrev pub replaced : List ℕ → List (List ℕ) → List Occurrence → List ℕ
replaced haystack texts ms = replaced_from haystack texts 0 ms

-- the matches stand one after another in so many bytes from an offset on, and each has the number of one of so many texts
abbrev pub AreInOrder : ℕ → ℕ → ℕ → List Occurrence → Type 0
AreInOrder bytes texts place [] = place ≤ bytes
AreInOrder bytes texts place (m ∷ ms) =
    (place ≤ m.start) × (m.start ≤ m.end) × (m.end ≤ bytes) × (m.pattern < texts) × AreInOrder bytes texts m.end ms

-- whether a character of the text begins at this offset, or the text ends there: `IsCharBoundary` as a test
abbrev pub is_char_boundary : List ℕ → ℕ → Bool
is_char_boundary text i =
    nat_le i (length text) &&
    (nat_le (length text) i || nat_lt (slice_index text i) 128 || nat_le 192 (slice_index text i))

-- whether a match cuts no character
abbrev pub is_whole : List ℕ → Occurrence → Bool
is_whole text m = is_char_boundary text m.start && is_char_boundary text m.end

-- those of the matches of a walk that cut no character; the walk isn't taken again
abbrev pub whole_characters : List ℕ → List Occurrence → List Occurrence
whole_characters text ms = filter (is_whole text) ms

-- the first of the matches starts at the offset or later
abbrev pub StartFrom : ℕ → List Occurrence → Type 0
StartFrom place [] = ⊤
StartFrom place (m ∷ ms) = place ≤ m.start

-- what the answer of a call asks for: to go on, to call no more, or to end at once with a failure
pub data Answer (E : Type 0) : Type 0 where
  Continues : Answer E
  CallsNoMore : Answer E
  Fails : E → Answer E

-- one of three things, by what an answer asks for
abbrev pub MatchAnswer : {E : Type 0} → Answer E → Type 0 → Type 0 → (E → Type 0) → Type 0
MatchAnswer Continues on last fails = on
MatchAnswer CallsNoMore on last fails = last
MatchAnswer (Fails failure) on last fails = fails failure

-- S is what the steps change, R the answer of a call, E a failure. `appends bytes s end t`: appending the bytes
-- takes s to t, all of them where `end` is None, and else it failed so. `calls m slice s r t`: a call with the
-- match and its slice may answer r, and take s to t.
module _ {S R E : Type 0} (appends : List ℕ → S → Option E → S → Type 0)
    (calls : Occurrence → List ℕ → S → R → S → Type 0) (asks : R → Answer E) (haystack : List ℕ) where
  -- the gap from an offset up to the match is appended, and one call is made with the match
  pub record Turn (place : ℕ) (m : Occurrence) (s : S) (r : R) (t : S) : Type 0 where
    pub at_match : S
    pub gap : appends (slice_range haystack place m.start) s None at_match
    pub call : calls m (slice_range haystack m.start m.end) at_match r t

  -- from an offset on, the matches that are left take s to t: a turn for each, up to the first whose answer doesn't
  -- go on; then what is left of the haystack is appended. The first failure ends the steps: nothing follows it
  abbrev pub ReplacementSteps : ℕ → List Occurrence → S → Option E → S → Type 0
  ReplacementSteps place [] s end t = appends (drop place haystack) s end t
  ReplacementSteps place (m ∷ ms) s end t =
      ((end ≢ None) × appends (slice_range haystack place m.start) s end t)
      ⊎ ((r : R) × (u : S) × Turn place m s r u
      × MatchAnswer (asks r)
      (ReplacementSteps m.end ms u end t)
      (appends (drop m.end haystack) u end t)
      (λ failure. (end ≡ Some failure) × (t ≡ u)))

-- a closure and its destination
pub record Replacing (F D : Type 0) : Type 0 where
  pub closure : F
  pub destination : D

module _ {F D E : Type 0} (holds : D → List ℕ) where
  -- the bytes are appended to what the destination holds, all of them or, where that failed, none
  abbrev pub AppendsAll : List ℕ → Replacing F D → Option E → Replacing F D → Type 0
  AppendsAll bytes s None t =
      (t.closure ≡ s.closure) × (holds t.destination ≡ holds s.destination ++ bytes)
  AppendsAll bytes s (Some failure) t =
      (t.closure ≡ s.closure) × (holds t.destination ≡ holds s.destination)

  -- the same of a destination that may take a beginning of the bytes before it fails: what it held stays, and this
  -- beginning follows
  abbrev pub AppendsBeginning : List ℕ → Replacing F D → Option E → Replacing F D → Type 0
  AppendsBeginning bytes s None t =
      (t.closure ≡ s.closure) × (holds t.destination ≡ holds s.destination ++ bytes)
  AppendsBeginning bytes s (Some failure) t =
      (t.closure ≡ s.closure)
      × ((taken rest : List ℕ) × (bytes ≡ taken ++ rest) × (holds t.destination ≡ holds s.destination ++ taken))

-- a call of the closure with a match, its slice and the destination may answer r, and take s to t
pub record Calls {F D R : Type 0}
    (closures : Mut F (Bor Occurrence × (Bor (List ℕ) × (MutBor D × Unit {0}))) (R × (MutBor D × Unit {0})))
    (m : Occurrence) (slice : List ℕ) (s : Replacing F D) (r : R) (t : Replacing F D) : Type 0 where
  pub found : Bor Occurrence
  pub text : Bor (List ℕ)
  pub before : MutBor D
  pub after : MutBor D
  pub shows : (found.now ≡ m) × (text.now ≡ slice) × (before.now ≡ s.destination)
  pub called : Called closures s.closure (found, (text, (before, tt))) (r, (after, tt)) t.closure
  pub leaves : after.now ≡ t.destination

-- true asks to go on, false to call no more
abbrev pub answer_of : {E : Type 0} → Bool → Answer E
answer_of true = Continues
answer_of false = CallsNoMore

-- the text of the match's pattern is appended, and the answer asks to go on
abbrev pub WritesText : {F : Type 0} → List (List ℕ) → Occurrence → List ℕ → Replacing F (List ℕ) → Bool
    → Replacing F (List ℕ) → Type 0
WritesText texts m slice s r t =
    (r ≡ true) × (t.destination ≡ s.destination ++ slice_index_or texts m.pattern [])

-- each call appends what `write` gives for the match and its slice, and asks to go on
abbrev pub AlwaysWrites : {F D : Type 0}
    → (Occurrence → List ℕ → Replacing F D → Bool → Replacing F D → Type 0)
    → (D → List ℕ) → (Occurrence → List ℕ → List ℕ) → Type 0
AlwaysWrites {F} {D} calls holds write =
    (m : Occurrence) (slice : List ℕ) (s : Replacing F D) (r : Bool) (t : Replacing F D) → calls m slice s r t
    → (r ≡ true) × (holds t.destination ≡ holds s.destination ++ write m slice)

-- each call appends something, or nothing
abbrev pub OnlyAppends : {F D : Type 0}
    → (Occurrence → List ℕ → Replacing F D → Bool → Replacing F D → Type 0) → (D → List ℕ) → Type 0
OnlyAppends {F} {D} calls holds =
    (m : Occurrence) (slice : List ℕ) (s : Replacing F D) (r : Bool) (t : Replacing F D) → calls m slice s r t
    → (more : List ℕ) × (holds t.destination ≡ holds s.destination ++ more)

-- what the steps add after what the destination held, where the calls of a closure are these. Where each call appends what
-- `write` gives and goes on: the haystack with each match exchanged for that, or a beginning of it after a failure. Where each
-- call only appends: something
pub record ClosureExchanges (E : Type 0) {F D : Type 0}
    (calls : Occurrence → List ℕ → Replacing F D → Bool → Replacing F D → Type 0) : Type 0 where
  pub whole : (haystack : List ℕ) (holds : D → List ℕ) (write : Occurrence → List ℕ → List ℕ) (ms : List Occurrence)
      (s t : Replacing F D) → AlwaysWrites calls holds write
      → ReplacementSteps (AppendsAll {E = E} holds) calls answer_of haystack 0 ms s None t
      → holds t.destination ≡ holds s.destination ++ exchanged_from haystack write 0 ms
  pub begun : (haystack : List ℕ) (holds : D → List ℕ) (write : Occurrence → List ℕ → List ℕ) (ms : List Occurrence)
      (s t : Replacing F D) (end : Option E) → AlwaysWrites calls holds write
      → ReplacementSteps (AppendsAll holds) calls answer_of haystack 0 ms s end t
      → (rest : List ℕ) × (holds t.destination ++ rest ≡ holds s.destination ++ exchanged_from haystack write 0 ms)
  pub kept : (haystack : List ℕ) (holds : D → List ℕ) (ms : List Occurrence) (s t : Replacing F D) (end : Option E)
      → OnlyAppends calls holds → ReplacementSteps (AppendsAll holds) calls answer_of haystack 0 ms s end t
      → (more : List ℕ) × (holds t.destination ≡ holds s.destination ++ more)

-- one of two things, by why a replacement failed
abbrev pub MatchReplaceError : ReplaceError → (MatchError → Type 0) → Type 0 → Type 0
MatchReplaceError (Match e) refused memory = refused e
MatchReplaceError Memory refused memory = memory

-- a replacement by a list answers a whole text where nothing refuses it, and else fails by the refusal. Lack of
-- memory comes only where nothing refuses it
abbrev pub AnswersWhole : {A : Type 0} → Option MatchError → (A → Type 0) → Result A ReplaceError → Type 0
AnswersWhole refusal whole result =
    MatchResult result (λ text. (refusal ≡ None) × whole text)
    (λ e. MatchReplaceError e (λ m. refusal ≡ Some m) (refusal ≡ None))

-- a replacement by a closure makes all of its steps, or those up to an append that was refused; where it is
-- refused itself, it changes nothing. `steps end` says that the steps that end so were made
abbrev pub MakesSteps : Option MatchError → (Option ReplaceError → Type 0) → Type 0 → Result (Unit {0}) ReplaceError
    → Type 0
MakesSteps refusal steps unchanged result =
    MatchResult result (λ done. (refusal ≡ None) × steps None)
    (λ e. MatchReplaceError e (λ m. (refusal ≡ Some m) × unchanged) ((refusal ≡ None) × steps (Some Memory)))

-- the steps that exchange these matches by a closure lead a destination from `old` to `new`. `holds` gives the bytes
-- in it
abbrev pub StepsLead : {F D : Type 0}
    → Mut F (Bor Occurrence × (Bor (List ℕ) × (MutBor D × Unit {0}))) (Bool × (MutBor D × Unit {0}))
    → (D → List ℕ) → List ℕ → List Occurrence → F → D → Option ReplaceError → D → Type 0
StepsLead {F} closures holds haystack ms closure old end new =
    (left : F) × ReplacementSteps (AppendsAll holds) (Calls closures) answer_of haystack 0 ms
    (record { closure = closure; destination = old }) end (record { closure = left; destination = new })
