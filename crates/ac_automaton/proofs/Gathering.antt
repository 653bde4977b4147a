-- Bytes that are gathered on their way to a writer: one piece and then another, and where a write fails.
use Rattle.ac_util.proofs.Prelude.{◌≡◌, ◌∙◌, ℕ, List, [], ◌++◌, length-append, append-nil, refl, subst, arith, Option, Some, None, Result, Ok, Err, MatchResult, rules, take-append-add, common_steps}
use Rattle.ac_automaton.specs.Prelude.{error_of, Replacing, StreamError, WriteError, WritesAll, WritesUntilFailure, Writing, Gathers, Passing, PassesPiece}
use Rattle.ac_util.proofs.Devices.{writes-join}

-- some bytes were written, and then a beginning of more
fails-join : (a b c : Writing) (xs ys : List ℕ) (e : WriteError) → WritesAll a b xs → WritesUntilFailure b c ys e
    → WritesUntilFailure a c (xs ++ ys) e
fails-join a b c xs ys e first second =
    grind (arith, common_steps, length-append xs second.some.part, take-append-add)

-- what was held back was written, and then a piece, or a beginning of it
pub written-through : {a b : Writing} (c : Writing) {held : List ℕ} (piece : List ℕ) {still : List ℕ}
    (r : Result (Unit {0}) WriteError) → still ≡ []
    → WritesAll a b held → MatchResult r (λ _. WritesAll b c piece) (WritesUntilFailure b c piece)
    → MatchResult r (λ _. Gathers a c held piece still) (WritesUntilFailure a c (held ++ piece))
written-through {a} {b} c {held} piece {still} (Ok done) none first second =
    grind (arith, common_steps, writes-join a b c held piece first second)
written-through {a} {b} c {held} piece (Err e) none first second = fails-join a b c held piece e first second

-- nothing was gathered
gathers-none : (a : Writing) (held : List ℕ) → Gathers a a held [] held
gathers-none a held = search rules

-- one piece was gathered, and then another
gathers-join : (a b c : Writing) (held xs between ys still : List ℕ) → Gathers a b held xs between
    → Gathers b c between ys still → Gathers a c held (xs ++ ys) still
gathers-join a b c held xs between ys still first second =
    grind (arith, common_steps, writes-join a b c first.part second.part first.writes second.writes)

-- or a write has failed
gathers-fails : (a b c : Writing) (held xs between ys : List ℕ) (e : WriteError) → Gathers a b held xs between
    → WritesUntilFailure b c (between ++ ys) e → WritesUntilFailure a c (held ++ (xs ++ ys)) e
gathers-fails a b c held xs between ys e first second =
    grind (arith, common_steps, fails-join a b c first.part (between ++ ys) e first.writes second)

-- a failure before some bytes is one before those and more
fails-longer : (a b : Writing) (xs ys : List ℕ) (e : WriteError) → WritesUntilFailure a b xs e
    → WritesUntilFailure a b (xs ++ ys) e
fails-longer a b xs ys e fails = grind (arith, common_steps)

module _ {E D : Type 0} (passing : Passing E D) where
  -- nothing was passed on
  pub piece-none : (s : Replacing E D) → PassesPiece passing [] s None s
  piece-none s = (refl, gathers-none (passing.told s.destination) (passing.held s.closure))

  -- one piece was passed on, and then another, or that has failed
  pub piece-join : (xs ys : List ℕ) (s t u : Replacing E D) (end : Option StreamError)
      → PassesPiece passing xs s None t → PassesPiece passing ys t end u → PassesPiece passing (xs ++ ys) s end u
  piece-join xs ys s t u None first second = (
    second.0 ∙ first.0,
    gathers-join (passing.told s.destination) (passing.told t.destination) (passing.told u.destination)
        (passing.held s.closure) xs (passing.held t.closure) ys (passing.held u.closure) first.1 second.1,
  )
  piece-join xs ys s t u (Some e) first second = search (rules, gathers-fails)

  -- a piece that could not be passed on, and more
  pub piece-begun : (xs ys : List ℕ) (s t : Replacing E D) (e : StreamError) → PassesPiece passing xs s (Some e) t
      → PassesPiece passing (xs ++ ys) s (Some e) t
  piece-begun xs ys s t e fails = grind (arith, common_steps, fails-longer)

  -- where nothing was held back before it nor is after it, it was written
  pub piece-written : (bytes : List ℕ) (s t : Replacing E D) → passing.held s.closure ≡ [] → passing.held t.closure ≡ []
      → PassesPiece passing bytes s None t → WritesAll (passing.told s.destination) (passing.told t.destination) bytes
  piece-written bytes s t begins clear passes = search rules

  -- or a beginning of it
  pub piece-failed : (bytes : List ℕ) (s t : Replacing E D) (e : StreamError) → passing.held s.closure ≡ []
      → PassesPiece passing bytes s (Some e) t
      → (failure : WriteError) × (e ≡ error_of failure)
      × WritesUntilFailure (passing.told s.destination) (passing.told t.destination) bytes failure
  piece-failed bytes s t e begins fails = search rules

  -- what is held back after a piece was written, or that has failed
  pub piece-flushed : (bytes : List ℕ) (s t u : Replacing E D) (end : Option StreamError)
      → PassesPiece passing bytes s None t → PassesPiece passing [] t end u → PassesPiece passing bytes s end u
  piece-flushed bytes s t u end first second =
      subst (λ (w : List ℕ). PassesPiece passing w s end u) (append-nil bytes) (piece-join bytes [] s t u end first second)
