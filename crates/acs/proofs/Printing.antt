-- Printing matches, line by line.
use Rattle.std.proofs.Common.{◌≡◌, ◌<◌, ℕ, List, [], ◌∷◌, ◌++◌, length, length-append, take, drop, ap, sym, refl, ◌∙◌, arith, inl, inr, rules}
use Rattle.std.specs.Prelude.{MatchResult, Result, Ok, Err}
use Rattle.std.specs.Io.{StartsWith}
use Rattle.std.proofs.lemmas.List.{append-nil, append_assoc, take-append-drop}
use Rattle.std.proofs.Math.Seq.{take-append_seam}
use Rattle.std.proofs.KnownBytes.{Appends-nil, Appends-trans}
use Rattle.std.proofs.lemmas.Grind.{common_steps}
use Rattle.ac_search.specs.Device.{Writing, WritesAll}
use Rattle.ac_search.specs.Occurrence.{Occurrence}
use Rattle.acs.specs.declared.fault.Fault.{Fault}
use Rattle.acs.specs.declared.fault.Fault.TheVariants.{Memory}
use Rattle.acs.specs.declared.run.Outcome.{Outcome}
use Rattle.acs.specs.declared.run.Outcome.TheVariants.{Found, Nothing}
use Rattle.acs.specs.Lines.{line, lines, outcome_of}
use Rattle.acs.specs.Printed.{IsPrinting}
use Rattle.acs.specs.Modes.{FailsToPrint, FailsToWrite}

-- a part with a rest after it is a beginning
starts-from : (all part rest : List ℕ) → all ≡ part ++ rest → StartsWith all part
starts-from all part rest e = ap (take (length part)) e ∙ take-append_seam part rest

-- a line isn't empty
pub line-some : (m : Occurrence) → 0 < length (line m)
line-some m = grind (arith, common_steps)

-- nothing is printed yet
pub printing-begins : (all : List Occurrence) (old : Writing) → IsPrinting all all old old [] Nothing
printing-begins all old = record {
  done = [];
  parted = refl;
  out = [];
  moved = Appends-nil old.written;
  written = refl;
  failed = refl;
  idles = refl;
  blanks = refl;
  outcome_is = refl;
}

module _ (all rest : List Occurrence) (old new : Writing) (text : List ℕ) (outcome : Outcome)
    (h : IsPrinting all rest old new text outcome) where
  -- the line of the next match is added to the text
  pub printing-adds : (m : Occurrence) (later : List Occurrence) → rest ≡ m ∷ later
      → IsPrinting all later old new (text ++ line m) Found
  printing-adds m later e = grind (arith, common_steps, append_assoc h.done (m ∷ []) later, append_assoc h.out text (line m))

  -- the text is written
  pub printing-writes : (later : Writing) → WritesAll new later text → IsPrinting all rest old later [] outcome
  printing-writes later w = search (rules, Appends-trans, append-nil)

  -- the lines are what is written, the text, and the lines of the rest
  all-lines : lines all ≡ h.out ++ (text ++ lines rest)
  all-lines = grind (arith, common_steps)

  -- with the last text all is written
  pub printing-ends : (later : Writing) → rest ≡ [] → WritesAll new later text
      → WritesAll old later (lines all) × (outcome ≡ outcome_of all)
  printing-ends later e w = grind (arith, common_steps)

  -- for lack of memory for the next line it ends with what is written
  pub printing-wants : (m : Occurrence) (later : List Occurrence) → rest ≡ m ∷ later
      → FailsToPrint old new (lines all) Memory
  printing-wants m later e = grind (arith, common_steps)

  -- a write fails that has taken a part of the text
  pub printing-fails : (later : Writing) (fault : Fault) → FailsToWrite new later text fault
      → FailsToPrint old later (lines all) fault
  printing-fails later fault f =
      let part = f.some.part in
      let beyond = drop (length part) text in
      let split : text ≡ part ++ beyond =
      sym (take-append-drop (length part) text) ∙ ap (λ (w : List ℕ). w ++ beyond) f.some.begins in
      let begun : lines all ≡ (h.out ++ part) ++ (beyond ++ lines rest) =
      all-lines ∙ ap (λ (w : List ℕ). h.out ++ (w ++ lines rest)) split
      ∙ ap (λ (w : List ℕ). h.out ++ w) (append_assoc part beyond (lines rest))
      ∙ sym (append_assoc h.out part (beyond ++ lines rest)) in
      inl (record {
        some = record {
          part = h.out ++ part;
          begins = starts-from (lines all) (h.out ++ part) (beyond ++ lines rest) begun;
          left_out =
              (let whole = ap length all-lines in
              let a = length-append h.out (text ++ lines rest) in
              let b = length-append text (lines rest) in
              let c = length-append h.out part in
              let d = f.some.left_out in omega arith);
          moved = Appends-trans old.written new.written later.written h.out part h.moved f.some.moved;
          blanks = f.some.blanks ∙ h.blanks;
        };
        cause = elim f.cause [
          | inl io ↦ inl (io.0, (let l = io.1 in let m = h.failed in omega arith), io.2 ∙ h.idles)
          | inr zero ↦ inr (zero.0, zero.1 ∙ h.failed, (let l = zero.2 in let m = h.idles in omega arith))
        ];
      })

  -- the last text is written, or a write fails that has taken a part of it
  pub printing-closes : {T : Type 0} (later : Writing) (r : Result T Fault) → rest ≡ []
      → MatchResult r (λ _. WritesAll new later text) (FailsToWrite new later text)
      → MatchResult r (λ _. WritesAll old later (lines all) × (outcome ≡ outcome_of all))
      (FailsToPrint old later (lines all))
  printing-closes later (Ok x) e w = printing-ends later e w
  printing-closes later (Err fault) e f = printing-fails later fault f
