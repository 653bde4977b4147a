use Rattle.ac_util.proofs.Prelude.{◌≡◌, ◌∙◌, false, true, length, inl, inr, arith, rules, list_any, common_steps}
use Rattle.ac_util.specs.Prelude.{is_empty}
use Rattle.ac_util.proofs.Marks.{first_few, marked-BeginWith, marked-first_bytes, only_one, skip_for-bytes, skip_for-many_bytes, skip_for-needle, too_many}
use Rattle.ac_util.proofs.prefilter.Prefilter.of.Goals as goal

-- a pattern alone is a needle
pub returns-then-not-ignores_case : goal.returns-then-not-ignores_case
returns-then-not-ignores_case g c = search (rules, only_one, skip_for-needle)

-- others begin with few bytes
pub returns-in-Some : goal.returns-in-Some
returns-in-Some g c = grind (arith, common_steps, skip_for-bytes, marked-first_bytes (c.args.ignores_case) (c.args.patterns.now) (c.first_marks-marks.result) (omega (arith, c.first_marks-marks.type_inv)) (c.first_marks-marks.ensures) (cc), first_few c.in-Some.first, marked-BeginWith (c.args.ignores_case) (c.args.patterns.now) (c.first_marks-marks.result) (omega (arith, c.first_marks-marks.type_inv)) (c.first_marks-marks.ensures) (cc))

-- or with more bytes
pub returns : goal.returns
returns g c =
    let ignores_case = c.args.ignores_case in
    let patterns = c.args.patterns.now in
    let marks = c.first_marks-marks.result in
    let whole : length marks ≡ 256 = omega (arith, c.first_marks-marks.type_inv) in
    let reads = c.first_marks-marks.ensures in
    let some : list_any is_empty patterns ≡ false = cc in
    let more : length patterns ≡ 0 → ⊥ = λ e. c.if-len-eq0.false (c.len.ensures.value ∙ e) in
    let alone : length patterns ≡ 1 → ignores_case ≡ true = λ e. elim c.else-len-eq1.either [
      | inl h ↦ h.1
      | inr h ↦ absurd (h (c.len-2.ensures.value ∙ e))
    ] in (
      skip_for-many_bytes ignores_case patterns some more alone (omega arith)
          (too_many ignores_case patterns marks whole reads some more c.in-None.ensures),
      tt,
    )
