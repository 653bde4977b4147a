use Rattle.ac_util.proofs.Prelude.{common_steps, ℕ, false, length-set, take, get_or, inl, inr, ap, sym, ◌∙◌, arith, rules}
use Rattle.ac_util.proofs.Marks.{filter-fails, filter-passes, first_ones, marked_more_than_noted, noted_all, take_noted}
use Rattle.ac_util.proofs.prefilter.FirstBytes.of.Goals as goal
use Rattle.ac_util.proofs.prefilter.FirstBytes.of.Goals.{then-marks-plain_byte+else-count-eq-MOST_BYTES, else-marks-plain_byte}

-- a fourth byte is marked
pub returns-then-count-eq-MOST_BYTES : goal.returns-then-count-eq-MOST_BYTES
returns-then-count-eq-MOST_BYTES c =
    let marks = c.args.marks.now in
    inr (marked_more_than_noted c.args.ignores_case marks c.loop-byte.bytes c.loop-byte.byte c.loop-byte-test.true
    c.loop-byte.invariant.whole
    (ap (λ (k : ℕ). take k c.loop-byte.bytes) (sym c.if-count-eq-MOST_BYTES.true) ∙ c.loop-byte.invariant.noted)
    (ap (λ (k : ℕ). get_or marks k false) (sym c.plain_byte.ensures) ∙ c.if-marks-plain_byte.true))

-- the byte is noted where it is marked
pub loop-byte-preserved : goal.loop-byte-preserved
loop-byte-preserved c = search (rules, else-marks-plain_byte, filter-fails, filter-passes, length-set, take_noted, then-marks-plain_byte+else-count-eq-MOST_BYTES)

-- one is marked
pub returns-in-1 : goal.returns-in-1
returns-in-1 c =
    grind (
      arith,
      common_steps,
      first_ones c.loop-byte.bytes c.loop-byte.invariant.whole,
      noted_all c.args.ignores_case c.args.marks.now c.loop-byte.bytes c.loop-byte.count 1 c.loop-byte.byte (omega arith) c.in-1.is c.loop-byte.invariant.noted,
    )

-- two are
pub returns-in-2 : goal.returns-in-2
returns-in-2 c =
    grind (
      arith,
      common_steps,
      first_ones c.loop-byte.bytes c.loop-byte.invariant.whole,
      noted_all c.args.ignores_case c.args.marks.now c.loop-byte.bytes c.loop-byte.count 2 c.loop-byte.byte (omega arith) c.in-2.is c.loop-byte.invariant.noted,
    )

-- three are
pub returns-in-3 : goal.returns-in-3
returns-in-3 c =
    grind (
      arith,
      common_steps,
      first_ones c.loop-byte.bytes c.loop-byte.invariant.whole,
      noted_all c.args.ignores_case c.args.marks.now c.loop-byte.bytes c.loop-byte.count 3 c.loop-byte.byte (omega arith) c.in-3.is c.loop-byte.invariant.noted,
    )

-- none is
pub returns-in_default : goal.returns-in_default
returns-in_default c =
    inl (sym (noted_all c.args.ignores_case c.args.marks.now c.loop-byte.bytes c.loop-byte.count 0 c.loop-byte.byte (omega arith)
    (omega arith) c.loop-byte.invariant.noted))
