-- The search begins no nearer than the byte can be, and goes down past greater bytes alone.
use Rattle.ac_util.proofs.Prelude.{◌≡◌, ◌<◌, length, get_or, arith, ap, inl, inr, rules, cases_lt, common_steps}
use Rattle.ac_automaton.specs.Prelude.{transition_bytes}
use Rattle.ac_automaton.proofs.Rising.{byte-read, greater-beyond, none-below, none-between, read-target}
use Rattle.ac_automaton.proofs.nfa.noncontiguous.state.target_among.Goals.{then-loop-at-test+else-own-at, else-loop-at-test}
use Rattle.ac_automaton.proofs.nfa.noncontiguous.state.target_among.Goals as goal

pub loop-at-init : goal.loop-at-init
loop-at-init c =
    let own = c.args.own.now in
    let some : 0 < length own = grind (arith, common_steps) in
    let first = byte-read own 0 c.index-own-0.result some c.index-own-0.is in
    let read = ap (λ t. t.byte) c.index-own-0.is in
    record {
      within = omega (arith, c.min-at.ensures, some);
      greater = λ k after inside. elim (cases_lt c.from-above.result (length own)) [
        | inl near ↦ greater-beyond own c.requires.ascending c.args.byte c.min-at.result
            (omega (arith, near, c.min-at.ensures, c.from-above.ensures, c.saturating_sub.ensures, first, read)) k after inside
        | inr far ↦ absurd (omega (arith, far, c.min-at.ensures, after, inside))
      ];
    }

pub loop-at-preserved : goal.loop-at-preserved
loop-at-preserved c = search (rules, byte-read, cases_lt)

pub returns-then-next-byte : goal.returns-then-next-byte
returns-then-next-byte c = search (rules, read-target)

pub returns-else-next-byte : goal.returns-else-next-byte
returns-else-next-byte c =
    let own = c.args.own.now in
    let at = c.loop-at.at in
    let within = c.loop-at.invariant.within in
    let here = byte-read own at c.index-own-at-2.result within c.index-own-at-2.is in
    elim (cases_lt c.index-own-at-2.result.byte c.args.byte) [
      | inl less ↦ none-between own c.requires.ascending c.args.byte at within (omega (arith, here, less))
          c.loop-at.invariant.greater
      | inr more ↦ elim c.loop-at-test.branch [
        | then-loop-at-test+else-own-at w ↦
            let was = byte-read own at w.index-own-at.result within w.index-own-at.is in
            let read = ap (λ t. t.byte) w.index-own-at.is in
            absurd (omega (arith, here, was, read, more, w.if-own-at.false, c.if-next-byte.false))
        | else-loop-at-test w ↦
            let first : at ≡ 0 = omega (arith, w.loop-at-test.false) in
            none-below own c.requires.ascending c.args.byte
            (omega (arith, here, more, c.if-next-byte.false, ap (λ n. get_or (transition_bytes own) n 0) first))
      ]
    ]
