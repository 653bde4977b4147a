use Rattle.ac_util.proofs.Prelude.{sym, ◌∙◌, arith, false≢true}
use Rattle.ac_automaton.proofs.Places.{None-tested, Some-tested}
use Rattle.ac_automaton.proofs.Starting.{waits-dead, waits-start}
use Rattle.ac_automaton.proofs.nfa.noncontiguous.growth.Growth.start.Goals as goal
use Rattle.ac_automaton.proofs.nfa.noncontiguous.growth.Growth.start.Goals.{then-is_leftmost+then-len-gt0+then-is_none, else-is_leftmost, else-is_leftmost-via-then-is_leftmost+then-len-gt0+else-is_none, else-is_leftmost-via-then-is_leftmost+else-len-gt0, else-is_leftmost-via-else-is_leftmost}

-- an empty pattern under a leftmost kind lets no match start later; else the start fails to itself
pub returns-clause-waits : goal.returns-clause-waits
returns-clause-waits g c = λ patterns order.
    let m = c.args.self.now.sorted.patterns in
    rw (c.len-2.ensures.value, c.must.ensures.value)
    (elim c.if-is_leftmost.branch [
      | then-is_leftmost+then-len-gt0+then-is_none w ↦
          rw w.fail-is
          (waits-dead c.args.self.now.kind patterns m order (sym c.is_leftmost.ensures ∙ w.if-is_leftmost.true)
          (omega (arith, w.len.ensures.value, w.if-len-gt0.true))
          (sym w.byte.ensures.value
          ∙ None-tested w.byte.result w.is_none.result w.is_none.ensures w.if-is_none.true))
      | else-is_leftmost w ↦
          rw w.fail-is
          (waits-start c.args.self.now.kind patterns m order (λ leftmost some. elim w.else-is_leftmost.branch [
            | else-is_leftmost-via-then-is_leftmost+then-len-gt0+else-is_none v ↦
                λ none. Some-tested v.byte.result v.is_none.result v.is_none.ensures v.if-is_none.false
                (v.byte.ensures.value ∙ none)
            | else-is_leftmost-via-then-is_leftmost+else-len-gt0 v ↦
                absurd (omega (arith, v.len.ensures.value, v.if-len-gt0.false))
            | else-is_leftmost-via-else-is_leftmost v ↦
                absurd (false≢true (sym v.if-is_leftmost.false ∙ c.is_leftmost.ensures ∙ leftmost))
          ]))
    ])
