use Rattle.ac_util.proofs.Prelude.{◌≡◌, ◌∙◌, false, false≢true, sym, subst, Option, IfSome}
use Rattle.ac_automaton.specs.Prelude.{No, scan_by}
use Rattle.ac_automaton.proofs.PieceReads.{hand-after, hand-dead}
use Rattle.ac_automaton.proofs.automaton.onward.Core.read_after.Goals as goal

-- the byte in hand leads to the dead state again
pub returns-then-is_dead : goal.returns-then-is_dead
returns-then-is_dead g c =
    let seen = g.A.Automaton.seen in
    let past = subst (λ (h : Option _). IfSome h (λ b. c.args.self.now.stops ≡ false)) c.in-Some.is c.requires.past in
    hand-dead (scan_by seen c.args.self.now) past c.args.cursor.now c.requires.begins c.next_state-next.result c.args.hand c.in-Some.byte
    c.in-Some.is c.args.bytes.now c.next_state-next.ensures.steps
    (λ u stands. (c.is_dead.ensures No u stands).0 c.if-is_dead.true)

-- or it leads on
pub returns : goal.returns
returns g c =
    let seen = g.A.Automaton.seen in
    let past = subst (λ (h : Option _). IfSome h (λ b. c.args.self.now.stops ≡ false)) c.in-Some.is c.requires.past in
    hand-after (scan_by seen c.args.self.now) past c.args.cursor.now c.requires.begins c.next_state-next.result c.args.hand c.in-Some.byte
    c.in-Some.is c.args.bytes.now c.next_state-next.ensures.steps
    (λ u stands gone. absurd (false≢true (sym c.if-is_dead.false ∙ (c.is_dead.ensures No u stands).1 gone))) c.read_through-dead.ensures
