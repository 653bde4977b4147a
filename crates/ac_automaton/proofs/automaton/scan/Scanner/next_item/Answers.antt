use Rattle.ac_automaton.proofs.ListSteps.{ends-listing, gives-item, lists-next, may-list-on, stands-still}
use Rattle.ac_automaton.proofs.automaton.scan.Scanner.next_item.Goals as goal

pub returns-in-Some : goal.returns-in-Some
returns-in-Some g c = gives-item c.requires.may c.loop-found.invariant c.take_due.ensures c.in-Some.is

pub is_over-requires : goal.is_over-requires
is_over-requires g c = (_, stands-still c.requires.may c.loop-found.invariant c.take_due.ensures c.in_default.is)

pub returns-then-is_over : goal.returns-then-is_over
returns-then-is_over g c =
    ends-listing c.requires.may c.loop-found.invariant c.take_due.ensures c.in_default.is
    (c.is_over.ensures _ (stands-still c.requires.may c.loop-found.invariant c.take_due.ensures c.in_default.is))
    c.if-is_over.true

pub read_ahead-requires-clause-may : goal.read_ahead-requires-clause-may
read_ahead-requires-clause-may g c =
    may-list-on c.requires.may c.loop-found.invariant c.take_due.ensures c.in_default.is
    (c.is_over.ensures _ (stands-still c.requires.may c.loop-found.invariant c.take_due.ensures c.in_default.is))
    c.if-is_over.false

pub loop-found-preserved : goal.loop-found-preserved
loop-found-preserved g c =
    lists-next c.requires.may c.loop-found.invariant c.take_due.ensures c.in_default.is
    (c.is_over.ensures _ (stands-still c.requires.may c.loop-found.invariant c.take_due.ensures c.in_default.is))
    c.if-is_over.false c.read_ahead.ensures
    (g.met.A.Automaton.lists c.args.self.now.automaton.now c.args.self.now.anchored c.read_ahead.new.cursor.state)
    c.new.ensures
