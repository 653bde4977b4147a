use Rattle.ac_util.proofs.Prelude.{Bool, MatchBool, ◌++◌, inr, length-append, subst, arith, rules, append-nil, common_steps}
use Rattle.ac_automaton.specs.Prelude.{FillsMore, MeetsEnd}
use Rattle.ac_util.proofs.Devices.{fails-on, reads-on}
use Rattle.ac_automaton.proofs.StreamEnds.{ended-then, given-then, gives-last, needed-then, same-then, small-then}
use Rattle.ac_automaton.proofs.StreamFilling.{failed-as}
use Rattle.ac_automaton.proofs.automaton.stream.StreamFinder.next.Goals as goal

-- at first nothing was read
pub loop-found-init : goal.loop-found-init
loop-found-init g c = grind (arith, common_steps, append-nil c.args.self.now.bytes)

-- the end was met before
pub returns-in-Ended : goal.returns-in-Ended
returns-in-Ended g c = grind (arith, common_steps, gives-last, append-nil (c.args.self.now).bytes)

pub returns-in-Err : goal.returns-in-Err
returns-in-Err g c = search (rules, failed-as, fails-on, length-append)

pub loop-found-preserved : goal.loop-found-preserved
loop-found-preserved g c =
    let told = g.R.Source.told in let l = c.loop-found.invariant in
    let fills = subst (λ (b : Bool). MatchBool b
    (FillsMore c.next_read.new.self c.fill.new.self (told c.loop-found.reader) (told c.fill.new.reader))
    (MeetsEnd g.R.Source.empty_means_end c.next_read.new.self c.fill.new.self (told c.loop-found.reader) (told c.fill.new.reader)))
    c.in-Ok-true.field-0-test c.in-Ok-true.ensures in
    let now = c.loop-found.self in let searched = c.next_read.new.self in
    record {
      more = l.more ++ fills.more;
      reads = reads-on l.reads fills.reads;
      goes_on = l.goes_on;
      small = small-then c.args.self.now now searched l.more l.same c.in_default.ensures fills;
      given = given-then c.args.self.now now searched l.more l.same c.in_default.ensures fills l.given;
      needed = inr (needed-then c.args.self.now now searched l.more fills.more l.same l.goes_on c.in_default.ensures fills.room);
      same = same-then c.args.self.now now searched l.more l.same c.in_default.ensures fills;
    }

pub loop-found-smaller : goal.loop-found-smaller
loop-found-smaller g c = grind (arith, common_steps)

pub returns-in-Ok-false : goal.returns-in-Ok-false
returns-in-Ok-false g c =
    let told = g.R.Source.told in let l = c.loop-found.invariant in
    ended-then g.R.Source.empty_means_end c.args.self.now c.loop-found.self c.next_read.new.self c.fill.new.self
    c.next_at_end-in-Ok-false.new.self (told c.args.reader.now) (told c.loop-found.reader) (told c.fill.new.reader) l.more l.same l.goes_on
    l.reads c.in_default.ensures
    (subst (λ (b : Bool). MatchBool b
    (FillsMore c.next_read.new.self c.fill.new.self (told c.loop-found.reader) (told c.fill.new.reader))
    (MeetsEnd g.R.Source.empty_means_end c.next_read.new.self c.fill.new.self (told c.loop-found.reader) (told c.fill.new.reader)))
    c.in-Ok-false.field-0-test c.in-Ok-false.ensures) l.small l.given c.next_at_end-in-Ok-false.result c.next_at_end-in-Ok-false.ensures

pub returns-in-Some : goal.returns-in-Some
returns-in-Some g c = grind (arith, common_steps)
