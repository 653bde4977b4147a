use Rattle.ac_util.proofs.Prelude.{◌≡◌, ◌-◌, ℕ, true, ap, sym, subst, ◌∙◌, arith, Some, rules}
use Rattle.ac_automaton.specs.Prelude.{Occurrence, occurrence, in_memory, Scan, scan_of, HasGivenItem}
use Rattle.ac_automaton.proofs.Due.{counts}
use Rattle.ac_automaton.proofs.ListLoop.{due-short, gives-first}
use Rattle.ac_automaton.proofs.automaton.scan.Scanner.take_due.Given.{Over}
use Rattle.ac_automaton.proofs.automaton.scan.Scanner.take_due.Goals.{Else-not-is_due}
use Rattle.ac_automaton.proofs.automaton.scan.Scanner.take_due.Goals as goal

-- the first match that is left is due
module _ (g : Over) (c : Else-not-is_due g) where
  abbrev s : Scan
  s =
      scan_of (g.A.Automaton.seen c.args.self.now.automaton.now) c.args.self.now.anchored c.args.self.now.stops

  counted : counts s.built s.anchored (c.args.reached.now.at - c.args.self.now.span.start) c.in_ok-pattern.pattern ≡ true
  counted = search rules

pub overflow_sub-span : goal.overflow_sub-span
overflow_sub-span g c =
    let d = (goal.at.overflow_sub-span g c).Else-not-is_due in
    let short = due-short (s g d) c.requires.0 c.args.self.now.span c.requires.1 c.in_ok-pattern.pattern
    c.in_ok-pattern.rest c.in_ok-pattern.ensures.taken (counted g d) in
    omega (arith, short, c.pattern_len-len.ensures)

pub returns : goal.returns
returns g c = λ bytes on.
    let d = (goal.at.returns g c).Else-not-is_due in
    let reached = c.args.reached.now in
    subst (λ (m : Occurrence). HasGivenItem (s g d) (in_memory bytes c.args.self.now.span) reached (Some m)
    (record reached { rest = c.in_ok-pattern.rest }))
    (ap (λ (len : ℕ). occurrence c.in_ok-pattern.pattern (reached.at - len) reached.at) (sym c.pattern_len-len.ensures)
    ∙ sym c.new.ensures.value)
    (gives-first (s g d) bytes c.args.self.now.span on c.in_ok-pattern.pattern c.in_ok-pattern.rest
    c.in_ok-pattern.ensures.taken (counted g d) (c.in_ok-pattern.ensures.state c.args.self.now.anchored on.state))
