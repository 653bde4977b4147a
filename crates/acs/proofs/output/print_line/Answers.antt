use Rattle.std.proofs.Common.{◌≡◌, ℕ, List, ◌++◌, ◌∷◌, ◌∙◌, refl, subst, rules, arith}
use Rattle.std.proofs.lemmas.Grind.{common_steps}
use Rattle.acs.specs.declared.fault.Fault.TheVariants.{Memory}
use Rattle.acs.specs.declared.run.Outcome.TheVariants.{Found}
use Rattle.acs.specs.Lines.{line, lines}
use Rattle.acs.specs.Modes.{FailsToPrint, FailsToWrite}
use Rattle.acs.proofs.Results.{refused-by}
use Rattle.acs.proofs.Printing.{printing-adds, printing-fails, printing-wants, printing-writes}
use Rattle.acs.proofs.output.print_line.Goals as goal

-- the line found no room in memory
pub returns-in_err-add_line : goal.returns-in_err-add_line
returns-in_err-add_line g c all later old outcome printing =
    let told = g.W.Sink.told in
    refused-by c.from_residual.result Memory _ (FailsToPrint old (told c.args.writer.now) (lines all))
    c.from_residual.ensures.1
    (printing-wants all (c.args.m.now ∷ later) old (told c.args.writer.now) c.args.text.now.items
    outcome printing c.args.m.now later refl)

-- the lines so far could not be written
pub returns-in_err-write_all : goal.returns-in_err-write_all
returns-in_err-write_all g c all later old outcome printing =
    let told = g.W.Sink.told in
    let added =
    printing-adds all (c.args.m.now ∷ later) old (told c.args.writer.now) c.args.text.now.items
    outcome printing c.args.m.now later refl in
    let text : c.deref.result.now ≡ c.args.text.now.items ++ line c.args.m.now =
    c.deref.ensures.value ∙ c.in_ok-add_line.ensures in
    refused-by c.from_residual-in_err-write_all.result c.in_err-write_all.field-0.0 _
    (FailsToPrint old (told c.write_all.new.writer) (lines all))
    c.from_residual-in_err-write_all.ensures.1
    (printing-fails all later old (told c.args.writer.now) (c.args.text.now.items ++ line c.args.m.now)
    Found added (told c.write_all.new.writer) c.in_err-write_all.field-0.0
    (subst (λ (bytes : List ℕ). FailsToWrite (told c.args.writer.now)
    (told c.write_all.new.writer) bytes c.in_err-write_all.field-0.0) text c.in_err-write_all.ensures))

-- the text was full, and is written
pub returns-in_ok-write_all : goal.returns-in_ok-write_all
returns-in_ok-write_all g c all later old outcome printing =
    grind (
      arith,
      common_steps,
      printing-adds all (c.args.m.now ∷ later) old ((g.W.Sink.told) c.args.writer.now) c.args.text.now.items outcome printing c.args.m.now
          later refl,
      printing-writes,
    )

-- the line is in the text
pub returns-else-len-ge-FULL : goal.returns-else-len-ge-FULL
returns-else-len-ge-FULL g c all later old outcome printing = search (rules, printing-adds)
