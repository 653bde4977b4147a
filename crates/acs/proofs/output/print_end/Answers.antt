use Rattle.std.proofs.Common.{[], refl, arith}
use Rattle.std.proofs.lemmas.Grind.{common_steps}
use Rattle.acs.proofs.Printing.{printing-closes}
use Rattle.acs.proofs.output.print_end.Goals as goal

-- the text is the last one
pub returns : goal.returns
returns g c all old outcome printing =
    grind (
      arith,
      common_steps,
      printing-closes all [] old ((g.W.Sink.told) c.args.writer.now) c.args.text.now outcome printing ((g.W.Sink.told) c.write_all.new.writer)
          c.write_all.result refl c.write_all.ensures,
    )
