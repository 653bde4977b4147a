use Rattle.std.proofs.Common.{rules, subst}
use Rattle.ac_search.specs.Alike.{WritesExchanged}
use Rattle.ac_search.specs.Built.{Built}
use Rattle.examples.specs.Callers.{stars}
use Rattle.ac_search.specs.Stream.{by_length}
use Rattle.examples.proofs.callers.redactor.write_redacted_by_calls.Goals as goal

-- each call writes as many stars as the secret has bytes
pub returns : goal.returns
returns g c =
    let call = c.try_stream_replace_all_with in
    subst (λ (b : Built). WritesExchanged g.R.Source.empty_means_end g.R.Source.told g.W.Sink.told b (by_length stars)
    c.args.reader.now c.args.writer.now call.new.reader call.new.writer call.result) c.requires.searcher
    (c.closures_write_exchanged.ensures.closure c.args.searcher.now.built (by_length stars) (λ m slice s r t h.
    let called = h.called in let shows = h.shows in let leaves = h.leaves in search rules) _ c.args.reader.now
    call.new.reader c.args.writer.now call.new.writer call.result call.ensures)
