use Rattle.std.proofs.Common.{rules}
use Rattle.ac_search.specs.Patterns.{bytes_of}
use Rattle.acs.specs.Requests.{seconds}
use Rattle.acs.proofs.ModeEnds.{replaced-ends}
use Rattle.acs.proofs.Pairs.{texts-fit}
use Rattle.acs.proofs.modes.replace.Goals as goal

-- there is a text for each pattern
pub replace_all_bytes-requires-clause-texts : goal.replace_all_bytes-requires-clause-texts
replace_all_bytes-requires-clause-texts g c = search (rules, texts-fit)

-- the replaced text was written, or could not be
pub returns : goal.returns
returns g c =
    let read = g.R.Source.told in
    let wrote = g.W.Sink.told in
    replaced-ends c.args.searcher.now.built (seconds (bytes_of c.args.words.now)) g.R.Source.empty_means_end
    (read c.args.reader.now) (read c.read_all.new.reader) (wrote c.args.writer.now) (wrote c.print_text.new.writer)
    c.in_ok-haystack.haystack.items c.in_ok-whole.whole.items c.print_text.result
    (rw (c.deref.ensures.value, c.deref-2.ensures.value, c.in_ok-texts.ensures) at c.in_ok-whole.ensures)
    c.in_ok-haystack.ensures (rw c.deref-3.ensures.value at c.print_text.ensures)
