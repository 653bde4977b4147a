use Rattle.ac_search.specs.Patterns.{bytes_of}
use Rattle.acs.proofs.Serving.{run-by, serves}
use Rattle.acs.proofs.run.search.Goals as goal

-- in each mode: what the mode answers the run does
pub returns-in-Find : goal.returns-in-Find
returns-in-Find g c =
    run-by {words = bytes_of c.args.words.now}
    (serves c.in_ok-patterns.patterns.items c.in-Find.is c.in_ok-patterns.ensures
    (rw c.deref.ensures.value at c.in_ok-searcher.ensures))
    g.R.Source.empty_means_end (g.R.Source.told c.args.reader.now) (g.R.Source.told c.find.new.reader)
    (g.W.Sink.told c.args.writer.now) (g.W.Sink.told c.find.new.writer) c.find.result c.find.ensures

pub returns-in-Walk : goal.returns-in-Walk
returns-in-Walk g c =
    run-by {words = bytes_of c.args.words.now}
    (serves c.in_ok-patterns.patterns.items c.in-Walk.is c.in_ok-patterns.ensures
    (rw c.deref.ensures.value at c.in_ok-searcher.ensures))
    g.R.Source.empty_means_end (g.R.Source.told c.args.reader.now) (g.R.Source.told c.walk.new.reader)
    (g.W.Sink.told c.args.writer.now) (g.W.Sink.told c.walk.new.writer) c.walk.result c.walk.ensures

pub returns-in-Overlap : goal.returns-in-Overlap
returns-in-Overlap g c =
    run-by {words = bytes_of c.args.words.now}
    (serves c.in_ok-patterns.patterns.items c.in-Overlap.is c.in_ok-patterns.ensures
    (rw c.deref.ensures.value at c.in_ok-searcher.ensures))
    g.R.Source.empty_means_end (g.R.Source.told c.args.reader.now) (g.R.Source.told c.overlap.new.reader)
    (g.W.Sink.told c.args.writer.now) (g.W.Sink.told c.overlap.new.writer) c.overlap.result c.overlap.ensures

pub returns-in-Replace : goal.returns-in-Replace
returns-in-Replace g c =
    run-by {words = bytes_of c.args.words.now}
    (serves c.in_ok-patterns.patterns.items c.in-Replace.is c.in_ok-patterns.ensures
    (rw c.deref.ensures.value at c.in_ok-searcher.ensures))
    g.R.Source.empty_means_end (g.R.Source.told c.args.reader.now) (g.R.Source.told c.replace.new.reader)
    (g.W.Sink.told c.args.writer.now) (g.W.Sink.told c.replace.new.writer) c.replace.result c.replace.ensures
