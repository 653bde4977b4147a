use Rattle.std.proofs.Common.{Bool, List, ℕ, Result, Ok, Err, MatchResult, OnOk, rules, subst}
use Rattle.ac_search.specs.Alike.{LeavesWhole}
use Rattle.ac_search.specs.Built.{Built}
use Rattle.ac_search.specs.Device.{Reading, ReadsAll, Writing, WritesAll}
use Rattle.ac_search.specs.Stream.{ExchangesAll, stream_result}
use Rattle.examples.proofs.callers.copier.copy.Goals as goal

-- what was written with each match as it stands is the stream
copied : {E : Type 0} (built : Built) (ends : Bool) (reader new_reader : Reading) (old new : Writing)
    (same : (bytes : List ℕ) → LeavesWhole bytes (stream_result built bytes)) (Fails : Type 0) (r : Result (Unit {0}) E)
    → MatchResult r (λ _. ExchangesAll built (λ m slice. slice) ends reader new_reader old new) (λ _. Fails)
    → OnOk r ((bytes : List ℕ) × ReadsAll ends reader new_reader bytes × WritesAll old new bytes)
copied built ends reader new_reader old new same Fails (Ok done) all =
    (all.0, all.1, subst (WritesAll old new) (same all.0) all.2)
copied built ends reader new_reader old new same Fails (Err e) fails = tt

-- each call writes the match
pub returns : goal.returns
returns g c =
    let call = c.try_stream_replace_all_with in let built = c.args.searcher.now.built in
    copied built g.R.Source.empty_means_end (g.R.Source.told c.args.reader.now) (g.R.Source.told call.new.reader)
    (g.W.Sink.told c.args.writer.now) (g.W.Sink.told call.new.writer) (c.matches_and_gaps_make_the_whole.ensures.stream built) _ call.result
    (c.closures_write_exchanged.ensures.closure built (λ m slice. slice) (λ m slice s r t h.
    let called = h.called in let shows = h.shows in let leaves = h.leaves in search rules) _ c.args.reader.now
    call.new.reader c.args.writer.now call.new.writer call.result call.ensures)
