use Rattle.ac_util.proofs.Prelude.{◌≡◌, ap, subst}
use Rattle.ac_automaton.specs.Prelude.{Built, bytes_of, FailsToReplace, ReplacesStream, Replacing, Streaming, ByTexts}
use Rattle.ac_automaton.proofs.StreamReplacing.{answers-by}
use Rattle.ac_automaton.proofs.StreamTexts.{fails-by, replaces-by}
use Rattle.ac_automaton.proofs.automaton.Automaton.try_stream_replace_all.Goals as goal

pub returns : goal.returns
returns g c =
    let ends = g.R.Source.empty_means_end in
    let reader = g.R.Source.told c.args.reader.now in
    let new_reader = g.R.Source.told c.replace_stream.new.reader in
    let old = g.W.Sink.told c.args.writer.now in
    let new = g.W.Sink.told c.replace_stream.new.writer in
    let texts = λ (e : ByTexts). bytes_of e.texts.now in
    let list = bytes_of c.args.texts.now in
    let before : Replacing _ _ = record { closure = c.new-exchange.result; destination = c.args.writer.now } in
    let after : Replacing _ _ =
    record { closure = c.replace_stream.new.exchange; destination = c.replace_stream.new.writer } in
    let same = ap texts c.new-exchange.ensures in
    let clear = ap (λ (e : ByTexts). e.gathered) c.new-exchange.ensures in
    let built : c.in_ok-finder.finder.built ≡ (g.Self.Automaton.seen c.args.self.now).built =
    ap (λ (v : Streaming). v.built) c.in_ok-finder.ensures.1 in
    answers-by _ _ c.in_ok-finder.ensures.0
    (λ done. subst (λ (b : Built). ReplacesStream b list old new ends reader new_reader) built
    (replaces-by _ texts (λ d e p. ap texts p) ends c.in_ok-finder.finder.built reader new_reader list before after same clear done))
    (λ e fails. subst (λ (b : Built). FailsToReplace b list old new ends reader new_reader e) built
    (fails-by _ texts (λ d e p. ap texts p) ends c.in_ok-finder.finder.built reader new_reader list before after same clear e fails))
    c.replace_stream.result c.replace_stream.ensures
