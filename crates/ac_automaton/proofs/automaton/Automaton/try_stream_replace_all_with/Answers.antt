use Rattle.ac_util.proofs.Prelude.{◌≡◌, ap, subst}
use Rattle.ac_automaton.specs.Prelude.{Built, FailsToReplaceWith, ReplacesStreamWith, Replacing, Streaming}
use Rattle.ac_automaton.proofs.StreamReplacing.{answers-by, fails-with, replaces-with}
use Rattle.ac_automaton.proofs.automaton.Automaton.try_stream_replace_all_with.Goals as goal

pub returns : goal.returns
returns g c =
    let told = g.W.Sink.told in
    let ends = g.R.Source.empty_means_end in
    let reader = g.R.Source.told c.args.reader.now in
    let new_reader = g.R.Source.told c.replace_stream.new.reader in
    let old = c.args.writer.now in
    let new = c.replace_stream.new.writer in
    let after : Replacing _ _ = record { closure = c.replace_stream.new.exchange; destination = new } in
    let built : c.in_ok-finder.finder.built ≡ (g.Self.Automaton.seen c.args.self.now).built =
    ap (λ (v : Streaming). v.built) c.in_ok-finder.ensures.1 in
    answers-by _ _ c.in_ok-finder.ensures.0
    (λ done. subst (λ (b : Built). ReplacesStreamWith told g.F.FnMut b c.args.closure old ends reader new_reader new) built
    (replaces-with told g.F.FnMut ends c.in_ok-finder.finder.built reader new_reader c.args.closure old after done))
    (λ e fails. subst (λ (b : Built). FailsToReplaceWith told g.F.FnMut b c.args.closure old ends reader new_reader new e) built
    (fails-with told g.F.FnMut ends c.in_ok-finder.finder.built reader new_reader c.args.closure old after e fails))
    c.replace_stream.result c.replace_stream.ensures
