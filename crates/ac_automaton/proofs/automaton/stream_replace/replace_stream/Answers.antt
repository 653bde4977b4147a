use Rattle.ac_util.proofs.Prelude.{Bool, subst, MatchBool, arith, rules, common_steps}
use Rattle.ac_automaton.specs.Prelude.{FillsMore, MeetsEnd}
use Rattle.ac_automaton.proofs.Places.{match-by, refused-by}
use Rattle.ac_automaton.proofs.StreamReplaced.{begins, ends-there, fails-at-last, fails-exchanging, fails-reading, fills, goes-on, replaces}
use Rattle.ac_automaton.proofs.StreamBegins.{given-at}
use Rattle.ac_automaton.proofs.automaton.stream_replace.replace_stream.Given.{Over}
use Rattle.ac_automaton.proofs.automaton.stream_replace.replace_stream.Goals.{After-exchange_read}
use Rattle.ac_automaton.proofs.automaton.stream_replace.replace_stream.Goals as goal

pub loop-finder-init : goal.loop-finder-init
loop-finder-init g c = search (rules, begins, given-at)

pub returns-in_err-fill : goal.returns-in_err-fill
returns-in_err-fill g c =
    let inv = c.loop-finder.invariant in
    refused-by c.from_residual.result c.in_err-fill.field-0.0 _ _ c.from_residual.ensures.1
    (fails-reading g.E.Exchange.passing g.E.Exchange.calls _ _ _ _ inv.on inv.all.within inv.all
    c.in_err-fill.field-0.0 c.in_err-fill.ensures)

-- more was read
filled : (g : Over) (c : After-exchange_read g) → FillsMore c.loop-finder.finder c.fill.new.self
    (g.R.Source.told c.loop-finder.reader) (g.R.Source.told c.fill.new.reader)
filled g c = search rules

pub loop-finder-preserved : goal.loop-finder-preserved
loop-finder-preserved g c =
    let inv = c.loop-finder.invariant in
    let done = c.in_ok-exchange_read.ensures.exchanged in
    let on = fills g.E.Exchange.passing g.E.Exchange.calls g.R.Source.empty_means_end _ _ _ inv.on inv.all.within (filled g (goal.at.loop-finder-preserved g c).After-exchange_read) in
    record {
      accepted = λ m accepts. c.exchange_read.ensures.accepted m (inv.accepted m accepts);
      on = goes-on g.E.Exchange.passing g.E.Exchange.calls g.R.Source.empty_means_end _ _ _ on done;
      all = done.all;
    }

pub returns-in_err-exchange_read : goal.returns-in_err-exchange_read
returns-in_err-exchange_read g c =
    let inv = c.loop-finder.invariant in
    refused-by c.from_residual-in_err-exchange_read.result c.in_err-exchange_read.field-0.0 _ _
    c.from_residual-in_err-exchange_read.ensures.1
    (fails-exchanging g.E.Exchange.passing g.E.Exchange.calls g.R.Source.empty_means_end _ _ _ inv.on inv.all.within inv.all
    (filled g (goal.at.returns-in_err-exchange_read g c).After-exchange_read)
    c.in_err-exchange_read.field-0.0 _ c.in_err-exchange_read.ensures.exchanged)

pub returns : goal.returns
returns g c =
    let told = g.R.Source.told in
    let inv = c.loop-finder.invariant in
    let v = c.loop-finder.finder in
    let met : MeetsEnd g.R.Source.empty_means_end v c.fill.new.self (told c.loop-finder.reader) (told c.fill.new.reader) =
    subst (λ (more : Bool). MatchBool more
    (FillsMore v c.fill.new.self (told c.loop-finder.reader) (told c.fill.new.reader))
    (MeetsEnd g.R.Source.empty_means_end v c.fill.new.self (told c.loop-finder.reader) (told c.fill.new.reader)))
    c.if-branch.false c.in_ok-fill.ensures in
    let on = ends-there g.E.Exchange.passing g.E.Exchange.calls g.R.Source.empty_means_end _ _ _ inv.on inv.all.within met in
    match-by c.exchange_read-2.result _ _
    (λ done exchanged. replaces g.E.Exchange.passing g.E.Exchange.calls g.R.Source.empty_means_end _ _ _ on exchanged)
    (λ e fails. fails-at-last g.E.Exchange.passing g.E.Exchange.calls g.R.Source.empty_means_end _ _ _ inv.on inv.all.within inv.all
    met e _ fails)
    c.exchange_read-2.ensures.exchanged

pub fill-requires-clause-settled : goal.fill-requires-clause-settled
fill-requires-clause-settled g c = c.loop-finder.invariant.all

pub loop-finder-smaller : goal.loop-finder-smaller
loop-finder-smaller g c = grind (arith, common_steps)
