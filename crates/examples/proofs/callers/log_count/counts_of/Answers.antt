use Rattle.std.proofs.Common.{arith, rules, subst, sym}
use Rattle.std.proofs.lemmas.Grind.{common_steps}
use Rattle.examples.specs.Callers.{CountsEach}
use Rattle.examples.proofs.LabelCounts.{counts-few, counts-more}
use Rattle.examples.proofs.callers.log_count.counts_of.Goals as goal

pub loop-item-init : goal.loop-item-init
loop-item-init g c =
    let begun = c.finder_goes_on.ensures.begins _ _ (g.R.Source.told c.args.log.now) c.in_ok-finder.finder c.in_ok-finder.ensures.1 in
    record { underway = begun.0; counted = record { whole = search rules; each = λ i d less. grind (arith, common_steps, begun.1) } }

pub index_mut-requires : goal.index_mut-requires
index_mut-requires g c =
    let one = c.finder_goes_on.ensures.goes_on _ _ _ _ _ _ _ c.in-Ok.m c.loop-item.invariant.underway (rw c.in-Ok.is at c.in-Some.ensures) in
    let whole = c.loop-item.invariant.counted.whole in search (rules, one.numbered)

pub overflow_add-index_mut : goal.overflow_add-index_mut
overflow_add-index_mut g c =
    let one = c.finder_goes_on.ensures.goes_on _ _ _ _ _ _ _ c.in-Ok.m c.loop-item.invariant.underway (rw c.in-Ok.is at c.in-Some.ensures) in
    let few = counts-few c.loop-item.invariant.counted c.in-Ok.m.pattern c.index_mut.result.now one.numbered in
    let room = one.few in let more = one.one_more in grind (arith, common_steps)

pub loop-item-preserved : goal.loop-item-preserved
loop-item-preserved g c =
    let one = c.finder_goes_on.ensures.goes_on _ _ _ _ _ _ _ c.in-Ok.m c.loop-item.invariant.underway (rw c.in-Ok.is at c.in-Some.ensures) in
    let more = counts-more c.loop-item.invariant.counted c.in-Ok.m c.index_mut.result.now one.numbered in
    record { underway = one.underway; counted = subst (CountsEach _ _) (sym one.one_more) (search (rules, more)) }

pub returns-in-Err-Io : goal.returns-in-Err-Io
returns-in-Err-Io g c =
    let stopped = c.finder_goes_on.ensures.failed _ _ _ _ _ _ _ c.in-Err-Io.field-0 c.loop-item.invariant.underway
    (rw c.in-Err-Io.is at c.in-Some.ensures) in
    let read = stopped.read c.in-Err-Io.field-0-0 (search rules) in
    record { bytes = _; read = read.0; counted = subst (CountsEach _ _) (stopped.all c.requires) c.loop-item.invariant.counted; stopped = read.1 }

pub returns : goal.returns
returns g c =
    let all = c.finder_goes_on.ensures.ends _ _ _ _ _ _ _ c.loop-item.invariant.underway c.in_default.ensures in
    let counted = subst (CountsEach _ _) all.all c.loop-item.invariant.counted in
    record { bytes = _; read = all.underway.read; counted = counted; stopped = (all.underway.failed, all.underway.ended all.end) }
