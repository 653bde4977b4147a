use Rattle.ac_util.proofs.Prelude.{◌∙◌, true, false, refl, sym, false≢true, append-nil}
use Rattle.ac_util.proofs.PlainListing.{number_added}
use Rattle.ac_util.proofs.plain.list.add_at.Goals as goal
use Rattle.ac_util.proofs.plain.list.add_at.Goals.{then-occurs+in_ok-push, else-occurs}

-- one more number: its match was added exactly if it occurs
pub loop-number-preserved : goal.loop-number-preserved
loop-number-preserved c = elim c.if-occurs.branch [
  | then-occurs+in_ok-push w ↦
      number_added c.args.query.now c.args.start c.args.end c.loop-number.number true c.args.found.now.items
      c.loop-number.found.items c.if-occurs.found.items
      (λ t. c.occurs.ensures.0 w.if-occurs.true, λ o. refl) c.loop-number.invariant
      (cc (w.in_ok-push.ensures.items, w.must.ensures.value))
  | else-occurs w ↦
      number_added c.args.query.now c.args.start c.args.end c.loop-number.number false c.args.found.now.items
      c.loop-number.found.items c.if-occurs.found.items
      (λ t. absurd (false≢true t), λ o. absurd (false≢true (sym w.if-occurs.false ∙ c.occurs.ensures.1 o)))
      c.loop-number.invariant (simp append-nil (cc w.found-is))
]
