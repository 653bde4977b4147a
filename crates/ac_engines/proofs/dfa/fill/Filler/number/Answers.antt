use Rattle.ac_util.proofs.Prelude.{arith, ap, slice_index_or}
use Rattle.ac_engines.specs.Prelude.{Filling}
use Rattle.ac_engines.proofs.Numbered.{place-row}
use Rattle.ac_engines.proofs.dfa.fill.Filler.number.Goals as goal

-- and this is its number
pub returns : goal.returns
returns g c = λ nodes size w h.
    let place = place-row c.args.self.now nodes size c.args.sid w h in
    let numbers = ap (λ (f : Filling). slice_index_or f.numbers c.args.sid 0) c.self.view_is in
    let first = c.first_row.ensures.value in
    let shift = c.anchored_shift.ensures in
    let must = c.must.ensures.value in
    omega arith
