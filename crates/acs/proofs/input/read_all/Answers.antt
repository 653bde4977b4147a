use Rattle.std.proofs.Common.{length-append, ◌≡◌, ℕ, List, ◌++◌, drop, length, take, ap, sym, ◌∙◌, subst, arith}
use Rattle.std.proofs.lemmas.List.{length-take-le, take_at}
use Rattle.std.proofs.lemmas.Grind.{common_steps}
use Rattle.ac_search.specs.Device.{ReadsSome}
use Rattle.acs.proofs.Reading.{reads-more}
use Rattle.acs.proofs.Results.{refused-by}
use Rattle.acs.proofs.input.read_all.Goals as goal

pub returns-in_err-extend_from_slice-in-Ok : goal.returns-in_err-extend_from_slice-in-Ok
returns-in_err-extend_from_slice-in-Ok g c =
    grind (
      arith,
      common_steps,
      refused-by,
      reads-more (λ e. absurd (omega (arith, c.in-Ok.n-test))) c.loop.invariant.reads c.in-Ok.ensures,
    )

pub loop-preserved : goal.loop-preserved
loop-preserved g c =
    let told = g.R.Source.told in
    let long : length c.read_some.new.into ≡ c.loop.piece.len =
    c.read_some.auto.into ∙ c.deref_mut.ensures.len in
    let whole = take_at c.read_some.new.into (drop (length c.read_some.new.into) c.loop.piece.items) c.loop.piece.len long in
    let came : c.extend_from_slice.new.self.items ≡ c.loop.bytes.items ++ take c.in-Ok.n c.read_some.new.into =
    c.in_ok-extend_from_slice-in-Ok.ensures.items
    ∙ ap (λ (xs : List ℕ). c.loop.bytes.items ++ take c.in-Ok.n xs) (c.deref.ensures.value ∙ whole) in
    record {
      reads = subst (ReadsSome (told c.args.reader.now) (told c.read_some.new.self)) (sym came)
          (reads-more (λ e. absurd (omega (arith, c.in-Ok.n-test))) c.loop.invariant.reads c.in-Ok.ensures);
      room = ap length whole ∙ long ∙ c.loop.piece.ok.0 ∙ c.loop.invariant.room;
      count = (let l = ap length came in let m = c.loop.invariant.count in
          let t = length-take-le c.in-Ok.n c.read_some.new.into c.in-Ok.ensures.within in
          let a = length-append c.loop.bytes.items (take c.in-Ok.n c.read_some.new.into) in
          omega (arith, c.in-Ok.n-test));
    }
