use Rattle.ac_util.proofs.Prelude.{List, ℕ, [], refl, subst}
use Rattle.ac_search.specs.PieceReplacements.{PieceReplacing, TakesAndReplaces}
use Rattle.ac_c.proofs.StreamSteps.{none-left}
use Rattle.ac_c.proofs.replacer.end.Goals as goal

-- of no bytes none are left
pub returns-clause-ends : goal.returns-clause-ends
returns-clause-ends c = λ _.
    let writes = c.write.ensures in
    record {
      before = c.in-Some.replacer;
      was = c.in-Some.is;
      after = c.write.new.self;
      is = refl;
      so =
          subst (λ (old : PieceReplacing). TakesAndReplaces old [] c.args.out.now c.write.new.out c.write.result c.write.new.self []) c.end.ensures
          (subst (λ (left : List ℕ). TakesAndReplaces c.end.new.self [] c.args.out.now c.write.new.out c.write.result c.write.new.self left)
          (none-left writes.taken c.write.new.piece.now writes.parted) writes);
    }
