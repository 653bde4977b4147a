use Rattle.ac_util.proofs.Prelude.{◌≡◌, ◌-◌, ℕ, List, [], arith, drop, drop_all, length, length-drop, take, take_all}
use Rattle.ac_search.proofs.ReplacerLoops.{first-replaced, full-replaced, last-replaced, next-replaced}
use Rattle.ac_search.proofs.ahocorasick.piece_replacer.PieceReplacer.write.Goals as goal

pub loop-filled-init : goal.loop-filled-init
loop-filled-init g c = first-replaced c.write_due-filled.ensures.writes c.write_due-filled.ensures.so_far

-- the end of a slice is what follows its beginning, and nothing follows that
end-is : (n : ℕ) (out : List ℕ) → take (length out - n) (drop n out) ≡ drop n out
end-is n out = take_all (length out - n) (drop n out) (let l = length-drop n out in omega arith)

past-end : (n : ℕ) (out : List ℕ) → drop (length out - n) (drop n out) ≡ []
past-end n out = drop_all (length out - n) (drop n out) (let l = length-drop n out in omega arith)

pub loop-filled-preserved : goal.loop-filled-preserved
loop-filled-preserved g c =
    next-replaced c.loop-filled.invariant c.take_some.ensures.takes _ (end-is c.loop-filled.filled c.loop-filled.out)
    c.write_due-filled-in-loop-filled.ensures.writes c.write_due-filled-in-loop-filled.ensures.so_far _
    (past-end c.loop-filled.filled c.loop-filled.out)

pub returns-else-take_some : goal.returns-else-take_some
returns-else-take_some g c =
    last-replaced c.loop-filled.invariant c.take_some.ensures.takes c.if-take_some.false c.take_some.ensures.so_far

pub returns-after-loop-filled : goal.returns-after-loop-filled
returns-after-loop-filled g c = full-replaced c.loop-filled.invariant c.loop-filled-test.false
