use Rattle.ac_util.proofs.Prelude.{◌≡◌, ◌-◌, ◌+◌, ◌≤◌, ℕ, List, [], Option, None, Some, IfSome, arith, drop, drop_all, length, length-drop, min, take, take_all}
use Rattle.ac_util.specs.Patterns.{usize_max}
use Rattle.ac_search.specs.declared.ahocorasick.piece_replacer.DueText.{DueText}
use Rattle.ac_search.proofs.PieceReplacerSteps.{due-shown, replacing-left, so-far-left, writes-due}
use Rattle.ac_search.proofs.ahocorasick.piece_replacer.PieceReplacer.write_due.Goals as goal

pub bytes-requires-clause-within : goal.bytes-requires-clause-within
bytes-requires-clause-within g c = due-shown c.self.invariant

-- no more is written of a text than is left of it
few : (text : Option DueText) (left : List ℕ) (count room : ℕ) → count ≡ min (length left) room
    → IfSome text (λ t. t.at + length left ≤ usize_max) → IfSome text (λ t. t.at + count ≤ usize_max)
few None left count room least small = tt
few (Some t) left count room least small = omega arith

pub after-self-inside-requires-clause-count : goal.after-self-inside-requires-clause-count
after-self-inside-requires-clause-count g c =
    few c.self.inside.due.text c.left_of.result.now c.copy_to-text.result _ c.copy_to-text.ensures.least c.left_of.ensures.small

-- the end of a slice is what follows its beginning, and nothing follows that
end-is : (n : ℕ) (out : List ℕ) → take (length out - n) (drop n out) ≡ drop n out
end-is n out = take_all (length out - n) (drop n out) (let l = length-drop n out in omega arith)

past-end : (n : ℕ) (out : List ℕ) → drop (length out - n) (drop n out) ≡ []
past-end n out = drop_all (length out - n) (drop n out) (let l = length-drop n out in omega arith)

pub invariant_of-self : goal.invariant_of-self
invariant_of-self g c =
    replacing-left c.self.invariant _ _ _ _ _ _ _ _ c.bytes.ensures c.copy_to-gap.ensures.least c.copy_to-gap.ensures.copied _
    (end-is c.copy_to-gap.result c.copy_to-gap.new.out) c.left_of.ensures.value c.copy_to-text.ensures.least c.copy_to-text.ensures.copied
    (past-end c.copy_to-gap.result c.copy_to-gap.new.out) _ c.with-self-inside.ensures _ c.after-self-inside.ensures

pub returns-clause-writes : goal.returns-clause-writes
returns-clause-writes g c =
    writes-due c.self.invariant _ _ _ _ _ _ _ _ c.bytes.ensures c.copy_to-gap.ensures.least c.copy_to-gap.ensures.copied _
    (end-is c.copy_to-gap.result c.copy_to-gap.new.out) c.left_of.ensures.value c.copy_to-text.ensures.least c.copy_to-text.ensures.copied
    (past-end c.copy_to-gap.result c.copy_to-gap.new.out) _ c.with-self-inside.ensures _ c.after-self-inside.ensures c.args.self.now
    c.self.view_is

pub returns-clause-so_far : goal.returns-clause-so_far
returns-clause-so_far g c =
    so-far-left c.self.invariant _ _ _ _ _ _ _ _ c.bytes.ensures c.copy_to-gap.ensures.least c.copy_to-gap.ensures.copied _
    (end-is c.copy_to-gap.result c.copy_to-gap.new.out) c.left_of.ensures.value c.copy_to-text.ensures.least c.copy_to-text.ensures.copied
    (past-end c.copy_to-gap.result c.copy_to-gap.new.out) _ c.with-self-inside.ensures _ c.after-self-inside.ensures
