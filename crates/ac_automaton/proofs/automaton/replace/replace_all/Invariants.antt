use Rattle.ac_util.proofs.Prelude.{◌≡◌, ◌++◌, length, string_bytes}
use Rattle.ac_automaton.specs.Prelude.{AreInOrder, bytes_of, replaced, replaced_from, whole_characters}
use Rattle.std.specs.Str.{IsCharBoundary}
use Rattle.ac_automaton.proofs.automaton.replace.replace_all.Given as goal

-- what was written, and then what stands from this place on with those of the matches left exchanged that cut no
-- character, is the whole
abbrev pub invariant-loop-found : goal.invariant-loop-found
invariant-loop-found g l =
    IsCharBoundary l.text l.place
    × AreInOrder (length l.text) (length l.texts) l.place (g.W.Walk.left l.walk)
    × (string_bytes l.replaced ++ replaced_from l.text (bytes_of l.texts) l.place
    (whole_characters l.text (g.W.Walk.left l.walk))
    ≡ replaced l.text (bytes_of l.texts) (whole_characters l.text (g.W.Walk.left l.fn.walk)))

-- each turn takes one of the matches that are left
abbrev pub decreases-loop-found : goal.decreases-loop-found
decreases-loop-found g l = length (g.W.Walk.left l.walk)
