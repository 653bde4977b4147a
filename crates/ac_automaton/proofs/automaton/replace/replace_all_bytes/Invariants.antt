use Rattle.ac_util.proofs.Prelude.{◌≡◌, ◌++◌, length}
use Rattle.ac_automaton.specs.Prelude.{AreInOrder, bytes_of, replaced, replaced_from}
use Rattle.ac_automaton.proofs.automaton.replace.replace_all_bytes.Given as goal

-- what was written, and then what stands from this place on with the matches that are left exchanged, is the whole
abbrev pub invariant-loop-found : goal.invariant-loop-found
invariant-loop-found g l =
    AreInOrder (length l.haystack) (length l.texts) l.place (g.W.Walk.left l.walk)
    × (l.replaced.items ++ replaced_from l.haystack (bytes_of l.texts) l.place (g.W.Walk.left l.walk)
    ≡ replaced l.haystack (bytes_of l.texts) (g.W.Walk.left l.fn.walk))

-- each turn takes one of the matches that are left
abbrev pub decreases-loop-found : goal.decreases-loop-found
decreases-loop-found g l = length (g.W.Walk.left l.walk)
