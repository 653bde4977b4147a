use Rattle.ac_util.proofs.Prelude.{ℕ, length, string_bytes}
use Rattle.ac_automaton.specs.Prelude.{AreInOrder, whole_characters}
use Rattle.std.specs.Str.{IsCharBoundary}
use Rattle.ac_automaton.proofs.Exchanging.{LeadsOn}
use Rattle.ac_automaton.proofs.automaton.replace.replace_all_with.Given as goal

-- steps over those of the matches left that cut no character are the last of the whole
abbrev pub invariant-loop-found : goal.invariant-loop-found
invariant-loop-found g l =
    goal.F-IsAlwaysCallable g l.exchange
    × IsCharBoundary l.text l.place
    × ((texts : ℕ) × AreInOrder (length l.text) texts l.place (g.W.Walk.left l.walk))
    × LeadsOn g.F.FnMut (λ d. string_bytes d) l.text (whole_characters l.text (g.W.Walk.left l.fn.walk))
    l.fn.exchange l.fn.destination l.place (whole_characters l.text (g.W.Walk.left l.walk)) l.exchange l.destination

-- each turn takes one of the matches that are left
abbrev pub decreases-loop-found : goal.decreases-loop-found
decreases-loop-found g l = length (g.W.Walk.left l.walk)
