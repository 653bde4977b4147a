use Rattle.ac_util.proofs.Prelude.{ℕ, length}
use Rattle.ac_automaton.specs.Prelude.{AreInOrder}
use Rattle.ac_automaton.proofs.Exchanging.{LeadsOn}
use Rattle.ac_automaton.proofs.automaton.replace.replace_all_with_bytes.Given as goal

-- steps over the matches that are left are the last of the whole
abbrev pub invariant-loop-found : goal.invariant-loop-found
invariant-loop-found g l =
    goal.F-IsAlwaysCallable g l.exchange
    × ((texts : ℕ) × AreInOrder (length l.haystack) texts l.place (g.W.Walk.left l.walk))
    × LeadsOn g.F.FnMut (λ d. d.items) l.haystack (g.W.Walk.left l.fn.walk) l.fn.exchange l.fn.destination l.place
    (g.W.Walk.left l.walk) l.exchange l.destination

-- each turn takes one of the matches that are left
abbrev pub decreases-loop-found : goal.decreases-loop-found
decreases-loop-found g l = length (g.W.Walk.left l.walk)
