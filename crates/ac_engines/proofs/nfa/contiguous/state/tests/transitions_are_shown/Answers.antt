use Rattle.ac_util.proofs.Prelude.{List, ℕ, subst, sym}
use Rattle.ac_engines.specs.Prelude.{BeginsWith, Dense}
use Rattle.ac_engines.proofs.Vectors.{dense-begins, three_classes}
use Rattle.ac_engines.proofs.nfa.contiguous.state.tests.transitions_are_shown.Goals as goal

pub transitions-requires : goal.transitions-requires
transitions-requires g c =
    (Dense, three_classes, subst (λ (ns : List ℕ). BeginsWith ns Dense 3 three_classes) (sym c.at.ensures) dense-begins)
