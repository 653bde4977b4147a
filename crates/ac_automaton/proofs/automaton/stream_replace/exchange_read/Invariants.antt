use Rattle.ac_util.proofs.Prelude.{◌≡◌, ◌-◌, ℕ, length}
use Rattle.ac_automaton.specs.Prelude.{Occurrence, Replacing, HasReplaced, matches_so_far}
use Rattle.ac_automaton.proofs.automaton.stream_replace.exchange_read.Given as goal

-- whatever was done before, some more of the matches were exchanged
abbrev pub invariant-loop-found : goal.invariant-loop-found
invariant-loop-found g l =
    let E = g.E.Exchange in record {
      accepted : (m : Occurrence) → E.accepts l.fn.exchange m → E.accepts l.exchange m;
      same : l.finder ≡ record l.fn.finder { given = l.finder.given; kept = l.finder.kept };
      replaced : (count from : ℕ) (first : Replacing _ _)
          → HasReplaced E.passing E.calls count from l.fn.finder first
          (record { closure = l.fn.exchange; destination = l.fn.writer })
          → HasReplaced E.passing E.calls count from l.finder first
          (record { closure = l.exchange; destination = l.writer });
    }

abbrev pub decreases-loop-found : goal.decreases-loop-found
decreases-loop-found g l = length (matches_so_far l.finder) - l.finder.given
