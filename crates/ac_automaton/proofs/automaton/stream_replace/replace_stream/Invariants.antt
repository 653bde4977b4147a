use Rattle.ac_util.proofs.Prelude.{◌-◌, length}
use Rattle.ac_automaton.specs.Prelude.{IsAllGiven, Occurrence, usize_max}
use Rattle.ac_automaton.proofs.StreamReplaced.{IsReplacing}
use Rattle.ac_automaton.proofs.automaton.stream_replace.replace_stream.Given as goal

-- all matches of what was read that are settled were exchanged, and all that is settled was written
abbrev pub invariant-loop-finder : goal.invariant-loop-finder
invariant-loop-finder g l =
    let R = g.R.Source in let E = g.E.Exchange in record {
      accepted : (m : Occurrence) → E.accepts l.fn.exchange m → E.accepts l.exchange m;
      on : IsReplacing E.passing E.calls R.empty_means_end l.fn.finder.built (R.told l.fn.reader)
          (record { closure = l.fn.exchange; destination = l.fn.writer }) (R.told l.reader) l.finder
          (record { closure = l.exchange; destination = l.writer });
      all : IsAllGiven l.finder;
    }

abbrev pub decreases-loop-finder : goal.decreases-loop-finder
decreases-loop-finder g l = usize_max - length l.finder.bytes
