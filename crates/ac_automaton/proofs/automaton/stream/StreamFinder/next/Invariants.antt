use Rattle.ac_util.proofs.Prelude.{◌≡◌, ◌⊎◌, ◌≤◌, ◌-◌, ◌++◌, ℕ, List, length}
use Rattle.ac_automaton.specs.Prelude.{IsSettledBefore, ReadsSome, KeepsGiven, Open, usize_max}
use Rattle.ac_automaton.proofs.automaton.stream.StreamFinder.next.Given as goal

-- so far some bytes were read, and no match was given
abbrev pub invariant-loop-found : goal.invariant-loop-found
invariant-loop-found g l =
    let told = g.R.Source.told in
    record {
      more : List ℕ;
      reads : ReadsSome (told l.fn.reader) (told l.reader) more;
      goes_on : l.fn.self.phase ≡ Open;
      small : length (l.fn.self.bytes ++ more) ≤ usize_max;
      given : KeepsGiven l.fn.self (l.fn.self.bytes ++ more);
      needed : (told l.reader ≡ told l.fn.reader)
          ⊎ ((before : List ℕ) × (place : ℕ)
          × IsSettledBefore l.fn.self.built (l.fn.self.bytes ++ more) before l.fn.self.given place);
      same : l.self ≡ record l.fn.self { bytes = l.fn.self.bytes ++ more; front = l.self.front; kept = l.self.kept };
    }

abbrev pub decreases-loop-found : goal.decreases-loop-found
decreases-loop-found g l = usize_max - length l.self.bytes
