use Rattle.ac_util.proofs.Prelude.{◌≡◌, drop, length, true}
use Rattle.ac_search.specs.Patterns.{too_long_from}
use Rattle.ac_c.specs.Texts.{are_ends, texts_in}
use Rattle.ac_c.proofs.texts.passes_limit.Given as goal

-- the first text that is too long is one of those that are left
abbrev pub invariant-loop-end : goal.invariant-loop-end
invariant-loop-end l =
    record {
      ends : are_ends (length l._bytes) l.start (drop l.end-index l.ends) ≡ true;
      same : too_long_from l.end-index (texts_in l._bytes l.start (drop l.end-index l.ends)) ≡ too_long_from 0 (texts_in l._bytes 0 l.ends);
    }
