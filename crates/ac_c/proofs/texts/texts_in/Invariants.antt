use Rattle.ac_util.proofs.Prelude.{◌≡◌, ◌++◌, drop, length, true}
use Rattle.ac_search.specs.Patterns.{bytes_of}
use Rattle.ac_c.specs.Texts.{are_ends, texts_in}
use Rattle.ac_c.proofs.texts.texts_in.Given as goal

-- the texts so far and those up to the ends that are left are all texts
abbrev pub invariant-loop-end : goal.invariant-loop-end
invariant-loop-end l =
    record {
      ends : are_ends (length l.bytes) l.start (drop l.end-index l.ends) ≡ true;
      texts : bytes_of l.texts.items ++ texts_in l.bytes l.start (drop l.end-index l.ends) ≡ texts_in l.bytes 0 l.ends;
    }
