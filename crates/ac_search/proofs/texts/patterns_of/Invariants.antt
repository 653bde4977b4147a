use Rattle.ac_util.proofs.Prelude.{◌≡◌, ◌++◌, All, drop}
use Rattle.std.specs.Str.{IsUtf8}
use Rattle.ac_util.specs.Patterns.{bytes_of}
use Rattle.ac_search.proofs.texts.patterns_of.Given as goal

abbrev pub invariant-loop-text : goal.invariant-loop-text
invariant-loop-text g l =
    record {
      same : bytes_of l.patterns.items ++ bytes_of (drop l.text-index l.texts) ≡ bytes_of l.texts;
      texts : All IsUtf8 (bytes_of l.patterns.items);
    }
