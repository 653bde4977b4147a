use Rattle.ac_util.proofs.Prelude.{◌≡◌, ◌++◌, drop}
use Rattle.ac_automaton.specs.Util.{bytes_of}
use Rattle.ac_search.proofs.ahocorasick.piece_replacer.copy_of.Given as goal

-- the texts so far were copied
abbrev pub invariant-loop-text : goal.invariant-loop-text
invariant-loop-text g l = l.pieces ++ bytes_of (drop l.text-index l.texts) ≡ bytes_of l.texts
