use Rattle.ac_util.proofs.Prelude.{◌≡◌, ◌++◌, ◌≤◌, drop, length}
use Rattle.ac_util.specs.Prelude.{bytes_of, replaced, replaced_from}
use Rattle.ac_util.proofs.PlainReplaced.{StartsFrom}
use Rattle.ac_util.proofs.plain.exchange.replaced.Given as goal

-- the bytes so far, and what stands from this place on, are the whole
abbrev pub invariant-loop-found : goal.invariant-loop-found
invariant-loop-found l = record {
  parts : l.bytes.items ++ replaced_from l.haystack (bytes_of l.texts) l.place
      (drop l.found-index l.matches) ≡ replaced l.haystack (bytes_of l.texts) l.matches;
  within : l.place ≤ length l.haystack;
  next : StartsFrom l.place l.matches l.found-index;
}
