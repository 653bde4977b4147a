use Rattle.std.proofs.Common.{◌≡◌, map, take}
use Rattle.std.specs.Prelude.{string_bytes}
use Rattle.acs.proofs.request.words_among.Given as goal

abbrev pub invariant-loop-word : goal.invariant-loop-word
invariant-loop-word g l = map (λ p. p.now) l.words.items ≡ map string_bytes (take l.word-index l.rest)
