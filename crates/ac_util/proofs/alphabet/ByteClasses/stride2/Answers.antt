use Rattle.ac_util.proofs.Prelude.{rules}
use Rattle.std.proofs.lemmas.Nat.{one_shl}
use Rattle.ac_util.proofs.StrideLemmas.{stride2-is}
use Rattle.ac_util.proofs.alphabet.ByteClasses.stride2.Goals as goal

-- this power of two is the first that isn't below the number of classes
pub returns-then-len-exponent-clause-value : goal.returns-then-len-exponent-clause-value
returns-then-len-exponent-clause-value c = search (rules, one_shl, stride2-is)

-- all powers of two below 2 ^ 8 are below it
pub returns-clause-value : goal.returns-clause-value
returns-clause-value c = search (rules, stride2-is)
