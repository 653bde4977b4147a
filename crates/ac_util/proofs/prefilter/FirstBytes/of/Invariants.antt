use Rattle.ac_util.proofs.Prelude.{◌≡◌, ◌≤◌, length, take, filter, range_with_len}
use Rattle.ac_util.specs.Prelude.{is_marked}
use Rattle.ac_util.proofs.prefilter.FirstBytes.of.Given as goal

-- the marked ones of the bytes so far are noted, which are at most three
abbrev pub invariant-loop-byte : goal.invariant-loop-byte
invariant-loop-byte l = record {
  whole : length l.bytes ≡ 3;
  few : l.count ≤ 3;
  noted : take l.count l.bytes ≡ filter (is_marked l.ignores_case l.marks) (range_with_len 0 l.byte);
}
