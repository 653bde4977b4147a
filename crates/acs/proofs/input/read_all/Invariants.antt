use Rattle.std.proofs.Common.{◌≡◌, ◌≤◌, length}
use Rattle.ac_search.specs.Device.{ReadsSome}
use Rattle.acs.proofs.input.read_all.Given as goal

abbrev pub invariant-loop : goal.invariant-loop
invariant-loop g l =
    record {
      reads : ReadsSome (g.R.Source.told l.fn.reader) (g.R.Source.told l.reader) l.bytes.items;
      room : length l.piece.items ≡ 65536;
      count : l.counter ≤ length l.bytes.items;
    }
