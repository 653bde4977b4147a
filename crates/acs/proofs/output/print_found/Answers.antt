use Rattle.std.proofs.Common.{length-append, rules}
use Rattle.std.proofs.KnownBytes.{Appends-nil}
use Rattle.acs.proofs.Results.{refused-by}
use Rattle.acs.proofs.Printing.{line-some}
use Rattle.acs.proofs.output.print_found.Goals as goal

-- the line found no room in memory, and nothing of it was written
pub returns-in_err-add_line : goal.returns-in_err-add_line
returns-in_err-add_line g c = search (rules, Appends-nil, length-append, line-some, refused-by)
