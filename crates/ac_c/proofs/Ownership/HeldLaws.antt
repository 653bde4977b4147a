-- The laws of what a handle keeps. Assumes `Logic`.
use denote.Param.Laws.{Laws}
use Rattle.ac_c.specs.Ownership.{held_row}
use Rattle.ac_c.proofs.handle.held.Held.TheLaws as box_content

abbrev pub held_laws : Laws held_row
held_laws = box_content.the_row_laws
