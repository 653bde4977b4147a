use Rattle.ac_c.proofs.BatchStarts.{listing-begins, walk-begins}
use Rattle.ac_c.proofs.laws.batches_begin_with_all.Goals as goal

pub returns-clause-walk : goal.returns-clause-walk
returns-clause-walk c = walk-begins

pub returns-clause-listing : goal.returns-clause-listing
returns-clause-listing c = listing-begins
