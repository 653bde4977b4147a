use Rattle.ac_util.specs.Input.{whole_input}
use Rattle.ac_search.specs.Prelude.{search_in}
use Rattle.ac_util.proofs.Listing.{Contains-all, Occurs-from_all}
use Rattle.ac_search.proofs.Between.{occurs-between, stands-between}
use Rattle.ac_search.proofs.laws.patterns_stand_between.Goals as goal

pub returns-clause-occurs : goal.returns-clause-occurs
returns-clause-occurs c = λ built bytes m. (stands-between built bytes m, occurs-between built bytes m)

pub returns-clause-listed : goal.returns-clause-listed
returns-clause-listed c = λ built bytes m. (
  λ listed. stands-between built bytes m (Occurs-from_all (search_in built (whole_input bytes)) m listed),
  λ stands. Contains-all (search_in built (whole_input bytes)) m (occurs-between built bytes m stands),
)
