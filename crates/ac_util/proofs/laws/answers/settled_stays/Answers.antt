use Rattle.ac_util.proofs.Decided.{stays-closed}
use Rattle.ac_util.proofs.Settled.{settled-stays}
use Rattle.ac_util.proofs.Shortest.{none-empty}
use Rattle.ac_util.proofs.laws.answers.settled_stays.Goals as goal

pub returns-clause-stays : goal.returns-clause-stays
returns-clause-stays c built bytes more given place leftmost empty h =
    settled-stays built leftmost bytes more (λ n. none-empty built.patterns n empty) given place h

pub returns-clause-decided : goal.returns-clause-decided
returns-clause-decided c built bytes low m leftmost ends stays = stays-closed built leftmost bytes low m ends stays
