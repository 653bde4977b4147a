use Rattle.ac_automaton.proofs.OnwardGoes.{fits-on}
use Rattle.ac_automaton.proofs.automaton.onward.Core.find_on.Goals as goal

pub give-requires-clause-fits : goal.give-requires-clause-fits
give-requires-clause-fits g c = fits-on c.requires.fits c.read_on.ensures.reads.read.on
