-- The lemmas of which each says a clause of a law as it stands, law by law.
use Rattle.ac_util.proofs.ClassLists.{class_at-below, singletons-AreClasses}
use Rattle.ac_util.proofs.Lying.{listed-lie, walk_result-lie}
use Rattle.ac_util.proofs.Picks.{pick-from_IsPick, pick-IsPick, pick-Standard}
use Rattle.ac_util.proofs.StrideLemmas.{stride2-least, stride-enough}

pub ruleset matches_lie_inside = (listed-lie, walk_result-lie)

pub ruleset pick_comes_first = (pick-from_IsPick, pick-IsPick, pick-Standard)

pub ruleset strides_have_room = (class_at-below, singletons-AreClasses, stride2-least, stride-enough)
