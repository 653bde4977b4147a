use Rattle.ac_util.proofs.Prelude.{refl, sym, ◌∙◌, arith, inr, false≢true}
use Rattle.ac_automaton.proofs.Heads.{nil-from_not}
use Rattle.ac_engines.proofs.RowLists.{unmatched}
use Rattle.ac_engines.proofs.dfa.layout.Rows.place.Goals as goal

-- a state without matches stands at the back
pub returns-then-not-is_match : goal.returns-then-not-is_match
returns-then-not-is_match g c = λ nodes u h named. inr (record {
  none = unmatched c.args.nfa.now c.args.sid u (h.stands c.args.sid u named) (nil-from_not _ (λ some.
      false≢true (sym c.if-not-is_match.true ∙ c.is_match.ensures.1 some)));
  first = refl;
  same = refl;
  before = let room = c.requires.room in let each = c.rows_each.ensures in omega arith;
})
