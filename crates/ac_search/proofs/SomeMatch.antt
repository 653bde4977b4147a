-- Something is picked exactly if something occurs.
use Rattle.ac_util.proofs.Prelude.{◌≡◌, ◌≢◌, refl, sym, subst, Option, Some, None, ◌↔◌, IsTrue, is_some, rules, false≢true}
use Rattle.ac_search.specs.Prelude.{IsPick, MatchKind, Occurs, pick, Search}
use Rattle.ac_automaton.specs.Util.{Occurrence}
use Rattle.ac_util.proofs.Picks.{pick-IsPick}

-- what is picked is some match exactly if something occurs
picks-some : (kind : MatchKind) (q : Search) (r : Option Occurrence) → IsPick kind q r
    → IsTrue (is_some r) ↔ ((m : Occurrence) × Occurs q m)
picks-some kind q None h = ((λ t. absurd (false≢true t)), (λ o. absurd (h o.0 o.1)))
picks-some kind q (Some m) h = ((λ t. (m, h.0)), (λ o. refl))

-- the same of an answer that is the pick
pub some-match : (kind : MatchKind) (q : Search) (r : Option Occurrence) → r ≡ pick kind q
    → IsTrue (is_some r) ↔ ((m : Occurrence) × Occurs q m)
some-match kind q r e = picks-some kind q r (subst (IsPick kind q) (sym e) (pick-IsPick kind q))

-- an answer is some match exactly if it isn't None
some-or-none : (r : Option Occurrence) → (IsTrue (is_some r) → r ≢ None) × (r ≢ None → IsTrue (is_some r))
some-or-none None = ((λ t. absurd (false≢true t)), (λ some. absurd (some refl)))
some-or-none (Some m) = ((λ t e. absurd (cc)), (λ some. refl))

-- so a pick isn't None exactly if something occurs
pub picked-something : (kind : MatchKind) (q : Search) → ((m : Occurrence) × Occurs q m) ↔ (pick kind q ≢ None)
picked-something kind q = search (rules, some-match kind q (pick kind q) refl, some-or-none (pick kind q))
