-- Whether something is found doesn't depend on which match is picked.
use Rattle.ac_util.proofs.Prelude.{◌≡◌, refl, IsTrue, is_some, Option, None, Some, false≢true}
use Rattle.ac_search.specs.Occurrence.{Occurrence, Search}
use Rattle.ac_search.specs.Pick.{pick}
use Rattle.ac_search.specs.declared.MatchKind.{MatchKind}
use Rattle.ac_search.proofs.SomeMatch.{some-match}
use Rattle.ac_c.specs.Statuses.{found_status}

-- two answers of which each is a match where the other is one have one status
same-status : (one other : Option Occurrence) → (IsTrue (is_some one) → IsTrue (is_some other))
    → (IsTrue (is_some other) → IsTrue (is_some one)) → found_status one ≡ found_status other
same-status None None to fro = refl
same-status None (Some m) to fro = absurd (false≢true (fro refl))
same-status (Some m) None to fro = absurd (false≢true (to refl))
same-status (Some m) (Some n) to fro = refl

-- so have the picks of two match kinds
pub picks-alike : (q : Search) (one other : MatchKind) → found_status (pick one q) ≡ found_status (pick other q)
picks-alike q one other =
    let a = some-match one q (pick one q) refl in let b = some-match other q (pick other q) refl in
    same-status (pick one q) (pick other q) (λ h. b.1 (a.0 h)) (λ h. a.1 (b.0 h))
