-- What is known of a result by its case.
use Rattle.std.proofs.Common.{◌≡◌, refl, subst, sym, Option, None, Some, Result, Ok, Err, IsErrAnd, MatchResult, MatchOption}

-- an error that was handed on is the error
pub refused-by : {T E : Type 0} (r : Result T E) (e : E) (P : T → Type 0) (Q : E → Type 0)
    → IsErrAnd r (λ y. y ≡ e) → Q e → MatchResult r P Q
refused-by (Ok x) e P Q is q = absurd is
refused-by (Err y) e P Q is q = subst Q (sym is) q

-- what is answered by Ok isn't refused
pub not_refused : {X E : Type 0} (o : Option E) (P : Type 0) (x : X)
    → MatchOption o P (λ e. ◌≡◌ {A = Result X E} (Ok x) (Err e)) → o ≡ None
not_refused None P x h = refl
not_refused (Some e) P x h = absurd (cc)
