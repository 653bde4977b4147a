use Rattle.ac_util.proofs.Prelude.{◌≡◌, inl, inr, ◌∙◌, sym, false≢true}
use Rattle.ac_c.proofs.WalkSteps.{takes-first}
use Rattle.ac_c.proofs.walk.take.Goals as goal

-- a match that ends elsewhere is not the one before, nor is one that has bytes
pub returns-in_default : goal.returns-in_default
returns-in_default c =
    takes-first c.requires c.next-found.ensures.steps c.in-Some.m c.in-Some.is
    (inr (λ e.
    let ends : c.end.result ≡ c.in-Some.m.end = (let is = c.in-Some.m-is in let ends = c.end.ensures in cc) in
    c.if-end-cursor.false (ends ∙ e)))

pub returns-in_default-2 : goal.returns-in_default-2
returns-in_default-2 c =
    takes-first c.requires c.next-found.ensures.steps c.in-Some.m c.in-Some.is
    (inl (λ e. false≢true (sym c.if-is_empty.false ∙ c.is_empty.ensures.1 (let is = c.in-Some.m-is in cc))))
