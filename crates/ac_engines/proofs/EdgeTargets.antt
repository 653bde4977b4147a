-- Where a state's transitions lead by the class of a byte.
use Rattle.ac_util.proofs.Prelude.{◌≡◌, ◌≢◌, inl, inr, ℕ, ◌<◌, Bool, true, false, List, [], ◌∷◌, ◌++◌, map, refl, ap, sym, ◌∙◌, Some, Contains, ◌==◌, rules, false≢true, eqb-true, eq-eqb, cond-true, cond-false}
use Rattle.ac_engines.specs.Prelude.{class_at, plain_byte, SetsApart, leads_on, transition_bytes_of, ContiguousView, Edge, edges_of, Places, target_by}
use Rattle.ac_util.proofs.ClassLemmas.{stands-from_node}
use Rattle.ac_util.proofs.Lists.{Contains-from_IsIn, IsIn, IsIn-from_Contains}
use Rattle.ac_engines.proofs.Filled.{transition_bytes_of-has, transition_bytes_of-only, transition_bytes_of-small}

module _ (classes : List ℕ) (to : ℕ → ℕ) (default_target : ℕ) where
  -- a transition by the class of a byte
  abbrev edge : ℕ → Edge
  edge b = record { class = class_at classes b; target = to b }

  -- by the class of one of the bytes the transitions lead where that byte does, if no other byte has its class
  found : (bytes : List ℕ) (b : ℕ) → ((a : ℕ) → IsIn a bytes → class_at classes a ≡ class_at classes b → a ≡ b)
      → IsIn b bytes → target_by default_target (map edge bytes) (class_at classes b) ≡ to b
  unfolding target_by
  found [] b alone none = absurd none
  found (x ∷ bytes) b alone has =
      go (class_at classes x == class_at classes b) refl has (λ later. found bytes b (λ a h. alone a (inr h)) later)
    where
      go : (t : Bool) → (class_at classes x == class_at classes b) ≡ t → IsIn b (x ∷ bytes)
          → (IsIn b bytes → target_by default_target (map edge bytes) (class_at classes b) ≡ to b)
          → target_by default_target (map edge (x ∷ bytes)) (class_at classes b) ≡ to b
      go true same has later = search (rules, alone, cond-false, cond-true, eq-eqb, eqb-true, false≢true)
      go false other (inl is) later = search (rules, alone, cond-false, cond-true, eq-eqb, eqb-true, false≢true)
      go false other (inr has) later = search (rules, alone, cond-false, cond-true, eq-eqb, eqb-true, false≢true)

  -- by any other class they lead where there is no transition
  unfound : (bytes : List ℕ) (b : ℕ) → ((a : ℕ) → IsIn a bytes → class_at classes a ≢ class_at classes b)
      → target_by default_target (map edge bytes) (class_at classes b) ≡ default_target
  unfolding target_by
  unfound [] b none = refl
  unfound (x ∷ bytes) b none =
      go (class_at classes x == class_at classes b) refl (unfound bytes b (λ a h. none a (inr h)))
    where
      go : (t : Bool) → (class_at classes x == class_at classes b) ≡ t
          → target_by default_target (map edge bytes) (class_at classes b) ≡ default_target
          → target_by default_target (map edge (x ∷ bytes)) (class_at classes b) ≡ default_target
      go true same others = absurd (none x (inl refl) (eqb-true (class_at classes x) (class_at classes b) same))
      go false other others = search (rules, cond-false)

module _ (p : ContiguousView) (at : Places) (apart : SetsApart p.built.ignores_case p.built.patterns p.classes) (default_target : ℕ)
    (w : List ℕ) (b : ℕ) (byte : b < 256) where
  -- what an own byte is: it leads on, and no other byte has its class
  own : (a : ℕ) → IsIn a (transition_bytes_of p.built (Some w)) → Contains (transition_bytes_of p.built (Some w)) a
  own a has = Contains-from_IsIn a (transition_bytes_of p.built (Some w)) has

  leads-own : (a : ℕ) → IsIn a (transition_bytes_of p.built (Some w)) → leads_on p.built (Some w) a ≡ true
  leads-own a has = transition_bytes_of-only p.built (Some w) a (own a has)

  alone : (a : ℕ) → IsIn a (transition_bytes_of p.built (Some w)) → class_at p.classes b ≡ class_at p.classes a → b ≡ a
  alone a has same =
      apart.own b a byte (transition_bytes_of-small p.built (Some w) a (own a has))
      (stands-from_node p.built.ignores_case p.built.patterns p.built.kind w a (leads-own a has)) same

  -- a byte that leads on leads to the longer string
  pub own-target : leads_on p.built (Some w) b ≡ true
      → target_by default_target (edges_of p at w) (class_at p.classes b) ≡ at.place (w ++ plain_byte p.built.ignores_case b ∷ [])
  own-target leads =
      found p.classes (λ a. at.place (w ++ plain_byte p.built.ignores_case a ∷ [])) default_target (transition_bytes_of p.built (Some w)) b
      (λ a has same. sym (alone a has (sym same)))
      (IsIn-from_Contains b (transition_bytes_of p.built (Some w)) (transition_bytes_of-has p.built (Some w) b byte leads))

  -- and any other byte leads where there is no transition
  pub no-target : leads_on p.built (Some w) b ≡ false
      → target_by default_target (edges_of p at w) (class_at p.classes b) ≡ default_target
  no-target none =
      unfound p.classes (λ a. at.place (w ++ plain_byte p.built.ignores_case a ∷ [])) default_target (transition_bytes_of p.built (Some w)) b
      (λ a has same.
      false≢true (sym none ∙ ap (leads_on p.built (Some w)) (alone a has (sym same)) ∙ leads-own a has))
