-- Where a state of a contiguous NFA leads, by the node that it stands for.
use Rattle.ac_util.proofs.Prelude.{◌≡◌, ◌≢◌, ℕ, ◌+◌, ◌<◌, Bool, true, false, List, [], ◌∷◌, ◌++◌, ◌⊎◌, inl, inr, refl, ap, sym, ◌∙◌, arith, Some, None, if◌then◌else◌, slice_index_or, cond-true, cond-false, All-map, Contains-get_or, common_steps}
use Rattle.ac_engines.specs.Prelude.{class_at, depth, IsNode, No, Node, plain_byte, step, Yes, leads_on, looks_of, fallback, transition_bytes_of, plain_of, step_of, AreNamed, ContiguousView, Edge, edges_of, FAIL, IsContiguous, number_at, Places, packed_at, target_by}
use Rattle.ac_util.specs.declared.search.Anchored.{Anchored}
use Rattle.ac_util.proofs.Failures.{depth-failure}
use Rattle.ac_automaton.proofs.Steps.{looks-on, step-fallback, step-on}
use Rattle.ac_engines.proofs.EdgeTargets.{no-target, own-target}
use Rattle.ac_engines.proofs.Filled.{transition_bytes_of-only}
use Rattle.ac_engines.proofs.Numbers.{failure-node}

-- where a class leads from a node, or FAIL
abbrev pub target_of : ContiguousView → Places → Anchored → Node → ℕ → ℕ
target_of p at anchored v b =
    target_by (packed_at p at anchored v).default_target (packed_at p at anchored v).edges (class_at p.classes b)

module _ (p : ContiguousView) (at : Places) (h : IsContiguous p at) where
  -- a byte leads there in any search where it leads in an anchored one
  abbrev own : Node → ℕ → Node
  own v b = step p.built.kind (plain_of p.built) Yes v (plain_byte p.built.ignores_case b)

  own-is : (w : List ℕ) (b : ℕ) → leads_on p.built (Some w) b ≡ true
      → own (Some w) b ≡ Some (w ++ plain_byte p.built.ignores_case b ∷ [])
  own-is w b leads = cond-true (leads_on p.built (Some w) b) (Some (w ++ plain_byte p.built.ignores_case b ∷ [])) None leads

  own-none : (w : List ℕ) (b : ℕ) → leads_on p.built (Some w) b ≡ false → own (Some w) b ≡ None
  own-none w b none = cond-false (leads_on p.built (Some w) b) (Some (w ++ plain_byte p.built.ignores_case b ∷ [])) None none

  -- what a target says that isn't FAIL
  pub record Leads (anchored : Anchored) (v : Node) (b : ℕ) : Type 0 where
    pub number : target_of p at anchored v b ≡ number_at at anchored (step_of p.built anchored v b)
    pub looks : looks_of 2 p.built anchored v b ≡ 1

  -- where an unanchored search goes on
  abbrev onward : Node → Node
  onward v = fallback p.built.kind (plain_of p.built) v

  -- it goes on at the failure target, which is shorter
  pub record StepsOn (v : Node) (b : ℕ) : Type 0 where
    pub failure : (packed_at p at No v).failure ≡ number_at at No (onward v)
    pub node : IsNode p.built.kind (plain_of p.built) (onward v)
    pub steps : step_of p.built No v b ≡ step_of p.built No (onward v) b
    pub looks : looks_of 2 p.built No v b ≡ 1 + looks_of 2 p.built No (onward v) b
    pub shorter : depth (onward v) < depth v

  -- what is read at a state: a target is the answer, and FAIL ends an anchored search, or another goes on
  pub record ReadsStep (anchored : Anchored) (v : Node) (b : ℕ) : Type 0 where
    pub leads : target_of p at anchored v b ≢ FAIL → Leads anchored v b
    pub ends : target_of p at anchored v b ≡ FAIL → anchored ≡ Yes → step_of p.built anchored v b ≡ None
    pub goes : target_of p at anchored v b ≡ FAIL → anchored ≡ No → StepsOn v b

  -- the string that is longer by a byte
  abbrev longer : List ℕ → ℕ → List ℕ
  longer w b = w ++ plain_byte p.built.ignores_case b ∷ []

  longer-number : (anchored : Anchored) (w : List ℕ) (c : ℕ)
      → at.place (w ++ c ∷ []) ≡ number_at at anchored (Some (w ++ c ∷ []))
  longer-number No [] c = refl
  longer-number Yes [] c = refl
  longer-number No (x ∷ w) c = refl
  longer-number Yes (x ∷ w) c = refl

  -- a byte that leads on leads to the longer string in any search
  step-longer : (anchored : Anchored) (w : List ℕ) (b : ℕ) → leads_on p.built (Some w) b ≡ true
      → step_of p.built anchored (Some w) b ≡ Some (longer w b)
  step-longer Yes w b leads = own-is w b leads
  step-longer No w b leads = grind (arith, common_steps)

  one-look : (anchored : Anchored) (w : List ℕ) (b : ℕ) → leads_on p.built (Some w) b ≡ true
      → looks_of 2 p.built anchored (Some w) b ≡ 1
  one-look Yes w b leads = refl
  one-look No w b leads = grind (arith, common_steps)

  -- by a byte that leads on a state has a target
  pub target-longer : (anchored : Anchored) (w : List ℕ) (b : ℕ) → b < 256 → leads_on p.built (Some w) b ≡ true
      → target_of p at anchored (Some w) b ≡ at.place (longer w b)
  target-longer No [] b byte leads = own-target p at h.apart (number_at at No (onward (Some []))) [] b byte leads
  target-longer Yes [] b byte leads = own-target p at h.apart FAIL [] b byte leads
  target-longer No (x ∷ w) b byte leads = own-target p at h.apart FAIL (x ∷ w) b byte leads
  target-longer Yes (x ∷ w) b byte leads = own-target p at h.apart FAIL (x ∷ w) b byte leads

  -- no string's number is FAIL
  after-fail : (anchored : Anchored) (w : List ℕ) (c : ℕ)
      → IsNode p.built.kind (plain_of p.built) (Some (w ++ c ∷ [])) → at.place (w ++ c ∷ []) ≢ FAIL
  after-fail anchored w c node e = absurd (omega (arith, h.after anchored (w ++ c ∷ []) node, longer-number anchored w c))

  -- so each transition leads to a state
  own-named : (w : List ℕ) → AreNamed (edges_of p at w)
  own-named w =
      All-map (λ (e : Edge). e.target ≢ FAIL) (λ b. record {
        class = class_at p.classes b;
        target = at.place (w ++ plain_byte p.built.ignores_case b ∷ []);
      }) (transition_bytes_of p.built (Some w)) (λ k d within.
      let b = slice_index_or (transition_bytes_of p.built (Some w)) k d in
      after-fail No w (plain_byte p.built.ignores_case b)
      (transition_bytes_of-only p.built (Some w) b (Contains-get_or (transition_bytes_of p.built (Some w)) k d within)))

  pub are-named : (anchored : Anchored) (v : Node) → AreNamed (packed_at p at anchored v).edges
  are-named anchored None = λ k d within. absurd (omega arith)
  are-named No (Some []) = own-named []
  are-named Yes (Some []) = own-named []
  are-named anchored (Some (x ∷ w)) = own-named (x ∷ w)

  reads-on : (anchored : Anchored) (w : List ℕ) (b : ℕ) → b < 256 → leads_on p.built (Some w) b ≡ true
      → ReadsStep anchored (Some w) b
  reads-on anchored w b byte leads =
      let c = plain_byte p.built.ignores_case b in
      let target = target-longer anchored w b byte leads in
      record {
        leads = λ some. record {
          number = target ∙ longer-number anchored w c ∙ ap (number_at at anchored) (sym (step-longer anchored w b leads));
          looks = one-look anchored w b leads;
        };
        ends = λ fail yes. absurd (after-fail anchored w c leads (sym target ∙ fail));
        goes = λ fail no. absurd (after-fail anchored w c leads (sym target ∙ fail));
      }

  -- where the start goes on by a byte that doesn't lead on, it isn't FAIL
  home-not-fail : (v : Node) → (v ≡ None) ⊎ (v ≡ Some []) → number_at at No v ≢ FAIL
  home-not-fail None some e = absurd (omega arith)
  home-not-fail (Some []) some e = let after = h.after No [] refl in absurd (omega arith)
  home-not-fail (Some (x ∷ w)) (inl none) e = absurd cc
  home-not-fail (Some (x ∷ w)) (inr none) e = absurd cc

  abbrev home : Bool → Node
  home t = if t then None else Some []

  home-is : (t : Bool) → (home t ≡ None) ⊎ (home t ≡ Some [])
  home-is true = inl refl
  home-is false = inr refl

  reads-start : (b : ℕ) → b < 256 → leads_on p.built (Some []) b ≡ false → ReadsStep No (Some []) b
  reads-start b byte none =
      let target = no-target p at h.apart (number_at at No (onward (Some []))) [] b byte none in
      let step_is = step-fallback p.built.kind (plain_of p.built) (Some []) (plain_byte p.built.ignores_case b)
      (own-none [] b none) refl in
      record {
        leads = λ some. record { number = target ∙ ap (number_at at No) (sym step_is); looks = refl };
        ends = λ fail yes. absurd cc;
        goes = λ fail no. absurd (home-not-fail (onward (Some [])) (home-is _) (sym target ∙ fail));
      }

  reads-anchored : (w : List ℕ) (b : ℕ) → target_of p at Yes (Some w) b ≡ FAIL → leads_on p.built (Some w) b ≡ false
      → ReadsStep Yes (Some w) b
  reads-anchored w b target none = record {
    leads = λ some. absurd (some target);
    ends = λ fail yes. own-none w b none;
    goes = λ fail no. absurd cc;
  }

  reads-inner : (x : ℕ) (w : List ℕ) (b : ℕ) → b < 256 → leads_on p.built (Some (x ∷ w)) b ≡ false
      → ReadsStep No (Some (x ∷ w)) b
  reads-inner x w b byte none =
      let off = own-none (x ∷ w) b none in
      let target = no-target p at h.apart FAIL (x ∷ w) b byte none in
      let kind = p.built.kind in
      let patterns = plain_of p.built in
      let c = plain_byte p.built.ignores_case b in
      record {
        leads = λ some. absurd (some target);
        ends = λ fail yes. absurd cc;
        goes = λ fail no. record {
          failure = refl;
          node = failure-node kind patterns x w;
          steps = step-on kind patterns (Some (x ∷ w)) c off (omega arith);
          looks = looks-on kind patterns (Some (x ∷ w)) c off (omega arith);
          shorter = omega (arith, depth-failure kind patterns x w);
        };
      }

  -- what is read at any state
  pub reads : (anchored : Anchored) (v : Node) (b : ℕ) → b < 256 → ReadsStep anchored v b
  unfolding target_by
  reads anchored None b byte = record {
    leads = λ some. record { number = dead-number anchored; looks = dead-looks anchored };
    ends = λ fail yes. refl;
    goes = λ fail no. absurd (omega arith);
  }
    where
      dead-number : (anchored : Anchored) → 0 ≡ number_at at anchored None
      dead-number No = refl
      dead-number Yes = refl

      dead-looks : (anchored : Anchored) → looks_of 2 p.built anchored None b ≡ 1
      dead-looks No = refl
      dead-looks Yes = refl
  reads anchored (Some w) b byte = go anchored w (leads_on p.built (Some w) b) refl
    where
      go : (anchored : Anchored) (w : List ℕ) (t : Bool) → leads_on p.built (Some w) b ≡ t → ReadsStep anchored (Some w) b
      go anchored w true leads = reads-on anchored w b byte leads
      go No [] false none = reads-start b byte none
      go Yes [] false none = reads-anchored [] b (no-target p at h.apart FAIL [] b byte none) none
      go No (x ∷ w) false none = reads-inner x w b byte none
      go Yes (x ∷ w) false none = reads-anchored (x ∷ w) b (no-target p at h.apart FAIL (x ∷ w) b byte none) none
