-- Where a node stands in what was read: it is a suffix of it, and under a leftmost kind its pick is that of what was read.
use Rattle.ac_util.proofs.Prelude.{◌≡◌, ℕ, suc, ◌+◌, ◌-◌, ◌≤◌, Bool, true, false, ◌&&◌, cond, List, [], ◌∷◌, length, drop, ap, sym, ◌∙◌, subst, arith, Option, None, Some, option_map, rules, drop-drop, common_steps}
use Rattle.ac_util.specs.Prelude.{begins_with_pattern, is_leftmost, is_node, IsFirst, MatchKind, No, Occurrence, outward, reached, Stands, standing_at, IsPickIn}
use Rattle.ac_util.proofs.Living.{begins-early}
use Rattle.ac_util.proofs.Participants.{begins-from_Prefixes}
use Rattle.ac_util.proofs.Reached.{reached-cons, reached-nil}
use Rattle.ac_util.proofs.Spans.{first-outward}

-- v is what w has from a place on
pub record IsRest (w v : List ℕ) (place : ℕ) : Type 0 where
  pub within : place ≤ length w
  pub long : place + length v ≡ length w
  pub is : drop place w ≡ v

module _ (kind : MatchKind) (patterns : List (List ℕ)) where
  -- the node reached is a suffix of what was read
  pub reached-rest : (w v : List ℕ) → reached kind patterns No w ≡ Some v → (place : ℕ) × IsRest w v place
  reached-rest [] v e = (0, search (rules, reached-nil))
  reached-rest (x ∷ w) v e =
      by (is_node kind patterns (x ∷ w)) (sym (reached-cons kind patterns x w) ∙ e) (λ later. reached-rest w v later)
    where
      on : (t : Bool) → cond t None (reached kind patterns No w) ≡ Some v
          → (reached kind patterns No w ≡ Some v → (place : ℕ) × IsRest w v place) → (place : ℕ) × IsRest (x ∷ w) v place
      on true e rest = absurd (cc)
      on false e rest =
          let r = rest e in let long = r.1.long in let within = r.1.within in
          (suc r.0, record { within = omega arith; long = omega arith; is = r.1.is })

      by : (t : Bool)
          → cond t (Some (x ∷ w)) (cond (is_leftmost kind && begins_with_pattern patterns (x ∷ w)) None (reached kind patterns No w)) ≡ Some v
          → (reached kind patterns No w ≡ Some v → (place : ℕ) × IsRest w v place) → (place : ℕ) × IsRest (x ∷ w) v place
      by true e rest = let same : x ∷ w ≡ v = cc in (0, record { within = omega arith; long = (let l = ap length same in omega arith); is = same })
      by false e rest = on (is_leftmost kind && begins_with_pattern patterns (x ∷ w)) e rest

  module _ (leftmost : is_leftmost kind ≡ true) (w v : List ℕ) (place : ℕ) (rest : IsRest w v place) where
    -- what stands in the node stands in what was read
    stands-out : (n s : ℕ) → Stands patterns No v n s → Stands patterns No w n (place + s)
    stands-out n s h = grind (arith, common_steps, drop-drop)

    -- and the other way round, since the node begins no later than anything that occurs
    module _ (stands : reached kind patterns No w ≡ Some v) where
      begins-in : (n s : ℕ) → Stands patterns No w n s → place ≤ s
      begins-in n s h =
          let early = begins-early patterns kind w v s leftmost stands h.within (begins-from_Prefixes patterns _ n h.prefixes) in
          let long = rest.long in omega arith

      stands-in : (n s : ℕ) → Stands patterns No w n s → Stands patterns No v n (s - place)
      stands-in n s h = let after = begins-in n s h in grind (arith, common_steps, drop-drop)

      -- so what is picked in the node is picked in what was read
      pub pick-in_node : (r : Option Occurrence) → IsPickIn kind patterns No v r
          → IsPickIn kind patterns No w (option_map (outward place) r)
      pick-in_node None h = λ n s stands. h n (s - place) (stands-in n s stands)
      pick-in_node (Some m) h = record {
        stands = stands-out m.pattern m.start h.stands;
        as_long = (let l = h.as_long in omega arith);
        first = λ n s stands.
            let after = begins-in n s stands in
            subst (λ (k : ℕ). IsFirst kind (outward place m) (standing_at patterns n k)) (omega arith)
            (moved n s (first-outward kind place m (standing_at patterns n (s - place)) (h.first n (s - place) (stands-in n s stands))));
      }
        where
          moved : (n s : ℕ) → IsFirst kind (outward place m) (outward place (standing_at patterns n (s - place)))
              → IsFirst kind (outward place m) (standing_at patterns n (place + (s - place)))
          moved n s h = search rules
