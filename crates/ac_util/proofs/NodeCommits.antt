-- What a walk does with the string of a node once the pick in it is final, one byte more at a time.
use Rattle.ac_util.proofs.Prelude.{◌≡◌, ℕ, ◌+◌, ◌-◌, ◌<◌, ◌≤◌, ◌==◌, Bool, true, false, List, [], ◌∷◌, ◌++◌, length, length-drop, drop, refl, ap, sym, ◌∙◌, subst, arith, None, Some, drop-length, drop-append-le}
use Rattle.ac_util.specs.Prelude.{credit, is_leftmost, last_end, looks, looks_by, matches, MatchKind, No, Occurrence, pattern_of, step, standing_at, IsPickIn, Commits, Anything, NodeCommits}
use Rattle.ac_util.proofs.Advance.{pick-stays}
use Rattle.ac_util.proofs.Commits.{commits-nil, commits-on, commits-pick, final-dead, given-on, Next}
use Rattle.ac_util.proofs.DeadSteps.{dead-paid}
use Rattle.ac_util.proofs.NodePicks.{EndsWithPick, match-picked, pick-before}
use Rattle.ac_util.proofs.NodeRests.{reached-rest}
use Rattle.ac_util.proofs.Standing.{Stands-end}

module _ (kind : MatchKind) (patterns : List (List ℕ)) (leftmost : is_leftmost kind ≡ true)
    (some : (n : ℕ) → n < length patterns → 0 < length (pattern_of patterns n)) where
  -- a pick ends within the string
  picked-within : (u : List ℕ) (m : Occurrence) → IsPickIn kind patterns No u (Some m) → m.end ≤ length u
  picked-within u m picked =
      let ends = Stands-end patterns No u m.pattern m.start picked.stands in let long = picked.as_long in omega arith

  -- where the pick ends with the node, nothing is left after it
  pub node-ends : (u : List ℕ) (i : ℕ) (ends : EndsWithPick kind patterns leftmost u i)
      → NodeCommits kind patterns u Anything (standing_at patterns i ends.start) [] []
  node-ends u i ends = record {
    picked = ends.picked;
    rest = subst (λ (w : List ℕ). Commits kind patterns w Anything [] [])
        (sym (ap (λ (k : ℕ). drop k u) ends.whole ∙ drop-length u)) (commits-nil kind patterns leftmost some);
  }

  -- so it is of a node with matches, of which the first is picked
  pub node-matches : (u : List ℕ) (i : ℕ) (rest : List ℕ) → matches kind patterns No (Some u) ≡ i ∷ rest
      → (start : ℕ) × NodeCommits kind patterns u Anything (standing_at patterns i start) [] []
  node-matches u i rest e =
      let ends = match-picked kind patterns leftmost u i rest e in (ends.start, node-ends u i ends)

  module _ (u : List ℕ) (b : ℕ) (m : Occurrence) (ms : List Occurrence) (v : List ℕ) where
    -- a byte that leads on from v, and to no match from u
    pub node-on : (x : List ℕ) → NodeCommits kind patterns u (Next b) m ms v
        → matches kind patterns No (Some (u ++ b ∷ [])) ≡ [] → step kind patterns No (Some v) b ≡ Some x
        → NodeCommits kind patterns (u ++ b ∷ []) Anything m ms x
    node-on x c none leads = record {
      picked = pick-stays kind patterns No u b (Some m) none c.picked;
      rest = subst (λ (w : List ℕ). Commits kind patterns w Anything ms x)
          (sym (drop-append-le m.end u (b ∷ []) (picked-within u m c.picked)))
          (commits-on kind patterns leftmost some (drop m.end u) ms v b x c.rest leads);
    }

    -- a byte that leads to the dead node from v: then the pick in v is given, and what v has after it, and the byte is tried again
    -- from the node where that leads, which is shorter
    module _ (c : NodeCommits kind patterns u (Next b) m ms v) (dead : step kind patterns No (Some v) b ≡ None)
        (n : Occurrence) (ns : List Occurrence) (x : List ℕ) (next : NodeCommits kind patterns v Anything n ns x) where
      pub node-dead : NodeCommits kind patterns u (Next b) m
          (given-on kind patterns leftmost some (drop m.end u) ms v (Next b) c.rest n next.picked
          (final-dead kind patterns leftmost some (drop m.end u) ms v n next.picked b c.rest dead) ns x next.rest) x
      node-dead = record {
        picked = c.picked;
        rest = commits-pick kind patterns leftmost some (drop m.end u) ms v (Next b) c.rest n next.picked
            (final-dead kind patterns leftmost some (drop m.end u) ms v n next.picked b c.rest dead) ns x next.rest;
      }

  -- the node where a walk then stands is no longer than what follows the pick
  pub node-shorter : (u : List ℕ) (m : Occurrence) (ms : List Occurrence) (v : List ℕ) (Follows : List ℕ → Type 0)
      → NodeCommits kind patterns u Follows m ms v → length v ≤ length u - m.end
  node-shorter u m ms v Follows c =
      let rest = reached-rest kind patterns (drop (last_end ms) (drop m.end u)) v c.rest.stands in
      let long = rest.1.long in let first = length-drop (last_end ms) (drop m.end u) in let second = length-drop m.end u in
      omega arith

  module _ (u : List ℕ) (m : Occurrence) (ms : List Occurrence) (v : List ℕ) (c : NodeCommits kind patterns u Anything m ms v) where
    -- so a step to the dead node, and what that node's length is worth, are paid by the length of this one and one look more
    module _ (b : ℕ) (some-bytes : m.start < m.end) (dead : step kind patterns No (Some u) b ≡ None) where
      looks-paid : looks kind patterns No (Some u) b + length v ≤ length u + 1
      looks-paid =
          let paid = dead-paid kind patterns leftmost b (length u - m.end) (length u) u (omega arith)
          (pick-before kind patterns leftmost u m c.picked some-bytes) dead in
          let short = node-shorter u m ms v Anything c in omega arith

      pub node-paid : (most : ℕ) → looks_by most kind patterns No (Some u) b + credit most (Some v) ≤ credit most (Some u) + 1
      node-paid most = by (most == 1) refl
        where
          by : (t : Bool) → (most == 1) ≡ t
              → looks_by most kind patterns No (Some u) b + credit most (Some v) ≤ credit most (Some u) + 1
          by true e = grind (arith, e)
          by false e = let paid = looks-paid in grind (arith, e, paid)
