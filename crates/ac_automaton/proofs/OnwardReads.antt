-- A walk that reads each byte once reads on: where it stands then, and what it has counted.
use Rattle.ac_util.proofs.Prelude.{◌≡◌, ◌⊎◌, ℕ, ◌+◌, ◌-◌, ◌*◌, ◌<◌, ◌≤◌, false, List, [], length, slice_index, refl, ap, sym, ◌∙◌, subst, inl, inr, arith, IfSome, Option, None, Some, MatchOption, false≢true}
use Rattle.ac_automaton.specs.Prelude.{StandsAfter, No, Occurrence, Search, AutomatonView, plain_of, Scan, scan_of, search_of, step_of, HasCounted, IsOnward, StandsBy, Comes, MayRead, Point, ReadsEnough, ReadsOn, StopsAt, tried}
use Rattle.ac_automaton.proofs.OnwardEnds.{HasStopped}
use Rattle.ac_automaton.proofs.LedWalks.{IsSearchOf, led-after}

-- so many for each of some, and for each of what came to them
times-more : (m r s : ℕ) → r ≤ s → m * r + m * (s - r) ≡ m * s
times-more m r s up = sym (let e : s ≡ r + (s - r) = omega arith in ap (λ (k : ℕ). m * k) e ∙ grind arith)

module _ (a : AutomatonView) (bytes : List ℕ) (low end start : ℕ) (inside : end ≤ length bytes) where
  abbrev q : Search
  q = search_of a.built No bytes low end

  abbrev s : Scan
  s = scan_of a No false

  -- a walk that has come to a point may read on there
  pub may-onward : {p : Point} {ms : List Occurrence} → p.bytes ≡ bytes → IsOnward a q start ms p.cursor p.hand p.work → MayRead s end p
  may-onward {p} same onward = record {
    alive = (onward.node, onward.stands.there);
    hand = subst (λ (bs : List ℕ). IfSome p.hand (λ b. (p.cursor.at < end) × (b ≡ slice_index bs p.cursor.at))) (sym same) onward.stands.hand;
    unread = onward.unread;
    inside = (let l = ap (length {A = ℕ}) same in omega arith);
  }

  module _ {p r : Point} (same : p.bytes ≡ bytes) (onward : IsOnward a q start [] p.cursor p.hand p.work) (on : ReadsOn s end p r) where
    abbrev comes : Comes s p onward.node r
    comes = on.comes onward.node onward.stands.there

    is-search : IsSearchOf a.built p.bytes end 0 q
    is-search = record {
      is = record { free = refl; ordered = onward.ordered; inside = inside; same = refl };
      cases = refl;
      within = omega arith;
      same = λ k before.
          ap (slice_index bytes) (let e : 0 + k ≡ k = omega arith in e) ∙ ap (λ (bs : List ℕ). slice_index bs k) (sym same);
    }

    within : r.cursor.at ≤ end
    within = (let i = onward.stands.after.inside in on.within i)

    stands : StandsBy a q start [] r.cursor r.hand comes.node
    stands = let f = on.scans.onward in let w = within in record {
      there = comes.there;
      after = subst (λ (k : ℕ). StandsAfter a.built.kind (plain_of a.built) q [] comes.node k)
          (let e : 0 + (p.cursor.at + (r.cursor.at - p.cursor.at)) ≡ r.cursor.at = omega arith in e)
          (led-after a false is-search [] onward.node p.cursor.at
          (subst (λ (k : ℕ). StandsAfter a.built.kind (plain_of a.built) q [] onward.node k)
          (let e : p.cursor.at ≡ 0 + p.cursor.at = omega arith in e) onward.stands.after)
          (r.cursor.at - p.cursor.at) comes.node (omega arith) comes.leads);
      hand = subst (λ (bs : List ℕ). IfSome r.hand (λ b. (r.cursor.at < end) × (b ≡ slice_index bs r.cursor.at))) same on.hand;
    }

    counted : HasCounted a q start r.cursor r.hand comes.node (tried s comes.node r.hand) r.work.counts
    counted =
        let c = onward.counted in let n = on.scans in let g = on.scans.grows in let b = onward.begun in
        let o = onward.stands.after.within in let f = n.further in let u = n.unread in
        record {
          reads = (let k = c.reads in let l = n.reads in omega arith);
          whole = λ none. (let gc = g.calls in let z : p.work.counts.calls ≡ 0 = omega arith in let k = c.whole z in
              let l = n.counted (none ∙ sym z) in omega arith);
          calls = (let k = c.calls in let l = n.calls in omega arith);
          quiet = λ not. n.quiet not ∙ c.quiet not;
          looked = (let k = c.looked in let l = g.looks in let m = g.reads in omega arith);
          paid = (let k = c.paid in let l = comes.paid in let m = times-more a.most p.work.counts.reads r.work.counts.reads g.reads in
              omega arith);
        }

    -- with nothing in hand it is on its way
    pub onward-on : r.hand ≡ None → IsOnward a q start [] r.cursor r.hand r.work
    onward-on none = record {
      node = comes.node;
      stands = stands;
      counted =
          subst (λ (k : ℕ). HasCounted a q start r.cursor r.hand comes.node k r.work.counts) (ap (tried s comes.node) none) counted;
      unread = on.scans.unread;
      begun = onward.begun;
      ordered = onward.ordered;
    }

    -- where it has read as far as it reads, it has stopped
    pub onward-stops : ReadsEnough s end r → HasStopped a q start r.cursor r.hand r.work
    onward-stops enough = record {
      node = comes.node;
      stands = stands;
      over = by r.hand comes.dead enough;
      counted = counted;
      unread = on.scans.unread;
      begun = onward.begun;
    }
      where
        by : (h : Option ℕ) → IfSome h (λ b. step_of a.built No (Some comes.node) b ≡ None)
            → (h ≡ None → (end ≤ r.cursor.at) ⊎ StopsAt s r.cursor.state)
            → MatchOption h (r.cursor.at ≡ end) (λ b. step_of a.built No (Some comes.node) b ≡ None)
        by None dead enough = elim (enough refl) [
          | inl over ↦ (let w = within in omega arith)
          | inr stops ↦ absurd (false≢true stops.0)
        ]
        by (Some b) dead enough = dead
