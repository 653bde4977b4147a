-- A byte that a scan tries: where it leads on, where it leads to the dead state, and the byte in hand.
use Rattle.ac_util.proofs.Prelude.{◌≡◌, ◌≢◌, ◌⊎◌, ℕ, ◌+◌, ◌-◌, ◌*◌, ◌<◌, ◌≤◌, List, refl, ap, sym, ◌∙◌, subst, arith, Option, None, Some, IfSome, slice_index}
use Rattle.ac_automaton.specs.Prelude.{Counts, credit, more_looks, Node, looks_of, most_looks, Scan, step_of, Work, Comes, HasScanned, in_hand, led, MayRead, Point, read_to, ReadsFurther, ReadsOn, Tries}
use Rattle.ac_automaton.proofs.Led.{led-byte, led-none}
use Rattle.ac_automaton.proofs.Looks.{look-each, step-within}

-- at most a byte is in hand
pub hand-one : (hand : Option ℕ) → in_hand hand ≤ 1
hand-one None = omega arith
hand-one (Some byte) = omega arith

module _ {s : Scan} where
  -- a byte is tried
  module _ {end : ℕ} {p : Point} {byte next : ℕ} {work : Work} (one_or_two : (s.most ≡ 1) ⊎ (s.most ≡ 2)) (may : MayRead s end p)
      (before : p.cursor.at < end) (tries : Tries s p byte next work) {bs : List ℕ} (same : bs ≡ p.bytes) where
    abbrev m : ℕ
    m = most_looks s.anchored s.most

    looked : 1 ≤ work.counts.looks - p.work.counts.looks
    looked =
        let v = may.alive in let l = tries.looks (Some v.0) v.1 in
        let one = look-each s.most s.built s.anchored (Some v.0) byte in omega arith

    scanned : {q : Point} → p.cursor.at ≤ q.cursor.at → read_to q ≡ p.cursor.at + 1 → q.work ≡ work → HasScanned s p q
    scanned {q} onward to is =
        let h = hand-one p.hand in let r = tries.reads in let c = tries.calls in let l = looked in let f = tries.forward in
        let w = tries.within in let e = tries.whole in
        subst (λ (k : Work). HasScanned s p (record q { work = k })) (sym is) (record {
          onward = onward;
          further = omega arith;
          grows = record { reads = omega arith; looks = omega arith; calls = omega arith };
          forward = f;
          unread = omega arith;
          told = λ moved. let none = ap in_hand (tries.told moved) in omega arith;
          whole = λ _. omega arith;
          counted = λ _. omega arith;
          reads = omega arith;
          calls = omega arith;
          quiet = λ _. c;
        })

    module _ (v : List ℕ) (there : s.stands p.cursor.state (Some v)) where
      looks-so : work.counts.looks ≡ p.work.counts.looks + looks_of s.most s.built s.anchored (Some v) byte
      looks-so = tries.looks (Some v) there

      -- what is worth the byte in hand, and what the reading of it brings
      brings : m * in_hand p.hand + m * (work.counts.reads - p.work.counts.reads) ≡ m
      brings = by p.hand tries.reads
        where
          by : (h : Option ℕ) → work.counts.reads + in_hand h ≡ p.work.counts.reads + 1
              → m * in_hand h + m * (work.counts.reads - p.work.counts.reads) ≡ m
          by None r = let e : work.counts.reads - p.work.counts.reads ≡ 1 = omega arith in ap (λ (k : ℕ). m * 0 + m * k) e ∙ omega arith
          by (Some b) r = let e : work.counts.reads - p.work.counts.reads ≡ 0 = omega arith in ap (λ (k : ℕ). m * 1 + m * k) e ∙ omega arith

      leads-one : led s p.bytes (Some v) p.cursor.at 1 ≡ step_of s.built s.anchored (Some v) byte
      leads-one =
          led-byte s p.bytes (Some v) p.cursor.at 0 byte
          (tries.is ∙ ap (slice_index p.bytes) (let e : p.cursor.at ≡ p.cursor.at + 0 = omega arith in e))
          ∙ ap (λ (u : Node). step_of s.built s.anchored u byte) (led-none s p.bytes (Some v) p.cursor.at 0 refl)

    -- where it leads on
    pub reads-byte : ((u : Node) → s.stands next u → u ≢ None)
        → ReadsOn s end p (record { bytes = bs; cursor = record { state = next; at = p.cursor.at + 1 }; hand = None; work = work })
    reads-byte alive = record {
      bytes = same;
      within = λ up. omega arith;
      scans = scanned (omega arith) (omega arith) refl;
      hand = tt;
      comes = λ v there. by v there (step_of s.built s.anchored (Some v) byte) refl;
    }
      where
        by : (v : List ℕ) → s.stands p.cursor.state (Some v) → (u : Node) → step_of s.built s.anchored (Some v) byte ≡ u
            → Comes s p v (record { bytes = bs; cursor = record { state = next; at = p.cursor.at + 1 }; hand = None; work = work })
        by v there None e = absurd (alive _ (tries.leads (Some v) there) e)
        by v there (Some u) e = record {
          node = u;
          there = subst (s.stands next) e (tries.leads (Some v) there);
          leads = ap (led s p.bytes (Some v) p.cursor.at) (let d : p.cursor.at + 1 - p.cursor.at ≡ 1 = omega arith in d)
              ∙ leads-one v there ∙ e;
          none = λ t n some less. absurd (omega arith);
          paid = (let b = brings v there in let l = looks-so v there in
              let w = step-within s.most s.built s.anchored (Some v) byte one_or_two in let c = ap (credit m) e in omega arith);
          dead = tt;
        }

    -- or to the dead node: then it stays in hand
    pub stops-byte : ((u : Node) → s.stands next u → u ≡ None)
        → ReadsOn s end p (record { bytes = bs; cursor = p.cursor; hand = Some byte; work = work })
    stops-byte gone = record {
      bytes = same;
      within = λ up. omega arith;
      scans = scanned (omega arith) (omega arith) refl;
      hand = (before, tries.is);
      comes = λ v there. record {
        node = v;
        there = there;
        leads = led-none s p.bytes (Some v) p.cursor.at _ (omega arith);
        none = λ t n some less. absurd (omega arith);
        paid = (let b = brings v there in let l = looks-so v there in omega arith);
        dead = gone _ (tries.leads (Some v) there);
      };
    }

-- a byte is tried: that is a piece
module _ {s : Scan} {end : ℕ} {p : Point} {byte next : ℕ} {work : Work} (one_or_two : (s.most ≡ 1) ⊎ (s.most ≡ 2)) (may : MayRead s end p)
    (before : p.cursor.at < end) (tries : Tries s p byte next work) {bs : List ℕ} (same : bs ≡ p.bytes) where
  pub piece-byte : ((u : Node) → s.stands next u → u ≢ None) → ReadsFurther s end p None
      (record { bytes = bs; cursor = record { state = next; at = p.cursor.at + 1 }; hand = None; work = work })
  piece-byte alive = record {
    on = reads-byte one_or_two may before tries same alive;
    moved = λ h none. omega arith;
    gone = tt;
  }

  pub piece-dead : ((u : Node) → s.stands next u → u ≡ None) → ReadsFurther s end p (Some (record { byte = byte; next = record { state = next; at = p.cursor.at + 1 } }))
      (record { bytes = bs; cursor = p.cursor; hand = Some byte; work = work })
  piece-dead gone = record {
    on = stops-byte one_or_two may before tries same gone;
    moved = λ h none. absurd (cc);
    gone = (refl, (let v = may.alive in let there = tries.leads _ v.1 in subst (s.stands next) (gone _ there) there));
  }

-- the byte in hand is tried
module _ {s : Scan} {end : ℕ} {p : Point} (may : MayRead s end p) {byte : ℕ} (some : p.hand ≡ Some byte) where
  in-hand : (p.cursor.at < end) × (byte ≡ slice_index p.bytes p.cursor.at)
  in-hand = subst (λ (h : Option ℕ). IfSome h (λ b. (p.cursor.at < end) × (b ≡ slice_index p.bytes p.cursor.at))) some may.hand

  pub hand-before : p.cursor.at < end
  hand-before = in-hand.0

  pub tries-hand : {next : ℕ} {counts : Counts}
      → ((u : Node) → s.stands p.cursor.state u → s.stands next (step_of s.built s.anchored u byte))
      → ((u : Node) → s.stands p.cursor.state u → counts ≡ more_looks (looks_of s.most s.built s.anchored u byte) p.work.counts)
      → Tries s p byte next (record { place = p.work.place; counts = counts })
  tries-hand {next} {counts} steps looks =
      let h = ap in_hand some in let v = may.alive in let u = may.unread in
      record {
        is = in-hand.1;
        leads = steps;
        forward = omega arith;
        within = omega arith;
        whole = omega arith;
        told = λ moved. absurd (omega arith);
        reads = (let l = ap (λ (c : Counts). c.reads) (looks (Some v.0) v.1) in omega arith);
        calls = ap (λ (c : Counts). c.calls) (looks (Some v.0) v.1);
        looks = λ u there. let l = ap (λ (c : Counts). c.looks) (looks u there) in omega arith;
      }
