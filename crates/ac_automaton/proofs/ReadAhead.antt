-- A scan that reads on in a text, up to a match or into the dead state.
use Rattle.ac_util.proofs.Prelude.{◌≡◌, ◌≢◌, ◌⊎◌, ℕ, zero, suc, ◌+◌, ◌-◌, ◌*◌, ◌<◌, ◌≤◌, true, List, [], length, inl, inr, subst, sym, refl, ap, ◌∙◌, arith, Option, None, Some, IfSome, slice_index, cases_lt}
use Rattle.ac_automaton.specs.Prelude.{Counts, credit, Node, Taped, Cursor, IsAlive, matches_of, MayAdvance, most_looks, node, PassesNoMatch, Scan, ScannerView, ScansTo, ScanText, step_of, work_of, Comes, entered, HasScanned, hand_of, in_hand, led, MayRead, Point, point, read_to, ReadsFurther, ReadsOn, tried, worth, Advances, at, Dead}
use Rattle.ac_automaton.proofs.Led.{led-byte, led-dead, led-none}
use Rattle.ac_automaton.proofs.Looks.{credit-dead, step-within}
use Rattle.ac_automaton.proofs.ReadOn.{node-step}

-- a scanner may read on where a text has led it
pub may-read : {v : ScannerView} {tape : Taped} {cursor : Cursor} {counts : Counts} → MayAdvance v tape cursor
    → MayRead v.scan v.span.end (point cursor None tape counts)
may-read {v} {tape} {cursor} {counts} may = record {
  alive = by (node v.scan may.alive.0 cursor.at) may.alive.2.is_at.there may.alive.2.living;
  hand = tt;
  unread = (let u = may.unread in omega arith);
  inside = may.inside;
}
  where
    by : (u : Node) → v.scan.stands cursor.state u → u ≢ None → (w : List ℕ) × v.scan.stands cursor.state (Some w)
    by None there living = absurd (living refl)
    by (Some w) there living = (w, there)

module _ (s : Scan) (t : ScanText) (from : ℕ) (begun : t.start ≤ from) where
  -- the bytes lead from the node reached to the one reached further on
  pub node-led : (n : ℕ) → from + n ≤ length t.bytes → led s t.bytes (node s t from) from n ≡ node s t (from + n)
  node-led zero up = led-none s t.bytes (node s t from) from 0 refl ∙ ap (node s t) (let e : from ≡ from + zero = omega arith in e)
  node-led (suc n) up =
      ap (led s t.bytes (node s t from) from) (let e : suc n ≡ n + 1 = omega arith in e)
      ∙ led-byte s t.bytes (node s t from) from n (slice_index t.bytes (from + n)) refl
      ∙ ap (λ (u : Node). step_of s.built s.anchored u (slice_index t.bytes (from + n))) (node-led n (omega arith))
      ∙ node-step s t (from + n) (slice_index t.bytes (from + n)) (omega arith) (omega arith) refl
      ∙ ap (node s t) (let e : from + n + 1 ≡ from + suc n = omega arith in e)

  pub led-node : (k : ℕ) → from ≤ k → k ≤ length t.bytes → led s t.bytes (node s t from) from (k - from) ≡ node s t k
  led-node k low up = node-led (k - from) (omega arith) ∙ ap (node s t) (let e : from + (k - from) ≡ k = omega arith in e)

-- a scan that a text has led to the node w has read on there
module _ {s : Scan} {t : ScanText} {p q : Point} {w : List ℕ} (one_or_two : (s.most ≡ 1) ⊎ (s.most ≡ 2))
    (same : t.bytes ≡ p.bytes) (alive : IsAlive s t p.cursor) (is : node s t p.cursor.at ≡ Some w) (empty : p.hand ≡ None)
    (scans : HasScanned s p q) (comes : Comes s p w q) (inside : read_to q ≤ length t.bytes) where
  abbrev from : ℕ
  from = p.cursor.at

  abbrev m : ℕ
  m = most_looks s.anchored s.most

  -- where the bytes lead, by the text
  led-is : (k : ℕ) → from ≤ k → k ≤ length t.bytes → led s p.bytes (Some w) from (k - from) ≡ node s t k
  led-is k low up =
      ap (λ (u : Node). led s p.bytes u from (k - from)) (sym is)
      ∙ ap (λ (bs : List ℕ). led s bs (node s t from) from (k - from)) (sym same)
      ∙ led-node s t from alive.is_at.onward k low up

  pub at-node : node s t q.cursor.at ≡ Some comes.node
  at-node = (let o = scans.onward in sym (led-is q.cursor.at o (omega arith))) ∙ comes.leads

  -- it was dead nowhere before
  pub living : (k : ℕ) → t.start ≤ k → k ≤ q.cursor.at → node s t k ≢ None
  living k low up dead = elim (cases_lt k from) [
    | inl before ↦ alive.is_at.alive k low before dead
    | inr beyond ↦
        let o = scans.onward in
        let gone = led-dead s p.bytes (Some w) from (k - from) (q.cursor.at - k) (led-is k (omega arith) (omega arith) ∙ dead) in
        let there = ap (led s p.bytes (Some w) from) (let e : k - from + (q.cursor.at - k) ≡ q.cursor.at - from = omega arith in e) in
        absurd (let both : None ≡ Some comes.node = sym gone ∙ there ∙ comes.leads in cc)
  ]

  pub none-to : s.stops ≡ true → (k : ℕ) → from < k → k < read_to q → matches_of s.built s.anchored (node s t k) ≡ []
  none-to stops k low high =
      ap (matches_of s.built s.anchored) (sym (led-is k (omega arith) (omega arith))) ∙ comes.none stops (k - from) (omega arith) (omega arith)

  -- what it has read, up to an offset by which its looks are paid
  scans-so : (to : ℕ) → to ≡ read_to q
      → q.work.counts.looks + credit m (node s t to)
      ≤ p.work.counts.looks + credit m (Some w) + m * (q.work.counts.reads - p.work.counts.reads) → ScansTo s t from p.work to q.work
  scans-so to is-to paid =
      let h = ap in_hand empty in let f = scans.further in let u = scans.unread in let r = scans.reads in let k = scans.calls in
      let c = ap (credit m) is in
      record {
        onward = omega arith;
        forward = scans.forward;
        unread = omega arith;
        grows = scans.grows;
        told = scans.told;
        whole = λ same-calls. (let n = scans.whole same-calls in omega arith);
        counted = λ same-calls. (let n = scans.counted same-calls in omega arith);
        reads = omega arith;
        paid = omega arith;
        calls = omega arith;
        quiet = scans.quiet;
      }

  pub scans-there : q.hand ≡ None → ScansTo s t from p.work q.cursor.at q.work
  scans-there none = let h = ap in_hand none in
      scans-so q.cursor.at (omega arith)
      (let c = ap (credit m) at-node in let paid = comes.paid in let v = ap (worth s comes.node) none in let z = ap (worth s w) empty in
      let d = ap (tried s comes.node) none in omega arith)

  -- with nothing in hand it is there
  pub passes-on : s.stops ≡ true → q.hand ≡ None → PassesNoMatch s t from p.work q.cursor q.work
  passes-on stops none = let h = ap in_hand none in record {
    is_at = record {
      there = subst (s.stands q.cursor.state) (sym at-node) comes.there;
      onward = (let o = scans.onward in let b = alive.is_at.onward in omega arith);
      inside = omega arith;
      alive = λ k low below. living k low (omega arith);
    };
    scans = scans-there none;
    none = λ k low high. none-to stops k low (omega arith);
  }

  -- else it follows the byte in hand into the dead state
  module _ {byte : ℕ} (some : q.hand ≡ Some byte) (is-byte : byte ≡ slice_index p.bytes q.cursor.at) where
    pub at-dead : node s t (q.cursor.at + 1) ≡ None
    at-dead =
        let h = ap in_hand some in let o = scans.onward in let b = alive.is_at.onward in
        sym (node-step s t q.cursor.at byte (omega arith) (omega arith) (is-byte ∙ ap (λ (bs : List ℕ). slice_index bs q.cursor.at) (sym same)))
        ∙ ap (λ (u : Node). step_of s.built s.anchored u byte) at-node
        ∙ subst (λ (hand : Option ℕ). IfSome hand (λ b. step_of s.built s.anchored (Some comes.node) b ≡ None)) some comes.dead

    dead-paid : q.work.counts.looks + credit m (node s t (q.cursor.at + 1))
        ≤ p.work.counts.looks + credit m (Some w) + m * (q.work.counts.reads - p.work.counts.reads)
    dead-paid =
        let c = ap (credit m) at-dead in let paid = comes.paid in let v = ap (worth s comes.node) some in let z = ap (worth s w) empty in
        let d = ap (tried s comes.node) some in
        let within = step-within s.most s.built s.anchored (Some comes.node) byte one_or_two in let zero = credit-dead m in omega arith

    pub scans-dead : ScansTo s t from p.work (q.cursor.at + 1) q.work
    scans-dead = let h = ap in_hand some in scans-so (q.cursor.at + 1) (omega arith) dead-paid

    pub passes-dead : s.stops ≡ true → {gone : Cursor} → gone.at ≡ q.cursor.at + 1 → s.stands gone.state None
        → PassesNoMatch s t from p.work gone q.work
    passes-dead stops {gone} past there = let h = ap in_hand some in record {
      is_at = record {
        there = subst (s.stands gone.state) (sym (ap (node s t) past ∙ at-dead)) there;
        onward = (let o = scans.onward in let b = alive.is_at.onward in omega arith);
        inside = omega arith;
        alive = λ k low below. living k low (omega arith);
      };
      scans = subst (λ (k : ℕ). ScansTo s t from p.work k q.work) (sym past) scans-dead;
      none = λ k low high. none-to stops k low (omega arith);
    }

-- a text that has led a scan to a cursor has led it to some node there
alive-node : (s : Scan) (t : ScanText) (cursor : Cursor) → IsAlive s t cursor → (w : List ℕ) × (node s t cursor.at ≡ Some w)
alive-node s t cursor alive = some (node s t cursor.at) refl alive.living
  where
    some : (u : Node) → node s t cursor.at ≡ u → u ≢ None → (w : List ℕ) × (node s t cursor.at ≡ Some w)
    some None e living = absurd (living refl)
    some (Some w) e living = (w, e)

module _ {s : Scan} {end : ℕ} {tape new_tape : Taped} {cursor there : Cursor} {counts new_counts : Counts}
    (one_or_two : (s.most ≡ 1) ⊎ (s.most ≡ 2)) (stops : s.stops ≡ true) (inside : end ≤ length tape.bytes) (up : cursor.at ≤ end)
    (t : ScanText) (same : t.bytes ≡ tape.bytes) (alive : IsAlive s t cursor) where
  -- so it has passed over no match with nothing in hand
  pub passes-read : ReadsOn s end (point cursor None tape counts) (point there None new_tape new_counts)
      → PassesNoMatch s t cursor.at (work_of tape counts) there (work_of new_tape new_counts)
  passes-read on =
      let n = alive-node s t cursor alive in let l = ap (length {A = ℕ}) same in let w = on.within up in
      passes-on one_or_two same alive n.1 refl on.scans (on.comes n.0 (subst (s.stands cursor.state) n.1 alive.is_at.there))
      (omega arith) stops refl

  -- and where it has followed a byte into the dead state
  pub passes-past : {byte : ℕ} {gone : Cursor} → ReadsOn s end (point cursor None tape counts) (point there (Some byte) new_tape new_counts)
      → gone.at ≡ there.at + 1 → s.stands gone.state None
      → PassesNoMatch s t cursor.at (work_of tape counts) gone (work_of new_tape new_counts)
  passes-past on past dead =
      let n = alive-node s t cursor alive in let l = ap (length {A = ℕ}) same in let h = on.hand.0 in
      passes-dead one_or_two same alive n.1 refl on.scans (on.comes n.0 (subst (s.stands cursor.state) n.1 alive.is_at.there))
      (omega arith) refl on.hand.1 stops past dead

-- so a scanner has read on that stops at a match, once it has followed a byte into the dead state
pub advances : {v : ScannerView} {tape : Taped} {cursor : Cursor} {counts : Counts} {dead : Option Dead} {there : Cursor}
    {new_tape : Taped} {new_counts : Counts} → (v.scan.most ≡ 1) ⊎ (v.scan.most ≡ 2) → v.scan.stops ≡ true → MayAdvance v tape cursor
    → ReadsFurther v.scan v.span.end (point cursor None tape counts) dead (point there (hand_of dead) new_tape new_counts)
    → {new_cursor : Cursor} → new_cursor ≡ entered dead there → Advances v (at cursor tape counts) (at new_cursor new_tape new_counts)
advances {v} {tape} {cursor} {counts} {dead} {there} {new_tape} {new_counts} one_or_two stops may further {new_cursor} is =
    subst (λ (c : Cursor). Advances v (at cursor tape counts) (at c new_tape new_counts)) (sym is) (by dead further)
  where
    by : (d : Option Dead) → ReadsFurther v.scan v.span.end (point cursor None tape counts) d (point there (hand_of d) new_tape new_counts)
        → Advances v (at cursor tape counts) (at (entered d there) new_tape new_counts)
    by None further = let b = may.before_end in record {
      bytes = further.on.bytes;
      moved = further.moved b refl;
      within = further.on.within (omega arith);
      passes = λ t same alive. passes-read one_or_two stops may.inside (omega arith) t same alive further.on;
    }
    by (Some d) further =
        let b = may.before_end in let o = further.on.scans.onward in let h = further.on.hand.0 in let f = further.gone.0 in record {
          bytes = further.on.bytes;
          moved = omega arith;
          within = omega arith;
          passes = λ t same alive.
              passes-past one_or_two stops may.inside (omega arith) t same alive further.on further.gone.0 further.gone.1;
        }
