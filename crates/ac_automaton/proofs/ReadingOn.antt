-- A scan that reads on: by nothing, and by one piece after another.
use Rattle.ac_util.proofs.Prelude.{◌≡◌, ◌≢◌, ◌⊎◌, ℕ, ◌+◌, ◌-◌, ◌*◌, ◌<◌, ◌≤◌, true, false, List, [], inl, inr, refl, ap, sym, ◌∙◌, subst, arith, Option, None, Some, IfSome, length, slice_index, cases_lt, false≢true, common_steps}
use Rattle.ac_automaton.specs.Prelude.{Node, Cursor, Lists, matches_of, most_looks, Scan, step_of, Work, Comes, HasScanned, hand_of, in_hand, IsReading, led, MayRead, Point, read_to, ReadsEnough, ReadsFurther, ReadsOn, ReadsToStop, StopsAt, tried, worth, Dead}
use Rattle.std.specs.Option.{is_some}
use Rattle.ac_automaton.proofs.Heads.{nil-from_not, nothing-listed}
use Rattle.ac_automaton.proofs.Led.{led-more, led-none}

-- one piece after another is a piece
pub scanned-then : {s : Scan} {p q r : Point} → HasScanned s p q → HasScanned s q r → HasScanned s p r
scanned-then one two = grind (arith, common_steps)

-- two payments one after another, of which each pays by `m` for each byte read
paid-twice : (m a b c x y z r t v w : ℕ) → a ≤ b → b ≤ c → y + t ≤ x + r + m * (b - a) + 0 → z + v ≤ y + t + m * (c - b) + w
    → z + v ≤ x + r + m * (c - a) + w
paid-twice m a b c x y z r t v w low high one two = grind (arith, common_steps)

-- a scan that has done nothing
pub nothing-scanned : {s : Scan} {p : Point} → p.work.place ≤ read_to p → HasScanned s p p
nothing-scanned unread = grind (arith, common_steps)

module _ {s : Scan} where
  -- one that stays where it is
  pub comes-nowhere : {p : Point} {v : List ℕ} → p.hand ≡ None → s.stands p.cursor.state (Some v) → Comes s p v p
  comes-nowhere {p} {v} empty there = record {
    node = v;
    there = there;
    leads = led-none s p.bytes (Some v) p.cursor.at _ (omega arith);
    none = λ t n some less. let h = ap in_hand empty in absurd (omega arith);
    paid = (let t = ap (tried s v) empty in omega arith);
    dead = subst (λ (h : Option ℕ). IfSome h (λ b. step_of s.built s.anchored (Some v) b ≡ None)) (sym empty) tt;
  }

  -- one that comes on with nothing in hand to a state at which it doesn't stop, and then comes on from there
  module _ {p q r : Point} {v : List ℕ} (one : Comes s p v q) (empty : q.hand ≡ None) (same : q.bytes ≡ p.bytes)
      (two : Comes s q one.node r) (low : p.cursor.at ≤ q.cursor.at) (high : q.cursor.at ≤ r.cursor.at)
      (fewer : p.work.counts.reads ≤ q.work.counts.reads) (more : q.work.counts.reads ≤ r.work.counts.reads)
      (quiet : s.stops ≡ true → p.cursor.at < q.cursor.at → matches_of s.built s.anchored (Some one.node) ≡ []) where
    abbrev n : ℕ
    n = q.cursor.at - p.cursor.at

    -- bytes lead from the node between to where they lead from the first
    led-there : (k : ℕ) → led s p.bytes (Some v) p.cursor.at (n + k) ≡ led s q.bytes (Some one.node) q.cursor.at k
    led-there k =
        led-more s p.bytes (Some v) p.cursor.at n k
        ∙ ap (λ (u : Node). led s p.bytes u (p.cursor.at + n) k) one.leads
        ∙ ap (λ (i : ℕ). led s p.bytes (Some one.node) i k) (let e : p.cursor.at + n ≡ q.cursor.at = omega arith in e)
        ∙ ap (λ (bs : List ℕ). led s bs (Some one.node) q.cursor.at k) (sym same)

    none-then : s.stops ≡ true → (k : ℕ) → 0 < k → k < read_to r - p.cursor.at
        → matches_of s.built s.anchored (led s p.bytes (Some v) p.cursor.at k) ≡ []
    none-then t k some less = let h = ap in_hand empty in elim (cases_lt k n) [
      | inl before ↦ one.none t k some (omega arith)
      | inr beyond ↦ elim (cases_lt n k) [
        | inl after ↦
            ap (λ (i : ℕ). matches_of s.built s.anchored (led s p.bytes (Some v) p.cursor.at i))
            (let e : k ≡ n + (k - n) = omega arith in e)
            ∙ ap (matches_of s.built s.anchored) (led-there (k - n)) ∙ two.none t (k - n) (omega arith) (omega arith)
        | inr there ↦
            ap (λ (i : ℕ). matches_of s.built s.anchored (led s p.bytes (Some v) p.cursor.at i))
            (let e : k ≡ n = omega arith in e)
            ∙ ap (matches_of s.built s.anchored) one.leads ∙ quiet t (omega arith)
      ]
    ]

    pub comes-then : Comes s p v r
    comes-then = record {
      node = two.node;
      there = two.there;
      leads = ap (led s p.bytes (Some v) p.cursor.at)
          (let e : r.cursor.at - p.cursor.at ≡ n + (r.cursor.at - q.cursor.at) = omega arith in e)
          ∙ led-there (r.cursor.at - q.cursor.at) ∙ two.leads;
      none = none-then;
      paid =
          paid-twice (most_looks s.anchored s.most) p.work.counts.reads q.work.counts.reads r.work.counts.reads p.work.counts.looks
          q.work.counts.looks r.work.counts.looks (worth s v p.hand) (worth s one.node q.hand) (worth s two.node r.hand)
          (tried s two.node r.hand) fewer more
          (subst (λ (k : ℕ). q.work.counts.looks + worth s one.node q.hand ≤ p.work.counts.looks + worth s v p.hand
          + most_looks s.anchored s.most * (q.work.counts.reads - p.work.counts.reads) + k) (ap (tried s one.node) empty) one.paid)
          two.paid;
      dead = two.dead;
    }

  -- a scan that has read nothing
  pub reads-nothing : {end : ℕ} {p : Point} → MayRead s end p → p.hand ≡ None → ReadsOn s end p p
  reads-nothing {end} {p} may empty = record {
    bytes = refl;
    within = λ up. up;
    scans = nothing-scanned may.unread;
    hand = may.hand;
    comes = λ v there. comes-nowhere empty there;
  }

  -- one that has read on may read on from there
  pub may-then : {end : ℕ} {p q : Point} → MayRead s end p → ReadsOn s end p q → q.hand ≡ None → MayRead s end q
  may-then {end} {p} {q} may on empty = record {
    alive = (let v = may.alive in let c = on.comes v.0 v.1 in (c.node, c.there));
    hand = subst (λ (h : Option ℕ). IfSome h (λ b. (q.cursor.at < end) × (b ≡ slice_index q.bytes q.cursor.at))) (sym empty) tt;
    unread = on.scans.unread;
    inside = (let l = ap (length {A = ℕ}) on.bytes in let i = may.inside in omega arith);
  }

  -- so does one piece after another, where it doesn't stop between
  pub reads-then : {end : ℕ} {p q r : Point} → ReadsOn s end p q → q.hand ≡ None → ReadsOn s end q r
      → ((u : Node) → s.stands q.cursor.state u → Lists s.built s.anchored u (s.listed q.cursor.state))
      → (p.cursor.at < q.cursor.at → ¬ StopsAt s q.cursor.state) → ReadsOn s end p r
  reads-then {end} {p} {q} {r} one empty two lists quiet = record {
    bytes = two.bytes ∙ one.bytes;
    within = λ up. two.within (one.within up);
    scans = scanned-then one.scans two.scans;
    hand = subst (λ (bs : List ℕ). IfSome r.hand (λ b. (r.cursor.at < end) × (b ≡ slice_index bs r.cursor.at))) one.bytes two.hand;
    comes = λ v there.
        let c = one.comes v there in
        comes-then c empty one.bytes (two.comes c.node c.there) one.scans.onward two.scans.onward one.scans.grows.reads two.scans.grows.reads
        (λ t moved. nothing-listed s.built s.anchored (Some c.node) (lists (Some c.node) c.there)
        (nil-from_not (s.listed q.cursor.state) (λ some. quiet moved (t, some))));
  }

  -- what was read within an end was read within a later one
  pub reads-within : {to end : ℕ} {p q : Point} → ReadsOn s to p q → to ≤ end → p.cursor.at ≤ to → ReadsOn s end p q
  reads-within {to} {end} {p} {q} on later up = record {
    bytes = on.bytes;
    within = λ h. let w = on.within up in omega arith;
    scans = on.scans;
    hand = by q.hand on.hand;
    comes = on.comes;
  }
    where
      by : (h : Option ℕ) → IfSome h (λ b. (q.cursor.at < to) × (b ≡ slice_index p.bytes q.cursor.at))
          → IfSome h (λ b. (q.cursor.at < end) × (b ≡ slice_index p.bytes q.cursor.at))
      by None h = tt
      by (Some b) h = (let l = h.0 in omega arith, h.1)

-- a scan on its way, which has nothing in hand
module _ {s : Scan} {end : ℕ} {p : Point} (may : MayRead s end p) (empty : p.hand ≡ None) where
  -- at first it has read nothing
  pub reading-first : IsReading s end p p
  reading-first = record { on = reads-nothing may empty; quiet = λ moved. absurd (omega arith) }

module _ {s : Scan} {end : ℕ} {p : Point} (may : MayRead s end p) {cursor : Cursor} {bytes : List ℕ} {work : Work}
    (reading : IsReading s end p (record { bytes = bytes; cursor = cursor; hand = None; work = work })) where
  abbrev q : Point
  q = record { bytes = bytes; cursor = cursor; hand = None; work = work }

  -- it may read on
  pub may-go-on : MayRead s end q
  may-go-on = may-then may reading.on refl

  -- and has read all at the end
  pub stops-end : end ≤ cursor.at → ReadsToStop s end p None q
  stops-end over = record {
    further = record { on = reading.on; moved = λ before h. omega arith; gone = tt };
    enough = λ none. inl over;
  }

  -- it reads on by a piece
  module _ (lists : (u : Node) → s.stands cursor.state u → Lists s.built s.anchored u (s.listed cursor.state))
      {dead : Option Dead} {there : Cursor} {bs : List ℕ} {new_work : Work}
      (piece : ReadsFurther s end q dead (record { bytes = bs; cursor = there; hand = hand_of dead; work = new_work })) where
    abbrev r : Point
    r = record { bytes = bs; cursor = there; hand = hand_of dead; work = new_work }

    reads-piece : ReadsOn s end p r
    reads-piece = reads-then reading.on refl piece.on lists reading.quiet

    moves-piece : cursor.at < end → p.cursor.at < end → r.hand ≡ None → p.cursor.at < r.cursor.at
    moves-piece before h none = (let m = piece.moved before none in let o = reading.on.scans.onward in omega arith)

    -- that is a piece from where it began
    pub piece-then : cursor.at < end → ReadsFurther s end p dead r
    piece-then before = record { on = reads-piece; moved = moves-piece before; gone = piece.gone }

    -- as far as it reads, where it was so from here on
    pub stops-then : ReadsEnough s end r → ReadsToStop s end p dead r
    stops-then enough = record {
      further = record {
        on = reads-piece;
        moved = λ before none. (let a = reading.on.scans.onward in let b = piece.on.scans.onward in
            elim (cases_lt cursor.at end) [
              | inl within ↦ (let m = piece.moved within none in omega arith)
              | inr over ↦ omega arith
            ]);
        gone = piece.gone;
      };
      enough = enough;
    }

    -- after which it is to stop
    pub stops-piece : cursor.at < end → (dead ≢ None) ⊎ ((end ≤ there.at) ⊎ StopsAt s there.state) → ReadsToStop s end p dead r
    stops-piece before stops = record {
      further = piece-then before;
      enough = λ none. by dead none stops;
    }
      where
        by : (d : Option Dead) → hand_of d ≡ None → (d ≢ None) ⊎ ((end ≤ there.at) ⊎ StopsAt s there.state)
            → (end ≤ there.at) ⊎ StopsAt s there.state
        by None none (inl came) = absurd (came refl)
        by None none (inr stops) = stops
        by (Some d) none stops = absurd (let no : Some d.byte ≡ None = none in cc)

    -- or isn't
    pub reading-piece : hand_of dead ≡ None → ¬ StopsAt s there.state
        → IsReading s end p (record { bytes = bs; cursor = there; hand = None; work = new_work })
    reading-piece none not = record {
      on = subst (λ (h : Option ℕ). ReadsOn s end p (record { bytes = bs; cursor = there; hand = h; work = new_work })) none reads-piece;
      quiet = λ moved. not;
    }

-- no byte was read that leads to the dead state, or one was
pub none-dead : {dead : Option Dead} → is_some dead ≡ false → dead ≡ None
none-dead {dead = None} e = refl
none-dead {dead = Some d} e = absurd (false≢true (sym e))

pub some-dead : {dead : Option Dead} → is_some dead ≡ true → dead ≢ None
some-dead {dead = None} e none = false≢true e
some-dead {dead = Some d} e none = absurd (cc)
