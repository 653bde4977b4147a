-- Reading on by the byte in hand and then through a piece, and what was read then of all that came.
use Rattle.ac_util.proofs.Prelude.{◌≡◌, ◌≢◌, ℕ, zero, suc, ◌+◌, ◌-◌, ◌<◌, ◌≤◌, false, List, ◌∷◌, ◌++◌, length, slice_index, Option, Some, None, IfSome, inl, inr, refl, ap, sym, subst, ◌∙◌, arith, false≢true}
use Rattle.ac_automaton.specs.Prelude.{Arrives, Cursor, matches_of, Node, ReadsThrough, Scan, hand_bytes, in_hand, led, step_of}
use Rattle.ac_automaton.proofs.Led.{led-byte, led-none}

-- the same bytes lead to the same node, wherever they stand
pub led-moved : (s : Scan) (bytes whole : List ℕ) (shift : ℕ) (u : Node) (from n : ℕ)
    → ((k : ℕ) → k < n → slice_index whole (shift + from + k) ≡ slice_index bytes (from + k))
    → led s whole u (shift + from) n ≡ led s bytes u from n
led-moved s bytes whole shift u from zero same = led-none s whole u (shift + from) zero refl ∙ sym (led-none s bytes u from zero refl)
led-moved s bytes whole shift u from (suc n) same =
    ap (led s whole u (shift + from)) (let e : suc n ≡ n + 1 = omega arith in e)
    ∙ led-byte s whole u (shift + from) n (slice_index whole (shift + from + n)) refl
    ∙ ap (step_of s.built s.anchored (led s whole u (shift + from) n)) (same n (omega arith))
    ∙ ap (λ (x : Node). step_of s.built s.anchored x (slice_index bytes (from + n)))
    (led-moved s bytes whole shift u from n (λ k before. same k (omega arith)))
    ∙ sym (led-byte s bytes u from n (slice_index bytes (from + n)) refl)
    ∙ ap (led s bytes u from) (let e : n + 1 ≡ suc n = omega arith in e)

-- what was read of some bytes was read of others too where they stand as the last ones
module _ {s : Scan} {bytes : List ℕ} {cursor there : Cursor} {byte : Option ℕ} (reads : ReadsThrough s bytes cursor there byte)
    (whole : List ℕ) (shift : ℕ) (long : length whole ≡ shift + there.at + in_hand byte)
    (same : (k : ℕ) → k < there.at + in_hand byte → slice_index whole (shift + k) ≡ slice_index bytes k) where
  same-from : (n : ℕ) → n ≤ there.at + in_hand byte - cursor.at → (k : ℕ) → k < n
      → slice_index whole (shift + cursor.at + k) ≡ slice_index bytes (cursor.at + k)
  same-from n few k before =
      ap (slice_index whole) (let e : shift + cursor.at + k ≡ shift + (cursor.at + k) = omega arith in e)
      ∙ same (cursor.at + k) (omega arith)

  hand-there : IfSome byte (λ b. (shift + there.at < length whole) × (b ≡ slice_index whole (shift + there.at)))
  hand-there = by byte long same reads.hand
    where
      by : (b : Option ℕ) → length whole ≡ shift + there.at + in_hand b
          → ((k : ℕ) → k < there.at + in_hand b → slice_index whole (shift + k) ≡ slice_index bytes k)
          → IfSome b (λ b. (there.at < length bytes) × (b ≡ slice_index bytes there.at))
          → IfSome b (λ b. (shift + there.at < length whole) × (b ≡ slice_index whole (shift + there.at)))
      by None long same hand = tt
      by (Some b) long same hand = (omega arith, hand.1 ∙ sym (same there.at (omega arith)))

  arrives : (v : List ℕ) → Arrives s bytes v cursor there byte
      → Arrives s whole v (record { state = cursor.state; at = shift + cursor.at })
      (record { state = there.state; at = shift + there.at }) byte
  arrives v came =
      let on = reads.onward in
      record {
        node = came.node;
        there = came.there;
        leads =
            ap (led s whole (Some v) (shift + cursor.at))
            (let e : shift + there.at - (shift + cursor.at) ≡ there.at - cursor.at = omega arith in e)
            ∙ led-moved s bytes whole shift (Some v) cursor.at (there.at - cursor.at) (same-from (there.at - cursor.at) (omega arith))
            ∙ came.leads;
        none = λ stops n some few.
            ap (matches_of s.built s.anchored)
            (led-moved s bytes whole shift (Some v) cursor.at n (same-from n (omega arith)))
            ∙ came.none stops n some (omega arith);
        dead = came.dead;
      }

  pub reads-moved : ReadsThrough s whole (record { state = cursor.state; at = shift + cursor.at })
      (record { state = there.state; at = shift + there.at }) byte
  reads-moved = record {
    onward = let on = reads.onward in omega arith;
    within = λ inside. omega arith;
    hand = hand-there;
    comes = λ v stands. arrives v (reads.comes v stands);
    moved = λ none some. let e = ap in_hand none in omega arith;
    enough = λ none. inl (let e = ap in_hand none in omega arith);
  }

-- a byte leads on, and then more bytes do
led-first : (s : Scan) (b : ℕ) (bytes : List ℕ) (u : Node) (n : ℕ)
    → led s (b ∷ bytes) u 0 (n + 1) ≡ led s bytes (step_of s.built s.anchored u b) 0 n
led-first s b bytes u zero =
    led-byte s (b ∷ bytes) u 0 zero b refl ∙ ap (λ (x : Node). step_of s.built s.anchored x b) (led-none s (b ∷ bytes) u 0 zero refl)
    ∙ sym (led-none s bytes (step_of s.built s.anchored u b) 0 zero refl)
led-first s b bytes u (suc n) =
    led-byte s (b ∷ bytes) u 0 (suc n) (slice_index bytes n) (ap (slice_index (b ∷ bytes)) (let e : suc n ≡ 0 + suc n = omega arith in e))
    ∙ ap (λ (x : Node). step_of s.built s.anchored x (slice_index bytes n))
    (ap (led s (b ∷ bytes) u 0) (let e : suc n ≡ n + 1 = omega arith in e) ∙ led-first s b bytes u n)
    ∙ sym (led-byte s bytes (step_of s.built s.anchored u b) 0 n (slice_index bytes n) (ap (slice_index bytes) (let e : n ≡ 0 + n = omega arith in e)))
    ∙ ap (led s bytes (step_of s.built s.anchored u b) 0) (let e : n + 1 ≡ suc n = omega arith in e)

-- the byte in hand was tried, by a search that stops at no match
module _ (s : Scan) (past : s.stops ≡ false) (state next b : ℕ) (bytes : List ℕ)
    (steps : (u : Node) → s.stands state u → s.stands next (step_of s.built s.anchored u b)) where
  -- and leads to the dead node
  pub reads-dead : ((u : Node) → s.stands next u → u ≡ None)
      → ReadsThrough s (b ∷ bytes) (record { state = state; at = 0 }) (record { state = state; at = 0 }) (Some b)
  reads-dead dead = record {
    onward = omega arith;
    within = λ inside. omega arith;
    hand = (omega arith, refl);
    moved = λ none. absurd (let no : Some b ≡ None = none in cc);
    comes = λ v stands. record {
      node = v;
      there = stands;
      leads = led-none s (b ∷ bytes) (Some v) 0 (0 - 0) (omega arith);
      none = λ stops. absurd (false≢true (sym past ∙ stops));
      dead = dead (step_of s.built s.anchored (Some v) b) (steps (Some v) stands);
    };
    enough = λ none. absurd (let no : Some b ≡ None = none in cc);
  }

  -- or leads on, and more was read
  pub reads-after : ((u : Node) → s.stands next u → u ≢ None) → {there : Cursor} {byte : Option ℕ}
      → ReadsThrough s bytes (record { state = next; at = 0 }) there byte
      → ReadsThrough s (b ∷ bytes) (record { state = state; at = 0 }) (record { state = there.state; at = there.at + 1 }) byte
  reads-after alive {there} {byte} reads = record {
    onward = omega arith;
    within = λ inside. let w = reads.within (omega arith) in omega arith;
    hand = by byte reads.hand;
    moved = λ none some. omega arith;
    comes = λ v stands. go v (step_of s.built s.anchored (Some v) b) refl (steps (Some v) stands);
    enough = λ none. elim (reads.enough none) [
      | inl over ↦ inl (omega arith)
      | inr stopped ↦ absurd (false≢true (sym past ∙ stopped.0))
    ];
  }
    where
      by : (x : Option ℕ) → IfSome x (λ x. (there.at < length bytes) × (x ≡ slice_index bytes there.at))
          → IfSome x (λ x. (there.at + 1 < length (b ∷ bytes)) × (x ≡ slice_index (b ∷ bytes) (there.at + 1)))
      by None hand = tt
      by (Some x) hand =
          (omega arith, hand.1 ∙ ap (slice_index (b ∷ bytes)) (let e : suc there.at ≡ there.at + 1 = omega arith in e))

      go : (v : List ℕ) (x : Node) → step_of s.built s.anchored (Some v) b ≡ x → s.stands next (step_of s.built s.anchored (Some v) b)
          → Arrives s (b ∷ bytes) v (record { state = state; at = 0 }) (record { state = there.state; at = there.at + 1 }) byte
      go v None is stands = absurd (alive (step_of s.built s.anchored (Some v) b) stands is)
      go v (Some w) is stands =
          let came = reads.comes w (subst (s.stands next) is stands) in
          record {
            node = came.node;
            there = came.there;
            leads =
                ap (led s (b ∷ bytes) (Some v) 0) (let e : there.at + 1 - 0 ≡ there.at + 1 = omega arith in e)
                ∙ led-first s b bytes (Some v) there.at ∙ ap (λ (x : Node). led s bytes x 0 there.at) is
                ∙ ap (led s bytes (Some w) 0) (let e : there.at ≡ there.at - 0 = omega arith in e) ∙ came.leads;
            none = λ stops. absurd (false≢true (sym past ∙ stops));
            dead = came.dead;
          }

-- so it is from a cursor at the first of these bytes
module _ (s : Scan) (past : s.stops ≡ false) (cursor : Cursor) (begins : cursor.at ≡ 0) (next : ℕ) (hand : Option ℕ) (b : ℕ)
    (is : hand ≡ Some b) (bytes : List ℕ) (steps : (u : Node) → s.stands cursor.state u → s.stands next (step_of s.built s.anchored u b)) where
  pub hand-dead : ((u : Node) → s.stands next u → u ≡ None)
      → ReadsThrough s (hand_bytes hand ++ bytes) cursor cursor (Some b)
  hand-dead dead =
      subst (λ (h : Option ℕ). ReadsThrough s (hand_bytes h ++ bytes) cursor cursor (Some b)) (sym is)
      (subst (λ (k : ℕ). ReadsThrough s (b ∷ bytes) (record { state = cursor.state; at = k }) (record { state = cursor.state; at = k }) (Some b))
      (sym begins) (reads-dead s past cursor.state next b bytes steps dead))

  pub hand-after : ((u : Node) → s.stands next u → u ≢ None) → {there : Cursor} {byte : Option ℕ}
      → ReadsThrough s bytes (record { state = next; at = cursor.at }) there byte
      → ReadsThrough s (hand_bytes hand ++ bytes) cursor (record { state = there.state; at = there.at + 1 }) byte
  hand-after alive {there} {byte} reads =
      subst (λ (h : Option ℕ). ReadsThrough s (hand_bytes h ++ bytes) cursor (record { state = there.state; at = there.at + 1 }) byte) (sym is)
      (subst (λ (k : ℕ). ReadsThrough s (b ∷ bytes) (record { state = cursor.state; at = k }) (record { state = there.state; at = there.at + 1 }) byte)
      (sym begins)
      (reads-after s past cursor.state next b bytes steps alive
      (subst (λ (k : ℕ). ReadsThrough s bytes (record { state = next; at = k }) there byte) begins reads)))
