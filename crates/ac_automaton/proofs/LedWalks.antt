-- Where bytes lead the walks over them.
use Rattle.ac_util.proofs.Prelude.{◌≡◌, ℕ, zero, suc, ◌+◌, ◌<◌, ◌≤◌, Bool, List, [], refl, ap, sym, ◌∙◌, subst, arith, None, Some, slice_index}
use Rattle.ac_automaton.specs.Prelude.{Built, No, Node, Occurrence, plain_byte, Search, reached, step, text, Anchored, IsSearchFor, StandsAfter, AutomatonView, node_at, plain_of, scan_of, step_of, led}
use Rattle.ac_util.proofs.Onward.{after-byte, byte_at}
use Rattle.ac_automaton.proofs.Led.{led-byte, led-dead, led-none}

-- a search for the patterns has these bytes from an offset on, as far as one of them
pub record IsSearchOf (built : Built) (bytes : List ℕ) (to front : ℕ) (q : Search) : Type 0 where
  pub is : IsSearchFor (plain_of built) q
  pub cases : q.ignores_case ≡ built.ignores_case
  pub within : front + to ≤ q.high
  pub same : (k : ℕ) → k < to → slice_index q.haystack (front + k) ≡ slice_index bytes k

module _ (a : AutomatonView) (stops : Bool) {bytes : List ℕ} {to front : ℕ} {q : Search} (of : IsSearchOf a.built bytes to front q) where
  -- a byte there is the search's
  pub byte-is : (at byte : ℕ) → at < to → byte ≡ slice_index bytes at → byte_at q (front + at) ≡ plain_byte a.built.ignores_case byte
  byte-is at byte before is =
      ap (λ (t : Bool). plain_byte t (slice_index q.haystack (front + at))) of.cases
      ∙ ap (plain_byte a.built.ignores_case) (of.same at before ∙ sym is)

  -- the node that is reached where a walk stands
  pub node-is : (at : ℕ) (u : List ℕ) → StandsAfter a.built.kind (plain_of a.built) q [] u (front + at)
      → node_at a.built.kind q (front + at) ≡ Some u
  node-is at u stands =
      ap (λ (ps : List (List ℕ)). reached a.built.kind ps q.anchored (text (record q { high = front + at }))) of.is.same
      ∙ ap (λ (x : Anchored). reached a.built.kind (plain_of a.built) x (text (record q { high = front + at }))) of.is.free
      ∙ stands.stands

  module _ (ms : List Occurrence) (v : List ℕ) (at : ℕ) (stands : StandsAfter a.built.kind (plain_of a.built) q ms v (front + at)) where
    -- a walk that stood where the bytes begin stands where they lead
    pub led-after : (n : ℕ) (w : List ℕ) → at + n ≤ to → led (scan_of a No stops) bytes (Some v) at n ≡ Some w
        → StandsAfter a.built.kind (plain_of a.built) q ms w (front + (at + n))
    led-after zero w up leads =
        let same : Some v ≡ Some w = sym (led-none (scan_of a No stops) bytes (Some v) at 0 refl) ∙ leads in
        let is : v ≡ w = cc in
        subst (λ (k : ℕ). StandsAfter a.built.kind (plain_of a.built) q ms w (front + k)) (let e : at ≡ at + zero = omega arith in e)
        (subst (λ (u : List ℕ). StandsAfter a.built.kind (plain_of a.built) q ms u (front + at)) is stands)
    led-after (suc n) w up leads =
        by (led (scan_of a No stops) bytes (Some v) at n) refl (λ u e. led-after n u (omega arith) e)
        (sym (led-byte (scan_of a No stops) bytes (Some v) at n (slice_index bytes (at + n)) refl)
        ∙ ap (led (scan_of a No stops) bytes (Some v) at) (let e : n + 1 ≡ suc n = omega arith in e) ∙ leads)
      where
        by : (u : Node) → led (scan_of a No stops) bytes (Some v) at n ≡ u
            → ((u : List ℕ) → led (scan_of a No stops) bytes (Some v) at n ≡ Some u
            → StandsAfter a.built.kind (plain_of a.built) q ms u (front + (at + n)))
            → step_of a.built No (led (scan_of a No stops) bytes (Some v) at n) (slice_index bytes (at + n)) ≡ Some w
            → StandsAfter a.built.kind (plain_of a.built) q ms w (front + (at + suc n))
        by None e before steps = absurd (let no : None ≡ Some w = ap (λ (u : Node). step_of a.built No u (slice_index bytes (at + n))) (sym e) ∙ steps in cc)
        by (Some u) e before steps =
            subst (λ (k : ℕ). StandsAfter a.built.kind (plain_of a.built) q ms w k)
            (let e : front + (at + n) + 1 ≡ front + (at + suc n) = omega arith in e)
            (after-byte a.built.kind (plain_of a.built) q ms u w (front + (at + n)) of.is (before u e)
            (let i = of.within in omega arith)
            (ap (step a.built.kind (plain_of a.built) No (Some u)) (byte-is (at + n) (slice_index bytes (at + n)) (omega arith) refl)
            ∙ ap (λ (x : Node). step_of a.built No x (slice_index bytes (at + n))) (sym e) ∙ steps))

  -- so the node that is reached on the way is where the bytes lead, as long as more lead on
  pub led-reached : (v : List ℕ) (at : ℕ) → StandsAfter a.built.kind (plain_of a.built) q [] v (front + at) → (n k : ℕ) (last : List ℕ)
      → at + n ≤ to → led (scan_of a No stops) bytes (Some v) at (n + k) ≡ Some last
      → node_at a.built.kind q (front + (at + n)) ≡ led (scan_of a No stops) bytes (Some v) at n
  led-reached v at stands n k last up leads = by (led (scan_of a No stops) bytes (Some v) at n) refl
    where
      by : (u : Node) → led (scan_of a No stops) bytes (Some v) at n ≡ u
          → node_at a.built.kind q (front + (at + n)) ≡ led (scan_of a No stops) bytes (Some v) at n
      by None e =
          absurd (let no : None ≡ Some last = sym (led-dead (scan_of a No stops) bytes (Some v) at n k e) ∙ leads in cc)
      by (Some u) e = node-is (at + n) u (led-after [] v at stands n u up e) ∙ sym e
