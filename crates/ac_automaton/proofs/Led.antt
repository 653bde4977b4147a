-- Where bytes lead a scan, one after another.
use Rattle.ac_util.proofs.Prelude.{◌≡◌, ℕ, zero, suc, ◌+◌, List, ap, sym, ◌∙◌, arith, None, slice_index}
use Rattle.ac_automaton.specs.Prelude.{Node, Scan, step_of, led}

module _ (s : Scan) (bytes : List ℕ) (u : Node) (from : ℕ) where
  -- bytes lead on from where others have led
  pub led-more : (n k : ℕ) → led s bytes u from (n + k) ≡ led s bytes (led s bytes u from n) (from + n) k
  unfolding led
  led-more n zero = ap (led s bytes u from) (let e : n + zero ≡ n = omega arith in e)
  led-more n (suc k) =
      ap (led s bytes u from) (let e : n + suc k ≡ suc (n + k) = omega arith in e)
      ∙ ap (λ (w : Node). step_of s.built s.anchored w (slice_index bytes (from + (n + k)))) (led-more n k)
      ∙ ap (λ (i : ℕ). step_of s.built s.anchored (led s bytes (led s bytes u from n) (from + n) k) (slice_index bytes i))
      (let e : from + (n + k) ≡ from + n + k = omega arith in e)

  -- none leads on from the dead node
  pub led-dead : (n k : ℕ) → led s bytes u from n ≡ None → led s bytes u from (n + k) ≡ None
  unfolding led
  led-dead n zero dead = ap (led s bytes u from) (let e : n + zero ≡ n = omega arith in e) ∙ dead
  led-dead n (suc k) dead =
      ap (led s bytes u from) (let e : n + suc k ≡ suc (n + k) = omega arith in e)
      ∙ ap (λ (w : Node). step_of s.built s.anchored w (slice_index bytes (from + (n + k)))) (led-dead n k dead)

  -- the byte that comes next leads on
  pub led-byte : (n byte : ℕ) → byte ≡ slice_index bytes (from + n)
      → led s bytes u from (n + 1) ≡ step_of s.built s.anchored (led s bytes u from n) byte
  unfolding led
  led-byte n byte is =
      led-more n 1 ∙ ap (step_of s.built s.anchored (led s bytes u from n))
      (ap (slice_index bytes) (let e : from + n + 0 ≡ from + n = omega arith in e) ∙ sym is)

  -- no byte leads nowhere
  pub led-none : (n : ℕ) → n ≡ 0 → led s bytes u from n ≡ u
  unfolding led
  led-none n none = ap (led s bytes u from) none
