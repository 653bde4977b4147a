-- What is due of a replaced text is written as far as there is room.
use Rattle.ac_util.proofs.Prelude.{◌≡◌, ℕ, ◌+◌, ◌-◌, ◌<◌, ◌≤◌, List, ◌++◌, min, length, length-append, length-drop, length-take-le, take, drop, ap, sym, ◌∙◌, arith, append-nil, append_assoc, take_all, drop_all, drop-drop, drop-append-add, drop-append-le, drop-append_seam, take-append-add, take-append-le, take-append_seam, cases_lt, inl, inr, ◌⊎◌}

-- a slice was copied over the beginning of another as far as there was room, and then a second one
pub record AreCopied (first second out new_out : List ℕ) (filled count : ℕ) : Type 0 where
  pub least : filled + count ≡ min (length (first ++ second)) (length out)
  pub copied : new_out ≡ take (filled + count) (first ++ second) ++ drop (filled + count) out
  pub left : drop (filled + count) (first ++ second) ≡ drop filled first ++ drop count second

module _ (first second out between : List ℕ) (filled count : ℕ) (least : filled ≡ min (length first) (length out))
    (copied : between ≡ take filled first ++ drop filled out) (least' : count ≡ min (length second) (length (drop filled between))) where
  abbrev after : List ℕ
  after = take filled between ++ (take count second ++ drop count (drop filled between))

  long : length (take filled first) ≡ filled
  long = length-take-le filled first (omega arith)

  -- what was copied first stands at the beginning, and the rest is as it was
  front : take filled between ≡ take filled first
  front =
      ap (take filled) copied
      ∙ ap (λ (n : ℕ). take n (take filled first ++ drop filled out)) (sym long)
      ∙ take-append_seam (take filled first) (drop filled out)

  back : drop filled between ≡ drop filled out
  back =
      ap (drop filled) copied
      ∙ ap (λ (n : ℕ). drop n (take filled first ++ drop filled out)) (sym long)
      ∙ drop-append_seam (take filled first) (drop filled out)

  room : length (drop filled between) ≡ length out - filled
  room = ap length back ∙ length-drop filled out

  after-is : after ≡ (take filled first ++ take count second) ++ drop (filled + count) out
  after-is =
      ap (λ (t : List ℕ). t ++ (take count second ++ drop count (drop filled between))) front
      ∙ ap (λ (t : List ℕ). take filled first ++ (take count second ++ t)) (ap (drop count) back ∙ drop-drop count filled out)
      ∙ sym (append_assoc (take filled first) (take count second) (drop (filled + count) out))

  pub both-copied : AreCopied first second out after filled count
  both-copied = by (cases_lt (length out) (length first))
    where
      by : (length out < length first) ⊎ (length first ≤ length out) → AreCopied first second out after filled count
      by (inr fits) =
          let all : filled ≡ length first = omega arith in
          let taken : take (filled + count) (first ++ second) ≡ take filled first ++ take count second =
          ap (λ (n : ℕ). take (n + count) (first ++ second)) all
          ∙ take-append-add first second count
          ∙ ap (λ (t : List ℕ). t ++ take count second) (sym (take_all filled first (omega arith))) in
          let l = length-append first second in record {
            least = omega (arith, room);
            copied = after-is ∙ ap (λ (t : List ℕ). t ++ drop (filled + count) out) (sym taken);
            left = ap (λ (n : ℕ). drop (n + count) (first ++ second)) all
                ∙ drop-append-add first second count
                ∙ ap (λ (t : List ℕ). t ++ drop count second) (sym (drop_all filled first (omega arith)));
          }
      by (inl more) =
          let none : count ≡ 0 = omega (arith, room) in
          let l = length-append first second in
          let same : filled + count ≡ filled = omega arith in record {
            least = omega arith;
            copied = after-is
                ∙ ap (λ (t : List ℕ). t ++ drop (filled + count) out)
                (ap (λ (n : ℕ). take filled first ++ take n second) none
                ∙ append-nil (take filled first)
                ∙ sym (take-append-le filled first second (omega arith))
                ∙ ap (λ (n : ℕ). take n (first ++ second)) (sym same));
            left = ap (λ (n : ℕ). drop n (first ++ second)) same
                ∙ drop-append-le filled first second (omega arith)
                ∙ ap (λ (n : ℕ). drop filled first ++ drop n second) (sym none);
          }
