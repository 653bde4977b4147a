-- Counting the matches of each pattern, one match after another.
use Rattle.std.proofs.Common.{◌≡◌, ℕ, ◌+◌, ◌<◌, ◌≤◌, ◌==◌, Bool, true, false, List, [], ◌∷◌, ◌++◌, cond, length, refl, sym, ◌∙◌, arith, get_or, set}
use Rattle.std.proofs.lemmas.Bool.{eqb-false, eqb-true}
use Rattle.std.proofs.lemmas.Grind.{common_steps}
use Rattle.std.proofs.lemmas.List.{get_or-set_other, get_or-set_same, length-set}
use Rattle.std.proofs.lemmas.List.Sums.{count_by-le-length, sum_by-append}
use Rattle.ac_search.specs.Occurrence.{Occurrence}
use Rattle.examples.specs.Callers.{CountsEach}

module _ {patterns : ℕ} {counts : List ℕ} {ms : List Occurrence} (counted : CountsEach patterns counts ms) where
  -- no count is more than the number of matches
  pub counts-few : (i d : ℕ) → i < patterns → get_or counts i d ≤ length ms
  counts-few i d within =
      let few = count_by-le-length (λ (m : Occurrence). m.pattern == i) ms in
      let each = counted.each i d within in grind (arith, common_steps)

  module _ (m : Occurrence) (d : ℕ) (within : m.pattern < patterns) where
    -- the counts with one match more
    abbrev more : List ℕ
    more = set counts m.pattern (get_or counts m.pattern d + 1)

    each-more : (i e : ℕ) → i < patterns → (own : Bool) → (m.pattern == i) ≡ own
        → get_or more i e ≡ get_or counts i d + cond own 1 0
    each-more i e less true is =
        let same = eqb-true m.pattern i is in let long = counted.whole in
        grind (arith, common_steps, get_or-set_same counts m.pattern (get_or counts m.pattern d + 1) e (omega arith))
    each-more i e less false other =
        get_or-set_other counts m.pattern i (get_or counts m.pattern d + 1) e (λ same. eqb-false m.pattern i other (sym same))
        ∙ (let here = counted.each i d less in let there = counted.each i e less in grind (arith, common_steps))

    pub counts-more : CountsEach patterns more (ms ++ m ∷ [])
    counts-more = record {
      whole = length-set counts m.pattern (get_or counts m.pattern d + 1) ∙ counted.whole;
      each = λ i e less.
          each-more i e less (m.pattern == i) refl
          ∙ (let each = counted.each i d less in
          grind (arith, common_steps, sum_by-append (λ (n : Occurrence). cond (n.pattern == i) 1 0) ms (m ∷ [])));
    }
