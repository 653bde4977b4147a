-- Where a pattern stands in a text: after some bytes and before some more.
use Rattle.ac_util.proofs.Prelude.{◌≡◌, ℕ, ◌+◌, ◌-◌, Bool, false, List, ◌++◌, take, drop, slice_range, ap, sym, subst, ◌∙◌, arith, IfSome, Option, None, Some, drop-drop, take-append-drop, common_steps}
use Rattle.ac_search.specs.Prelude.{IsItsPattern, IsSame, LiesIn, Occurrence, Occurs, pattern_of, search_in, StandsBetween}
use Rattle.ac_automaton.specs.Util.{Built, InputView}
use Rattle.ac_util.specs.Input.{whole_input}
use Rattle.ac_util.proofs.SamenessLemmas.{IsSame-equal, IsSame-length}

-- where case counts, a match that lies in a haystack shows its pattern
pub shows : (built : Built) (input : InputView) (m : Occurrence) → built.ignores_case ≡ false → LiesIn built input m
    → IsItsPattern built input m
shows built input m counts lies =
    sym (IsSame-equal (pattern_of built.patterns m.pattern) (slice_range input.haystack m.start m.end)
    (subst (λ (case : Bool). IsSame case (pattern_of built.patterns m.pattern) (slice_range input.haystack m.start m.end)) counts lies.same))

pub found-shows : (built : Built) (input : InputView) (r : Option Occurrence) → built.ignores_case ≡ false
    → IfSome r (LiesIn built input) → IfSome r (IsItsPattern built input)
found-shows built input None counts lies = tt
found-shows built input (Some m) counts lies = shows built input m counts lies

module _ (built : Built) (bytes : List ℕ) (m : Occurrence) where
  -- the text is what stands before the match, the match, and what stands after it
  pub stands-between : Occurs (search_in built (whole_input bytes)) m → StandsBetween built bytes m
  stands-between o =
      let as_long = o.as_long in let to_high = o.to_high in
      record {
        before = take m.start bytes;
        between = slice_range bytes m.start m.end;
        after = drop m.end bytes;
        whole =
            sym (ap (λ (w : List ℕ). take m.start bytes ++ w)
            (ap (λ (w : List ℕ). slice_range bytes m.start m.end ++ w)
            (ap (λ (n : ℕ). drop n bytes) (let e : m.end ≡ m.start + (m.end - m.start) = omega arith in e) ∙ sym (drop-drop (m.end - m.start) m.start bytes))
            ∙ take-append-drop (m.end - m.start) (drop m.start bytes))
            ∙ take-append-drop m.start bytes);
        numbered = o.numbered;
        same = o.reads;
        start = grind (arith, common_steps);
        end = grind (arith, common_steps);
      }

  -- and where it is so a match stands
  pub occurs-between : StandsBetween built bytes m → Occurs (search_in built (whole_input bytes)) m
  occurs-between s =
      let long = IsSame-length built.ignores_case (pattern_of built.patterns m.pattern) s.between s.same in
      let start = s.start in let end = s.end in
      record {
        numbered = s.numbered;
        from_low = omega arith;
        as_long = omega arith;
        to_high = grind (arith, common_steps, s.whole);
        reads = subst (IsSame built.ignores_case (pattern_of built.patterns m.pattern))
            (grind (arith, common_steps, s.whole)) s.same;
        at_low = λ no. absurd (cc);
      }
