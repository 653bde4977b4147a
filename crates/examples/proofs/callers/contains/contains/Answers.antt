use Rattle.std.proofs.Common.{◌≡◌, ◌∷◌, ◌++◌, ◌∙◌, ◌+◌, ◌<◌, ◌↔◌, ℕ, zero, suc, Bool, false, IsTrue, List, [], ap, arith, length, refl, subst, sym}
use Rattle.ac_search.specs.Alike.{SomeOccurs, StandsBetween}
use Rattle.ac_search.specs.Built.{Built}
use Rattle.ac_search.specs.Input.{InputView}
use Rattle.ac_search.specs.Occurrence.{IsSame, occurrence, Occurrence, pattern_of}
use Rattle.examples.specs.Callers.{HasWord}
use Rattle.examples.proofs.callers.contains.contains.Goals as goal

-- of one word alone, where case counts, what is the same as it is the word
module _ (built : Built) (word : List ℕ) (alone : built.patterns ≡ word ∷ []) (case : built.ignores_case ≡ false)
    (counted : (s t : List ℕ) → IsSame false s t ↔ (s ≡ t)) where
  only : (number : ℕ) → number < length built.patterns → pattern_of built.patterns number ≡ word
  only zero within = ap (λ (ps : List (List ℕ)). pattern_of ps 0) alone
  only (suc number) within = absurd (let one = ap (length {A = List ℕ}) alone in omega arith)

  has-word : (text : List ℕ) (m : Occurrence) → StandsBetween built text m → HasWord word text
  has-word text m s =
      let same = subst (λ (b : Bool). IsSame b (pattern_of built.patterns m.pattern) s.between) case s.same in
      let is = sym ((counted (pattern_of built.patterns m.pattern) s.between).0 same) ∙ only m.pattern s.numbered in
      (s.before, s.after, s.whole ∙ ap (λ (w : List ℕ). s.before ++ (w ++ s.after)) is)

  stands : (text before after : List ℕ) → text ≡ before ++ (word ++ after)
      → StandsBetween built text (occurrence 0 (length before) (length before + length word))
  stands text before after whole = record {
    before = before;
    between = word;
    after = after;
    whole = whole;
    numbered = (let one = ap (length {A = List ℕ}) alone in omega arith);
    same = subst (λ (b : Bool). IsSame b (pattern_of built.patterns 0) word) (sym case)
        ((counted (pattern_of built.patterns 0) word).1 (ap (λ (ps : List (List ℕ)). pattern_of ps 0) alone));
    start = refl;
    end = refl;
  }

pub returns : goal.returns
returns c =
    let built = c.args.searcher.now.built in let text = c.args.text.now in let word = c.args.word.now in
    let counted = c.sameness_is_by_letter.ensures.counted in let between = c.patterns_stand_between.ensures.occurs built text in
    let found = subst (λ (i : InputView). IsTrue c.is_match.result ↔ SomeOccurs built i) c.new.ensures.value c.is_match.ensures in (
      λ yes.
          (let some = found.0 yes in
          has-word built word c.requires.word c.requires.case counted text some.0 ((between some.0).0 some.1)),
      λ has.
          (let m = occurrence 0 (length has.0) (length has.0 + length word) in
          found.1 (m, (between m).1 (stands built word c.requires.word c.requires.case counted text has.0 has.1 has.2))),
    )
