-- Which matches are due where an automaton stands that lists: those in front of its state's list that count.
use Rattle.ac_util.proofs.Prelude.{◌≡◌, ℕ, ◌-◌, ◌<◌, Bool, true, false, cond, List, [], ◌∷◌, ◌++◌, length, inl, inr, refl, ap, sym, subst, ◌∙◌, arith, Some, None, All, rules, take_while, eq-eqb, ne_eqb, append_assoc, append-nil, length-map, common_steps}
use Rattle.ac_automaton.specs.Prelude.{Anchored, Built, No, Node, pattern_of, Yes, FitsIn, is_due, Lists, matches_of, plain_of}
use Rattle.std.proofs.lemmas.List.Sums.{take_while-cons}
use Rattle.ac_util.proofs.Advance.{append_nil_left}
use Rattle.ac_util.proofs.Found.{matches-fits, matches-shorter}
use Rattle.ac_util.proofs.Lists.{All-from_IsIn, IsIn, IsIn-append_left}
use Rattle.ac_util.proofs.Participants.{IsIn-from_equal_to}
use Rattle.ac_automaton.proofs.Heads.{plain_length}

-- of a list in two parts those in front that pass are the first part, where all of it pass and none of the other
take_while-front : (p : ℕ → Bool) (xs ys : List ℕ) → ((x : ℕ) → IsIn x xs → p x ≡ true)
    → ((y : ℕ) → IsIn y ys → p y ≡ false) → take_while p (xs ++ ys) ≡ xs
take_while-front p [] [] passes fails = refl
take_while-front p [] (y ∷ ys) passes fails = grind (arith, common_steps)
take_while-front p (x ∷ xs) ys passes fails =
    take_while-cons p x (xs ++ ys)
    ∙ ap (λ (t : Bool). cond t (x ∷ take_while p (xs ++ ys)) []) (passes x (inl refl))
    ∙ ap (λ (zs : List ℕ). x ∷ zs) (take_while-front p xs ys (λ z h. passes z (inr h)) fails)

-- whether a pattern counts where so many bytes were read
abbrev pub counts : Built → Anchored → ℕ → ℕ → Bool
counts built anchored read n = is_due anchored (length (pattern_of built.patterns n)) read

module _ (built : Built) (listed : List ℕ) (start end : ℕ) where
  -- a match that is listed has a number
  numbered-in : (u : List ℕ) (n : ℕ) → IsIn n (matches_of built No (Some u)) → n < length built.patterns
  numbered-in u n h = search (rules, length-map, matches-fits)

  numbered-all : (u : Node) → ((n : ℕ) → IsIn n listed → IsIn n (matches_of built No u))
      → All (λ n. n < length built.patterns) listed
  numbered-all None has = All-from_IsIn (λ n. n < length built.patterns) listed (λ n h. absurd (has n h))
  numbered-all (Some u) has =
      All-from_IsIn (λ n. n < length built.patterns) listed (λ n h. numbered-in u n (has n h))

  -- so do all that a state lists
  pub listed-numbered : (anchored : Anchored) (u : Node) → Lists built anchored u listed
      → All (λ n. n < length built.patterns) listed
  listed-numbered No u lists = numbered-all u (λ n h. subst (λ (ns : List ℕ). IsIn n ns) lists h)
  listed-numbered Yes u lists =
      numbered-all u (λ n h. subst (λ (ns : List ℕ). IsIn n ns) (sym lists.front)
      (IsIn-append_left n listed lists.left_out h))

  -- a state that was just come to has all matches of its node due
  pub listed-due : (anchored : Anchored) (u : Node) → Lists built anchored u listed → FitsIn anchored u start end
      → take_while (counts built anchored (end - start)) listed ≡ matches_of built anchored u
  listed-due No u lists fits = grind (arith, common_steps, append-nil listed, take_while-front)
  listed-due Yes None lists fits = search (rules, append_nil_left)
  listed-due Yes (Some u) lists fits =
      let whole = fits.whole refl (λ none. absurd (cc)) in
      let own = matches_of built Yes (Some u) in
      ap (take_while (counts built Yes (end - start))) lists.first
      ∙ take_while-front (counts built Yes (end - start)) own lists.passed_over
      (λ n h. eq-eqb (length (pattern_of built.patterns n)) (end - start)
      (sym (plain_length built n) ∙ ap length (IsIn-from_equal_to built.kind (plain_of built) u n h).same ∙ whole))
      (λ n h. let s = matches-shorter built.kind (plain_of built) u (lists.passed_over ++ lists.left_out)
      (lists.front ∙ ap (λ (ns : List ℕ). ns ++ lists.left_out) lists.first
      ∙ append_assoc own lists.passed_over lists.left_out) n
      (IsIn-append_left n lists.passed_over lists.left_out h) in
      let l = plain_length built n in
      ne_eqb (length (pattern_of built.patterns n)) (end - start) (λ e. omega arith))
