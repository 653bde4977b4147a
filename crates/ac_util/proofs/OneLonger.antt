-- A span that is one place longer: its pick, by the matches of the node that an automaton reaches at its end.
use Rattle.ac_util.proofs.Prelude.{◌≡◌, ℕ, zero, suc, ◌+◌, ◌<◌, ◌≤◌, Bool, true, false, List, [], ◌∷◌, ◌++◌, length, get_or, ap, sym, ◌∙◌, subst, arith, Option, Some, None, option_map, rules, common_steps}
use Rattle.ac_util.specs.Prelude.{ending, is_leftmost, IsFirst, matches, MatchKind, Occurrence, order_of, outward, pick, plain_byte, plain_patterns, reached, Search, Standard, step, text, Stands, standing_at, IsPickIn}
use Rattle.ac_util.proofs.Picks.{pick-from_IsPick}
use Rattle.ac_util.proofs.Reached.{step-reached}
use Rattle.ac_util.proofs.Found.{matches-reached}
use Rattle.ac_util.proofs.Standing.{first-at_one_end}
use Rattle.ac_util.proofs.Advance.{IsHead, head, pick-stays, pick-becomes, first-becomes, start-stays, start-becomes}
use Rattle.ac_util.proofs.Spans.{inward, text_longer, pick-from_text, pick-in_text, pick-out_again, nothing-past_end, longer_by, one_longer}

-- the matches of the node that an automaton of this kind has reached at the end of the span
abbrev pub found_at_end : MatchKind → Search → List ℕ
found_at_end kind q =
    matches kind (plain_patterns q) q.anchored (reached kind (plain_patterns q) q.anchored (text q))

-- a head of the text, counted from the haystack's front, ends where the span does
ending-head : (kind : MatchKind) (q : Search) (i k : ℕ) → q.low ≤ q.high → q.high ≤ length q.haystack
    → IsHead kind (plain_patterns q) q.anchored (text q) i k
    → outward q.low (standing_at (plain_patterns q) i k) ≡ ending q i
ending-head kind q i k order inside h = grind (arith, common_steps)

-- what is found at the end is found in the whole text
pub find_result-text : (kind : MatchKind) (q : Search)
    → found_at_end kind q ≡ matches kind (plain_patterns q) q.anchored (Some (text q))
find_result-text kind q = matches-reached kind (plain_patterns q) q.anchored (text q)

-- nothing is picked where nothing stands in the text
none-from_text : (order : MatchKind) (q : Search) → q.low ≤ q.high → q.high ≤ length q.haystack
    → ((n s : ℕ) → ¬ Stands (plain_patterns q) q.anchored (text q) n s) → pick order q ≡ None
none-from_text order q ordered inside none = sym (pick-from_text q ordered inside order None none)

-- the byte that comes in, as an automaton sees it
abbrev pub byte_in : Search → ℕ
byte_in q = plain_byte q.ignores_case (get_or q.haystack q.high 0)

module _ (kind : MatchKind) (q : Search) (order : q.low ≤ q.high) (room : q.high < length q.haystack) where
  now-text : found_at_end kind (one_longer q) ≡ matches kind (plain_patterns q) q.anchored
      (Some (text q ++ byte_in q ∷ []))
  now-text = grind (arith, common_steps, find_result-text kind (one_longer q), text_longer)

  -- what is the pick in the longer text is the pick of the longer search
  longer : (k : MatchKind) (r : Option Occurrence)
      → IsPickIn k (plain_patterns q) q.anchored (text q ++ byte_in q ∷ []) r
      → option_map (outward q.low) r ≡ pick k (one_longer q)
  longer k r h =
      pick-from_text (one_longer q) (omega arith) (omega arith) k r
      (subst (λ (w : List ℕ). IsPickIn k (plain_patterns q) q.anchored w r) (sym (text_longer q order room)) h)

  -- the pick stays where the node reached has no match
  pub pick-longer_stays : found_at_end kind (one_longer q) ≡ [] → pick kind (one_longer q) ≡ pick kind q
  pick-longer_stays none =
      search (
        rules,
        inward,
        longer,
        now-text,
        pick-in_text,
        pick-out_again,
        pick-stays,
        inward q.low,
        pick-in_text q order (omega arith) kind,
        pick-out_again q order (omega arith) kind,
      )

  longer_head : (i : ℕ) (rest : List ℕ) → found_at_end kind (one_longer q) ≡ i ∷ rest
      → (k : ℕ) × IsHead kind (plain_patterns q) q.anchored (text q ++ byte_in q ∷ []) i k
  longer_head i rest e = search (rules, head, now-text)

  ends_there : (i k : ℕ) → IsHead kind (plain_patterns q) q.anchored (text q ++ byte_in q ∷ []) i k
      → outward q.low (standing_at (plain_patterns q) i k) ≡ ending (one_longer q) i
  ends_there i k h = grind (arith, common_steps)

  -- under a leftmost kind it is the first match of that node where it has one
  pub pick-longer_becomes : is_leftmost kind ≡ true → (i : ℕ) (rest : List ℕ)
      → found_at_end kind (one_longer q) ≡ i ∷ rest
      → pick kind (one_longer q) ≡ Some (ending (one_longer q) i)
  pick-longer_becomes leftmost i rest e =
      let h = longer_head i rest e in
      sym (longer kind (Some (standing_at (plain_patterns q) i h.0))
      (pick-becomes kind (plain_patterns q) q.anchored (text q ++ byte_in q ∷ []) i h.0 leftmost h.1))
      ∙ ap (λ (o : Occurrence). Some o) (ends_there i h.0 h.1)

  nothing_stands : (k : MatchKind) → pick k q ≡ None → IsPickIn k (plain_patterns q) q.anchored (text q) None
  nothing_stands k none = grind (arith, common_steps, pick-in_text q order (omega arith) k)

  -- as long as nothing occurs each kind of automaton finds what Standard picks
  pub first-longer_stays : pick Standard q ≡ None → found_at_end kind (one_longer q) ≡ []
      → pick Standard (one_longer q) ≡ None
  first-longer_stays none e =
      sym (longer Standard None
      (pick-stays kind (plain_patterns q) q.anchored (text q) (byte_in q) None (sym now-text ∙ e)
      (nothing_stands Standard none)))

  -- where Standard picks nothing yet, the first match found with one more byte is what it picks
  pub first-longer_becomes : pick Standard q ≡ None → (i : ℕ) (rest : List ℕ)
      → found_at_end kind (one_longer q) ≡ i ∷ rest
      → pick Standard (one_longer q) ≡ Some (ending (one_longer q) i)
  first-longer_becomes none i rest e =
      let h = longer_head i rest e in
      sym (longer Standard (Some (standing_at (plain_patterns q) i h.0))
      (first-becomes kind (plain_patterns q) q.anchored (text q) (byte_in q) i h.0
      (nothing_stands Standard none) h.1))
      ∙ ap (λ (o : Occurrence). Some o) (ends_there i h.0 h.1)

  -- the node reached is the step from the one before
  pub step-longer : step kind (plain_patterns q) q.anchored
      (reached kind (plain_patterns q) q.anchored (text q)) (byte_in q)
      ≡ reached kind (plain_patterns q) q.anchored (text (one_longer q))
  step-longer = search (rules, step-reached, text_longer)

-- a span without bytes has the empty text
pub text-empty : (q : Search) → q.low ≡ q.high → text q ≡ []
text-empty q e = grind (arith, common_steps)

module _ (kind : MatchKind) (q : Search) (empty : q.low ≡ q.high) (inside : q.high ≤ length q.haystack) where
  start-text : found_at_end kind q ≡ matches kind (plain_patterns q) q.anchored (Some [])
  start-text = grind (arith, common_steps)

  -- in such a span nothing is picked where the start has no match
  pub pick-empty_none : (k : MatchKind) → found_at_end kind q ≡ [] → pick k q ≡ None
  pick-empty_none k none = search (rules, none-from_text, start-stays)

  same_order : (earliest : Bool) (a b : Occurrence) → a.end ≡ b.end → IsFirst kind a b
      → IsFirst (order_of kind earliest) a b
  same_order true a b e f = first-at_one_end kind a b e f
  same_order false a b e f = f

  -- and else its first match is
  pub pick-empty_some : (earliest : Bool) (i : ℕ) (rest : List ℕ) → found_at_end kind q ≡ i ∷ rest
      → pick (order_of kind earliest) q ≡ Some (ending q i)
  pick-empty_some earliest i rest e =
      let h = head kind (plain_patterns q) q.anchored [] i rest (sym start-text ∙ e) in
      let there =
      subst (λ (w : List ℕ). IsHead kind (plain_patterns q) q.anchored w i h.0)
      (sym (text-empty q empty)) h.1 in
      sym (pick-from_text q (omega arith) inside (order_of kind earliest)
      (Some (standing_at (plain_patterns q) i h.0))
      (subst (λ (w : List ℕ). IsPickIn (order_of kind earliest) (plain_patterns q) q.anchored w
      (Some (standing_at (plain_patterns q) i h.0))) (sym (text-empty q empty))
      (start-becomes kind (plain_patterns q) (order_of kind earliest) q.anchored i h.0 h.1
      (same_order earliest))))
      ∙ ap (λ (o : Occurrence). Some o) (ending-head kind q i h.0 (omega arith) inside there)

-- n places later and one more
pub longer-suc : (q : Search) (n : ℕ) → longer_by q (suc n) ≡ one_longer (longer_by q n)
longer-suc q n = ap (λ (h : ℕ). record q { high = h }) (omega arith)

-- what an automaton that has reached the dead node has picked is picked from any longer span
module _ (kind : MatchKind) (q : Search) (order : q.low ≤ q.high)
    (dead : reached kind (plain_patterns q) q.anchored (text q) ≡ None) where
  -- the dead node stays reached
  still_dead : (n : ℕ) → q.high + n ≤ length q.haystack
      → reached kind (plain_patterns q) q.anchored (text (longer_by q n)) ≡ None
  still_dead zero room = grind (arith, common_steps)
  still_dead (suc n) room = grind (arith, common_steps, step-longer kind (longer_by q n) (omega arith) (omega arith), still_dead n (omega arith))

  -- so nothing is found any more
  pub nothing_found : (n : ℕ) → q.high + n ≤ length q.haystack → found_at_end kind (longer_by q n) ≡ []
  nothing_found n room = ap (matches kind (plain_patterns q) q.anchored) (still_dead n room)

  -- once dead, the pick stays however much longer the span is
  pub pick-dead : (n : ℕ) → q.high + n ≤ length q.haystack → pick kind (longer_by q n) ≡ pick kind q
  pick-dead zero room = ap (λ (h : ℕ). pick kind (record q { high = h })) (omega arith)
  pick-dead (suc n) room =
      grind (
        arith,
        common_steps,
        pick-longer_stays kind (longer_by q n) (omega arith) (omega arith) (sym (ap (found_at_end kind) (longer-suc q n)) ∙ nothing_found (suc n) room),
        longer-suc q n,
        nothing_found (suc n) room,
        pick-dead n (omega arith),
      )

  -- and where Standard picked nothing it stays so
  pub first-dead : pick Standard q ≡ None → (n : ℕ) → q.high + n ≤ length q.haystack
      → pick Standard (longer_by q n) ≡ None
  first-dead none zero room = ap (λ (h : ℕ). pick Standard (record q { high = h })) (omega arith) ∙ none
  first-dead none (suc n) room =
      ap (pick Standard) (longer-suc q n)
      ∙ first-longer_stays kind (longer_by q n) (omega arith) (omega arith) (first-dead none n (omega arith))
      (sym (ap (found_at_end kind) (longer-suc q n)) ∙ nothing_found (suc n) room)

-- a span that begins past its end has no pick
pub none-past_end : (kind : MatchKind) (q : Search) → q.high < q.low → pick kind q ≡ None
none-past_end kind q past = sym (pick-from_IsPick kind q None (λ o occurs. nothing-past_end q o past occurs))
