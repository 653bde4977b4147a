-- Under Standard the walk over a beginning of the span is those matches of the whole walk that end within it.
use Rattle.ac_util.proofs.Prelude.{◌≡◌, ℕ, zero, suc, ◌+◌, ◌-◌, ◌<◌, ◌≤◌, Bool, true, false, cond, List, [], ◌∷◌, refl, ap, sym, ◌∙◌, arith, Option, Some, None, filter, nat_le, nat_eq, rules, and_parts, eqb-true, cond-false, le-leb, lt-leb, leb-false, common_steps}
use Rattle.ac_util.specs.Prelude.{continued, from, IsPick, next_match, Occurrence, Occurs, pick, repeats, Search, Standard, unless_repeated, walk, walk_after}
use Rattle.ac_util.proofs.Lists.{filter-none}
use Rattle.ac_util.proofs.Picks.{pick-IsPick, pick-from_IsPick}
use Rattle.ac_util.proofs.Walks.{next-in_span, later, room, continued-None, walk_after-None, walk_after-Some}

-- the search in a span that ends at h
abbrev pub up_to_end : Search → ℕ → Search
up_to_end q h = record q { high = h }

-- whether a match ends by h
abbrev pub ends_by : ℕ → Occurrence → Bool
ends_by h m = nat_le m.end h

-- what a shorter span has, the longer one has
widen : (q : Search) (h : ℕ) (o : Occurrence) → h ≤ q.high → Occurs (up_to_end q h) o → Occurs q o
widen q h o l x = grind (arith, common_steps)

-- what the longer span has and ends early enough, the shorter one has
narrow : (q : Search) (h : ℕ) (o : Occurrence) → o.end ≤ h → Occurs q o → Occurs (up_to_end q h) o
narrow q h o l x = grind (arith, common_steps)

-- the pick of the shorter span
abbrev pub within : ℕ → Option Occurrence → Option Occurrence
within h None = None
within h (Some m) = cond (ends_by h m) (Some m) None

-- a pick that ends within the shorter span is picked there
kept : (q : Search) (h : ℕ) (m : Occurrence) → h ≤ q.high → IsPick Standard q (Some m) → m.end ≤ h
    → pick Standard (up_to_end q h) ≡ Some m
kept q h m l p e =
    sym (pick-from_IsPick Standard (up_to_end q h) (Some m)
    (narrow q h m e p.0, λ o x. p.1 o (widen q h o l x)))

-- where the pick ends past the shorter span nothing is picked there
lost : (q : Search) (h : ℕ) (m : Occurrence) → h ≤ q.high → IsPick Standard q (Some m) → h < m.end
    → pick Standard (up_to_end q h) ≡ None
lost q h m l p e =
    sym (pick-from_IsPick Standard (up_to_end q h) None
    (λ o x. let f = p.1 o (widen q h o l x) in let t = x.to_high in let g = f.ends in omega arith))

-- the pick of the shorter span, by the pick of the longer one
pick_within : (q : Search) (h : ℕ) (r : Option Occurrence) → h ≤ q.high → IsPick Standard q r
    → pick Standard (up_to_end q h) ≡ within h r
pick_within q h None l p = sym (pick-from_IsPick Standard (up_to_end q h) None (λ o x. p o (widen q h o l x)))
pick_within q h (Some m) l p = search (rules, kept, le-leb, lost, lt-leb)

-- the pick of the shorter span is that of the longer one, if it ends within
pub pick-within : (q : Search) (h : ℕ) → h ≤ q.high → pick Standard (up_to_end q h) ≡ within h (pick Standard q)
pick-within q h l = pick_within q h (pick Standard q) l (pick-IsPick Standard q)

-- a match that starts after a place past h ends past it
beyond : (q : Search) (h : ℕ) (r : Option Occurrence) → h < q.low → IsPick Standard q r → within h r ≡ None
beyond q h None l p = refl
beyond q h (Some m) l p = grind (arith, common_steps)

-- a pick that repeats ends at the low end of the span
repeat_end : (q : Search) (last : Option ℕ) (m : Occurrence) → ((l : ℕ) → last ≡ Some l → l ≡ q.low)
    → repeats (Some m) last ≡ true → m.end ≡ q.low
repeat_end q None m at e = absurd (cc)
repeat_end q (Some l) m at e =
    let parts = and_parts (nat_eq m.start m.end) (nat_eq m.end l) e in eqb-true m.end l parts.1 ∙ at l refl

-- the next match of the shorter span, by whether the pick repeats and whether it ends within it
next_cases : (q : Search) (h : ℕ) (last : Option ℕ) (m : Occurrence) (t s : Bool) → h ≤ q.high
    → ((l : ℕ) → last ≡ Some l → l ≡ q.low) → repeats (Some m) last ≡ t → ends_by h m ≡ s
    → unless_repeated Standard (up_to_end q h) (cond s (Some m) None) (repeats (cond s (Some m) None) last)
    ≡ within h (unless_repeated Standard q (Some m) t)
next_cases q h last m false true l at e f = cc
next_cases q h last m false false l at e f = sym (cond-false (ends_by h m) (Some m) None f)
next_cases q h last m true true l at e f = grind (arith, common_steps, pick-within (from q (q.low + 1)) h l)
next_cases q h last m true false l at e f =
    let out : h < m.end = leb-false m.end h f in
    let end : m.end ≡ q.low = repeat_end q last m at e in
    sym (beyond (from q (q.low + 1)) h (pick Standard (from q (q.low + 1))) (omega arith)
    (pick-IsPick Standard (from q (q.low + 1))))

-- the next match of the shorter span, by the pick of the longer one
next_by : (q : Search) (h : ℕ) (last : Option ℕ) (p : Option Occurrence) → h ≤ q.high
    → ((l : ℕ) → last ≡ Some l → l ≡ q.low)
    → unless_repeated Standard (up_to_end q h) (within h p) (repeats (within h p) last)
    ≡ within h (unless_repeated Standard q p (repeats p last))
next_by q h last None l at = refl
next_by q h last (Some m) l at = next_cases q h last m (repeats (Some m) last) (ends_by h m) l at refl refl

-- the next match of the shorter span is that of the longer one, if it ends within
next-within : (q : Search) (h : ℕ) (last : Option ℕ) → h ≤ q.high → ((l : ℕ) → last ≡ Some l → l ≡ q.low)
    → next_match Standard (up_to_end q h) last ≡ within h (next_match Standard q last)
next-within q h last l at = search (rules, next_by, pick-within)

-- a match that was just found ended at the low end of what is left
at_low : (q : Search) (e : ℕ) (l : ℕ) → Some e ≡ Some l → l ≡ e
at_low q e l s = cc

-- what follows a match past h is past h too
rest_out : (q : Search) (h n : ℕ) (m : Occurrence) → h < m.end
    → filter (ends_by h) (continued Standard (from q m.end) n (next_match Standard (from q m.end) (Some m.end)))
    ≡ []
rest_out q h n m out = search (rules, filter-none, later, lt-leb)

-- the walk from a match, by whether that ends within the shorter span
beginning_at : (q : Search) (h n : ℕ) (m : Occurrence) (s : Bool) → h ≤ q.high → ends_by h m ≡ s
    → continued Standard (up_to_end (from q m.end) h) n
    (within h (next_match Standard (from q m.end) (Some m.end)))
    ≡ filter (ends_by h) (continued Standard (from q m.end) n (next_match Standard (from q m.end) (Some m.end)))
    → continued Standard (up_to_end q h) (suc n) (cond s (Some m) None)
    ≡ cond s (m ∷ filter (ends_by h)
    (continued Standard (from q m.end) n (next_match Standard (from q m.end) (Some m.end))))
    (filter (ends_by h)
    (continued Standard (from q m.end) n (next_match Standard (from q m.end) (Some m.end))))
beginning_at q h n m true l e later' = grind (arith, common_steps, next-within (from q m.end) h (Some m.end) l (at_low q m.end))
beginning_at q h n m false l e later' = sym (rest_out q h n m (leb-false m.end h e))

-- as far as n matches, the walk over the shorter span is what ends within it of the walk over the longer one
beginning_by : (q : Search) (h n : ℕ) (r : Option Occurrence) → h ≤ q.high
    → continued Standard (up_to_end q h) n (within h r) ≡ filter (ends_by h) (continued Standard q n r)
beginning_by q h zero r l = refl
beginning_by q h (suc n) None l = refl
beginning_by q h (suc n) (Some m) l =
    search (rules, beginning_at, beginning_by (from q m.end) h n (next_match Standard (from q m.end) (Some m.end)) l)

-- the walk after a match, without the count
after : (q : Search) (m : Occurrence)
    → continued Standard (from q m.end) (q.high + 1 - m.end) (next_match Standard (from q m.end) (Some m.end))
    ≡ walk_after Standard (from q m.end) (Some m.end)
unfolding walk_after
after q m = refl

-- any number of matches that is enough gives the walk
enough : (q : Search) (last : Option ℕ) (n : ℕ) (r : Option Occurrence) → next_match Standard q last ≡ r
    → q.high + 1 ≤ n + q.low → continued Standard q n r ≡ walk_after Standard q last
enough q last n None e l = continued-None Standard q n ∙ sym (walk_after-None Standard q last e)
enough q last zero (Some m) e l = search (rules, next-in_span)
enough q last (suc n) (Some m) e l =
    let o = next-in_span Standard q last m e in let a = o.from_low in let b = o.in_order in let c = o.to_high in
    ap (λ (ms : List Occurrence). m ∷ ms)
    (room Standard (from q m.end) n (q.high + 1 - m.end)
    (next_match Standard (from q m.end) (Some m.end)) refl (omega arith) (omega arith) ∙ after q m)
    ∙ sym (walk_after-Some Standard q last m e)

-- the walk over a beginning
pub walk-beginning : (q : Search) (h : ℕ) → h ≤ q.high
    → walk Standard (up_to_end q h) ≡ filter (ends_by h) (walk Standard q)
walk-beginning q h l = grind (arith, common_steps, enough, next-within, beginning_by q h (q.high + 1) (next_match Standard q None) l)
