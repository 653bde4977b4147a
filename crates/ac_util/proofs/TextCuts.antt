-- A text that occurs in a text cuts no character of it, with case or without.
use Rattle.ac_util.proofs.Prelude.{◌≡◌, ◌≢◌, ℕ, suc, ◌+◌, ◌<◌, ◌≤◌, Bool, true, false, List, [], ◌∷◌, ◌++◌, length, get_or, take, drop, inl, inr, refl, sym, ap, ap₂, ◌∙◌, subst, arith, append_assoc, append-nil, All, IfSome, rules, and_parts, cases_lt, All-weaker, drop-map, length-map, map-append, nil_from_length, take-map, common_steps}
use Rattle.ac_util.specs.Prelude.{all, AreTexts, InputView, Built, find_result, IsBetweenCharacters, LiesIn, Occurrence, pattern_of, plain, plain_byte, search_in, walk_result}
use Rattle.std.specs.Str.{IsCharBoundary, IsUtf8}
use Rattle.std.proofs.lemmas.Str.{IsCharBoundary-at_seam, IsCharBoundary-from_rest, IsCharBoundary-start, IsUtf8-append, IsUtf8-drop, IsUtf8-encode, IsUtf8-nil, IsUtf8-past_char, encode_ascii, inside_one}
use Rattle.std.proofs.lemmas.Str.Ascii.{lowercase_ascii, lowercase_is}
use Rattle.std.proofs.Math.Utf8.{scalar, scalars, encode, encodes, low_scalar}
use Rattle.ac_util.proofs.Lying.{find_result-IfSome, listed-lie, walk_result-lie}

-- a byte of no ASCII letter keeps its class, and so does the small form of one
plain_byte-low : (ignores_case : Bool) (b : ℕ) → b < 128 → plain_byte ignores_case b < 128
plain_byte-low false b low = low
plain_byte-low true b low = lowercase_ascii b low

plain_byte-high : (ignores_case : Bool) (b : ℕ) → 128 ≤ b → plain_byte ignores_case b ≡ b
plain_byte-high false b high = refl
plain_byte-high true b high = (lowercase_is b).2 (omega arith)

-- bytes above those of ASCII stay
plain-high : (ignores_case : Bool) (bs : List ℕ) → ((k : ℕ) → k < length bs → 128 ≤ get_or bs k 0)
    → plain ignores_case bs ≡ bs
plain-high ignores_case [] high = refl
plain-high ignores_case (b ∷ bs) high =
    ap₂ (λ (c : ℕ) (cs : List ℕ). c ∷ cs) (plain_byte-high ignores_case b (high 0 (omega arith)))
    (plain-high ignores_case bs (λ k below. high (suc k) (omega arith)))

-- one ASCII byte is a text
one-IsUtf8 : (b : ℕ) → b < 128 → IsUtf8 (b ∷ [])
one-IsUtf8 b low = subst IsUtf8 (encode_ascii b low) (IsUtf8-encode b (low_scalar b (omega arith)))

-- the plain bytes of a character are a text
plain-character : (ignores_case : Bool) (c : ℕ) → scalar c ≡ true → IsUtf8 (plain ignores_case (encode c))
plain-character ignores_case c ok = elim (cases_lt c 128) [
  | inl low ↦
      subst (λ (bs : List ℕ). IsUtf8 (plain ignores_case bs)) (sym (encode_ascii c low))
      (one-IsUtf8 (plain_byte ignores_case c) (plain_byte-low ignores_case c low))
  | inr high ↦
      let above : (k : ℕ) → k < length (encode c) → 128 ≤ get_or (encode c) k 0 =
      λ k below. elim (cases_lt (get_or (encode c) k 0) 128) [
        | inl low ↦ absurd (omega (arith, inside_one c [] (encode c) k (sym (append-nil _)) below low))
        | inr h ↦ h
      ] in
      subst IsUtf8 (sym (plain-high ignores_case (encode c) above)) (IsUtf8-encode c ok)
]

-- and so are those of characters in a row
plain-characters : (ignores_case : Bool) (cs : List ℕ) → scalars cs ≡ true → IsUtf8 (plain ignores_case (encodes cs))
plain-characters ignores_case [] ok = IsUtf8-nil
plain-characters ignores_case (c ∷ cs) ok =
    let each = and_parts _ _ ok in
    subst IsUtf8 (sym (map-append (plain_byte ignores_case) (encode c) (encodes cs)))
    (IsUtf8-append _ _ (plain-character ignores_case c each.0) (plain-characters ignores_case cs each.1))

-- the plain bytes of a text are a text
plain-IsUtf8 : (ignores_case : Bool) (text : List ℕ) → IsUtf8 text → IsUtf8 (plain ignores_case text)
plain-IsUtf8 ignores_case text u = grind (arith, common_steps, plain-characters ignores_case u.0 u.1.0)

-- a boundary of the plain text is one of the text
IsCharBoundary-from_plain : (ignores_case : Bool) (text : List ℕ) (i : ℕ) → IsCharBoundary (plain ignores_case text) i
    → IsCharBoundary text i
IsCharBoundary-from_plain ignores_case text i b = grind (arith, common_steps)

-- what follows whole characters of a text is a text
IsUtf8-beyond : (cs rest text : List ℕ) → IsUtf8 text → text ≡ encodes cs ++ rest → IsUtf8 rest
IsUtf8-beyond [] rest text u e = subst IsUtf8 e u
IsUtf8-beyond (c ∷ cs) rest text u e =
    IsUtf8-beyond cs rest (encodes cs ++ rest)
    (IsUtf8-past_char text (encodes cs ++ rest) c u (e ∙ append_assoc (encode c) (encodes cs) rest)) refl

-- Where a text p that is not empty stands in a text at i.
module _ (text p : List ℕ) (i : ℕ) (u : IsUtf8 text) (v : IsUtf8 p) (nonempty : p ≢ [])
    (inside : i + length p ≤ length text) (stands : take (length p) (drop i text) ≡ p) where
  -- it has a first byte, and that is the text's at i
  some : 0 < length p
  some = grind (arith, common_steps)

  first : get_or text i 0 ≡ get_or p 0 0
  first = grind (arith, common_steps)

  -- there it starts a character
  at_start : IsCharBoundary text i
  at_start = search (rules, IsCharBoundary-start, first, some)

  -- the text from i on is p and the rest
  parts : drop i text ≡ p ++ drop (length p) (drop i text)
  parts = grind (arith, common_steps)

  -- and after it a character ends
  at_end : IsCharBoundary text (i + length p)
  at_end =
      IsCharBoundary-from_rest text i (length p) (omega arith)
      (IsCharBoundary-at_seam (drop i text) p (drop (length p) (drop i text)) parts
      (IsUtf8-beyond v.0 (drop (length p) (drop i text)) (drop i text) (IsUtf8-drop text i u at_start)
      (parts ∙ ap (λ (bs : List ℕ). bs ++ drop (length p) (drop i text)) (sym v.1.1))))

-- a match of a text in a text lies between characters
pub lies-between : (built : Built) (input : InputView) (m : Occurrence) → AreTexts built.patterns
    → IsUtf8 input.haystack → LiesIn built input m → IsBetweenCharacters input.haystack m
lies-between built input m texts u lies = record {
  starts = IsCharBoundary-from_plain ignores_case bytes m.start
      (at_start (plain ignores_case bytes) (plain ignores_case p) m.start plain_text plain_pattern some inside stands);
  ends = IsCharBoundary-from_plain ignores_case bytes m.end
      (subst (IsCharBoundary (plain ignores_case bytes)) (omega (arith, lies.as_long, same_length))
      (at_end (plain ignores_case bytes) (plain ignores_case p) m.start plain_text plain_pattern some inside stands));
}
  where
    ignores_case : Bool
    ignores_case = built.ignores_case

    bytes : List ℕ
    bytes = input.haystack

    p : List ℕ
    p = pattern_of built.patterns m.pattern

    plain_text : IsUtf8 (plain ignores_case bytes)
    plain_text = plain-IsUtf8 ignores_case bytes u

    plain_pattern : IsUtf8 (plain ignores_case p)
    plain_pattern = plain-IsUtf8 ignores_case p (texts.texts m.pattern [] lies.numbered)

    same_length : length (plain ignores_case p) ≡ length p
    same_length = length-map p (plain_byte ignores_case)

    some : plain ignores_case p ≢ []
    some e = texts.nonempty m.pattern [] lies.numbered
        (nil_from_length p (sym same_length ∙ ap length e))

    inside : m.start + length (plain ignores_case p) ≤ length (plain ignores_case bytes)
    inside = search (rules, bytes, ignores_case, length-map, same_length)

    stands : take (length (plain ignores_case p)) (drop m.start (plain ignores_case bytes)) ≡ plain ignores_case p
    stands = search (rules, bytes, drop-map, ignores_case, p, same_length, take-map)

-- where all patterns are texts that aren't empty, so do a find's answer, each match of a walk and each item of the
-- listing
module _ (built : Built) (input : InputView) (texts : AreTexts built.patterns) (u : IsUtf8 input.haystack)
    (inside : input.end ≤ length input.haystack) where
  pub find_result-between : IfSome (find_result built input) (IsBetweenCharacters input.haystack)
  find_result-between = grind (arith, common_steps, find_result-IfSome built, lies-between built)

  pub walk_result-between : All (IsBetweenCharacters input.haystack) (walk_result built input)
  walk_result-between = search (rules, All-weaker, lies-between, walk_result-lie)

  pub listed-between : All (IsBetweenCharacters input.haystack) (all (search_in built input))
  listed-between = search (rules, All-weaker, lies-between, listed-lie)
