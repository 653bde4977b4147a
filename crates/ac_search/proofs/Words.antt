-- Which patterns are texts: those of ASCII bytes, and those that come from texts of which none is empty.
use Rattle.ac_util.proofs.Prelude.{◌≡◌, ◌≢◌, ℕ, ◌<◌, ◌==◌, false, List, [], ◌∷◌, ◌++◌, All, arith, length, subst, sym, Bor, list_any, common_steps, map-append, All-cons, All-nil, All-push}
use Rattle.ac_search.specs.Prelude.{AreTexts, AreAscii, AreWords}
use Rattle.std.specs.Str.{IsUtf8}
use Rattle.std.proofs.lemmas.Str.{IsUtf8-from_ascii}
use Rattle.std.proofs.lemmas.Str.Ascii.{IsAscii-from_all}
use Rattle.ac_search.specs.Built.{Built, has_empty}
use Rattle.ac_search.specs.Patterns.{bytes_of}

-- each byte of an ASCII string is below 128
all_ascii : (bs : List ℕ) → AreAscii bs → All (λ b. b < 128) bs
all_ascii [] h = All-nil (λ b. b < 128)
all_ascii (b ∷ bs) (l, h) = All-cons (λ d. d < 128) b bs l (all_ascii bs h)

-- an ASCII pattern more
texts-cons : (p : List ℕ) (ps : List (List ℕ)) → AreAscii p → p ≢ [] → AreTexts ps → AreTexts (p ∷ ps)
texts-cons p ps ascii nonempty rest = record {
  texts = All-cons IsUtf8 p ps (IsUtf8-from_ascii p (IsAscii-from_all p (all_ascii p ascii))) rest.texts;
  nonempty = All-cons (λ q. q ≢ []) p ps nonempty rest.nonempty;
}

-- words are texts
pub texts-from_words : (ps : List (List ℕ)) → AreWords ps → AreTexts ps
texts-from_words [] h = record { texts = All-nil IsUtf8; nonempty = All-nil (λ q. q ≢ []) }
texts-from_words ([] ∷ ps) h = elim h [ ]
texts-from_words ((b ∷ bs) ∷ ps) (ascii, h) = texts-cons (b ∷ bs) ps ascii (λ e. cc) (texts-from_words ps h)

-- a text more
pub texts-push : (texts now : List (Bor (List ℕ))) (text : Bor (List ℕ)) → now ≡ texts ++ text ∷ []
    → All IsUtf8 (bytes_of texts) → IsUtf8 text.now → All IsUtf8 (bytes_of now)
texts-push texts now text is all utf8 =
    subst (λ (l : List (Bor (List ℕ))). All IsUtf8 (bytes_of l)) (sym is)
    (subst (All IsUtf8) (sym (map-append (λ (b : Bor (List ℕ)). b.now) texts (text ∷ [])))
    (All-push IsUtf8 (bytes_of texts) text.now all utf8))

-- where no pattern is empty, each has a byte
nonempty-each : (ps : List (List ℕ)) → list_any (λ p. length p == 0) ps ≡ false → All (λ p. p ≢ []) ps
nonempty-each [] none = All-nil (λ (p : List ℕ). p ≢ [])
nonempty-each ([] ∷ ps) none = absurd (cc)
nonempty-each ((b ∷ bs) ∷ ps) none =
    All-cons (λ (p : List ℕ). p ≢ []) (b ∷ bs) ps (λ e. cc) (nonempty-each ps (grind (arith, common_steps)))

-- so patterns that are texts, of which none is empty, can be sliced at
pub nonempty-texts : (built : Built) → All IsUtf8 built.patterns → has_empty built ≡ false → AreTexts built.patterns
nonempty-texts built texts none = record { texts = texts; nonempty = nonempty-each built.patterns none }
