use Rattle.std.proofs.Common.{◌≡◌, ◌≢◌, [], ◌∷◌, ap, subst, sym, length, arith}
use Rattle.std.proofs.lemmas.List.Elements.{All-nil, All-cons}
use Rattle.std.specs.Str.{IsUtf8}
use Rattle.ac_search.specs.Built.{AreTexts}
use Rattle.examples.proofs.callers.words.matches_of_texts_cut_no_character.Goals as goal

pub parts_of-requires-clause-texts : goal.parts_of-requires-clause-texts
parts_of-requires-clause-texts g c =
    let first = c.as_bytes.result.now in
    let second = c.as_bytes-2.result.now in
    let e : c.in_ok-searcher.searcher.built.patterns ≡ first ∷ second ∷ [] =
    search (c.in_ok-searcher.ensures.built) in
    subst AreTexts (sym e)
    (record {
      texts = All-cons IsUtf8 first (second ∷ []) c.as_bytes.ensures.utf8
          (All-cons IsUtf8 second [] c.as_bytes-2.ensures.utf8 (All-nil IsUtf8));
      nonempty = All-cons (λ p. p ≢ []) first (second ∷ [])
          (λ none. let n = ap length none in let l = c.as_bytes.ensures.len in omega arith)
          (All-cons (λ p. p ≢ []) second []
          (λ none. let n = ap length none in let l = c.as_bytes-2.ensures.len in omega arith)
          (All-nil (λ p. p ≢ [])));
    })
