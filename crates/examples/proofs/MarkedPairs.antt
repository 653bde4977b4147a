-- Marks that are gone through one after another, and the pairs that are made of them.
use Rattle.std.proofs.Common.{◌≡◌, ◌∙◌, ℕ, zero, suc, ◌+◌, ◌<◌, ◌≤◌, Bool, true, false, List, [], ◌∷◌, ◌++◌, ap, cond, filter, flat_map, get_or, length, map, arith, refl, set, sym, ◌||◌, ◌==◌}
use Rattle.std.specs.List.{list_any, range_with_len}
use Rattle.std.proofs.lemmas.Grind.{common_steps}
use Rattle.std.proofs.lemmas.Bool.{eqb-false, eqb-true}
use Rattle.std.proofs.lemmas.List.{flat_map_more, get_or-set_other, get_or-set_same, map-append}
use Rattle.ac_search.specs.Built.{Built}
use Rattle.ac_search.specs.Occurrence.{Occurrence}
use Rattle.examples.specs.Callers.{numbered_markers, occurs_in}
use Rattle.std.proofs.lemmas.List.Elements.{filter-append}
use Rattle.std.proofs.lemmas.List.FromFn.{get_or-map-range_with_len, length-map-range_with_len}

-- one item less to come, and its mark set
pub marks-more : (marks : List Bool) (m : Occurrence) (rest : List Occurrence) (i : ℕ) (d own : Bool) → m.pattern < length marks
    → (m.pattern == i) ≡ own → (get_or (set marks m.pattern true) i d || list_any (λ n. n.pattern == i) rest)
    ≡ (get_or marks i d || list_any (λ n. n.pattern == i) (m ∷ rest))
marks-more marks m rest i d true within is =
    let same = eqb-true m.pattern i is in grind (arith, common_steps, get_or-set_same marks m.pattern true d within)
marks-more marks m rest i d false within other =
    let away = get_or-set_other marks m.pattern i true d (λ same. eqb-false m.pattern i other (sym same)) in grind (arith, common_steps)

-- one number more
range-more : (a n : ℕ) → range_with_len a (n + 1) ≡ range_with_len a n ++ (a + n) ∷ []
range-more a zero = grind (arith, common_steps)
range-more a (suc n) = grind (arith, common_steps, range-more (a + 1) n)

-- the pairs of a line with each marked number
abbrev pub pairs : ℕ → List Bool → ℕ → List (ℕ × ℕ)
pairs line marks n = map (λ i. (line, i)) (filter (λ i. get_or marks i false) (range_with_len 0 n))

-- a mark more
pub pairs-more : (line : ℕ) (marks : List Bool) (n : ℕ) (b : Bool) → get_or marks n false ≡ b
    → pairs line marks (n + 1) ≡ pairs line marks n ++ cond b ((line, n) ∷ []) []
pairs-more line marks n b is =
    let pair = λ (i : ℕ). let p : ℕ × ℕ = (line, i) in p in
    grind (arith, common_steps, range-more 0 n, filter-append (λ i. get_or marks i false) (range_with_len 0 n) (n ∷ []), map-append pair)

-- tests that agree on some numbers pass the same of them
filter-same : (p q : ℕ → Bool) (a n : ℕ) → ((i : ℕ) → a ≤ i → i < a + n → p i ≡ q i)
    → filter p (range_with_len a n) ≡ filter q (range_with_len a n)
filter-same p q a zero same = refl
filter-same p q a (suc n) same =
    let here : p a ≡ q a = same a (omega arith) (omega arith) in
    let rest = filter-same p q (a + 1) n (λ i low high. same i (omega arith) (omega arith)) in
    grind (arith, common_steps)

-- where the marks are those of a test, the marked numbers are those that pass it
pub pairs-tested : (line : ℕ) (test : ℕ → Bool) (n : ℕ)
    → pairs line (map test (range_with_len 0 n)) n ≡ map (λ i. (line, i)) (filter test (range_with_len 0 n))
pairs-tested line test n =
    ap (map (λ i. (line, i))) (filter-same (λ i. get_or (map test (range_with_len 0 n)) i false) test 0 n
    (λ i low high. get_or-map-range_with_len test 0 n i i false (omega arith) (omega arith)))

-- the pairs of a line more, by its marks
pub lines-more : {X : Type 0} (view : X → ℕ × List ℕ) (built : Built) (before : List X) (x : X) (marks : List Bool)
    (old new : List (ℕ × ℕ)) → old ≡ flat_map (numbered_markers built) (map view before)
    → marks ≡ map (occurs_in built (view x).1) (range_with_len 0 (length built.patterns)) → new ≡ old ++ pairs (view x).0 marks (length marks)
    → new ≡ flat_map (numbered_markers built) (map view (before ++ x ∷ []))
lines-more view built before x marks old new is marked added =
    let line = view x in
    let most = length built.patterns in
    added
    ∙ ap (λ (ps : List (ℕ × ℕ)). ps ++ pairs line.0 marks (length marks)) is
    ∙ ap (λ (ps : List (ℕ × ℕ)). flat_map (numbered_markers built) (map view before) ++ ps)
    (ap (λ (ms : List Bool). pairs line.0 ms (length ms)) marked
    ∙ ap (pairs line.0 (map (occurs_in built line.1) (range_with_len 0 most)))
    (length-map-range_with_len (occurs_in built line.1) 0 most)
    ∙ pairs-tested line.0 (occurs_in built line.1) most)
    ∙ flat_map_more (numbered_markers built) [] (map view before) line
    ∙ ap (flat_map (numbered_markers built)) (sym (map-append view before (x ∷ [])))
