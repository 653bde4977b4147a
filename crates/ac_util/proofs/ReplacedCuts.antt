-- The replaced text of a stream as far as the stream is settled, and then the rest.
use Rattle.ac_util.proofs.Prelude.{◌≡◌, ◌≢◌, ℕ, suc, ◌+◌, ◌-◌, ◌<◌, ◌≤◌, false, true, List, [], ◌∷◌, ◌++◌, length, length-append, length-drop, take, drop, take-take, refl, ap, sym, subst, ◌∙◌, arith, All, slice_index_or, slice_range, rules, drop-append_seam, take-add, take-append_seam, drop-drop, drop-take, drop_all, take-append-drop, take-append-le, take_all, All-drop, All-head, All-same, common_steps}
use Rattle.ac_util.specs.Prelude.{AreApart, StaysApart, Built, exchanged_from, IsSettledAt, is_leftmost, kept_back_len, last_end, LeftmostFirst, LeftmostLongest, LiesIn, longest_len, MatchKind, Occurrence, replaced, replaced_from, Standard, stream_result, whole_input, without_last, has_empty, StartFrom, IsSettledBy, settled, AreInOrder}
use Rattle.ac_util.proofs.Exchanges.{exchanged-in_order}
use Rattle.ac_util.proofs.GoesOn.{stream_result-begins}
use Rattle.ac_util.proofs.Lying.{walk_result-lie}
use Rattle.ac_util.proofs.Settled.{settled-stays}
use Rattle.ac_util.proofs.Shortest.{longest-most, none-empty}

-- a part of a list and then the next are a part
pub part-join : {X : Type 0} (xs : List X) (a b c : ℕ) → a ≤ b → b ≤ c
    → slice_range xs a b ++ slice_range xs b c ≡ slice_range xs a c
part-join xs a b c first second = search (rules, take-add (b - a) (c - b) (drop a xs), drop-drop)

-- a part that ends by a place is one of what stands up to there
part-front : {X : Type 0} (xs : List X) (a b end : ℕ) → a ≤ b → b ≤ end → slice_range (take end xs) a b ≡ slice_range xs a b
part-front xs a b end ordered within =
    ap (λ (k : ℕ). take (b - a) (drop a (take k xs))) (let e : end ≡ a + (end - a) = omega arith in e)
    ∙ ap (take (b - a)) (drop-take a (end - a) xs)
    ∙ take-take (b - a) (end - a) (drop a xs) (omega arith)

-- matches in order, of which the first ones end by a place and the others start no earlier: the haystack as far as there, with
-- the first ones exchanged, and then the rest of it with the others
pub exchanged-cut : (haystack : List ℕ) (write : Occurrence → List ℕ → List ℕ) (many place end : ℕ) (ms others : List Occurrence)
    → AreInOrder end many place ms → StartFrom end others → end ≤ length haystack
    → exchanged_from haystack write place (ms ++ others)
    ≡ exchanged_from (take end haystack) write place ms ++ exchanged_from haystack write end others
exchanged-cut haystack write many place end [] [] order starts within =
    grind (arith, common_steps, take-append-drop end haystack)
exchanged-cut haystack write many place end [] (n ∷ others) order starts within =
    grind (arith, common_steps, part-join haystack place end n.start order starts, drop-take place (end - place) haystack)
exchanged-cut haystack write many place end (m ∷ ms) others order starts within =
    grind (
      arith,
      common_steps,
      part-front haystack place m.start end order.0,
      part-front haystack m.start m.end end order.1 order.2,
      exchanged-cut haystack write many m.end end ms others order.4 starts within,
    )

-- the first of matches in order are in order
pub order-front : (bytes many place : ℕ) (ms others : List Occurrence) → AreInOrder bytes many place (ms ++ others)
    → AreInOrder bytes many place ms
order-front bytes many place [] [] order = order
order-front bytes many place [] (n ∷ others) order = grind (arith, common_steps)
order-front bytes many place (m ∷ ms) others order = search (rules, order-front bytes many m.end ms others order.4)

-- matches in order are in order as far as the last of them ends
pub order-within : (bytes many place end : ℕ) (ms : List Occurrence) → AreInOrder bytes many place ms → place ≤ end
    → last_end ms ≤ end → AreInOrder end many place ms
order-within bytes many place end [] order from last = from
order-within bytes many place end (m ∷ []) order from last = (order.0, order.1, last, order.3, last)
order-within bytes many place end (m ∷ n ∷ ms) order from last =
    let rest = order-within bytes many m.end end (n ∷ ms) order.4
    (let first = at-most bytes many m.end (n ∷ ms) order.4 (λ e. absurd (cc)) in omega arith) last in
    (order.0, order.1, (let a = rest.0 in let b = rest.1 in let c = rest.2 in omega arith), order.3, rest)
  where
    at-most : (bytes many place : ℕ) (ns : List Occurrence) → AreInOrder bytes many place ns → ns ≢ []
        → place ≤ last_end ns
    at-most bytes many place [] order some = absurd (some refl)
    at-most bytes many place (o ∷ []) order some = let a = order.0 in let b = order.1 in omega arith
    at-most bytes many place (o ∷ p ∷ ns) order some =
        let a = order.0 in let b = order.1 in
        let l = at-most bytes many o.end (p ∷ ns) order.4 (λ e. absurd (cc)) in omega arith

-- so the last of them ends within the haystack
order-last : (bytes many place : ℕ) (ms : List Occurrence) → AreInOrder bytes many place ms → last_end ms ≤ bytes
order-last bytes many place [] order = omega arith
order-last bytes many place (m ∷ []) order = order.2
order-last bytes many place (m ∷ n ∷ ms) order = order-last bytes many m.end (n ∷ ms) order.4

-- a match that comes after some in order starts no earlier than the last of them ends
pub order-next : (bytes many place : ℕ) (ms : List Occurrence) (m : Occurrence) (others : List Occurrence)
    → AreInOrder bytes many place (ms ++ m ∷ others) → last_end ms ≤ m.start
order-next bytes many place [] m others order = omega arith
order-next bytes many place (n ∷ []) m others order = order.4.0
order-next bytes many place (n ∷ o ∷ ms) m others order = order-next bytes many n.end (o ∷ ms) m others order.4

-- matches all of which end by a place
ends-by : (ms : List Occurrence) (place : ℕ) → All (λ (m : Occurrence). m.end ≤ place) ms → last_end ms ≤ place
ends-by [] place all = omega arith
ends-by (m ∷ []) place all = all 0 m (omega arith)
ends-by (m ∷ n ∷ ms) place all = ends-by (n ∷ ms) place (λ k d within. all (suc k) d (omega arith))

-- matches none of which starts before a place
starts-from : (place : ℕ) (ms : List Occurrence) → All (λ (m : Occurrence). place ≤ m.start) ms → StartFrom place ms
starts-from place [] all = tt
starts-from place (m ∷ ms) all = all 0 m (omega arith)

pub all-apart : (built : Built) (bytes : List ℕ) (given place : ℕ) → given ≡ length (stream_result built bytes)
    → place ≤ length bytes → last_end (stream_result built bytes) ≤ place → AreApart built bytes given place
all-apart built bytes given place all within last = grind (arith, common_steps)

some-apart : (built : Built) (bytes : List ℕ) (given place : ℕ) → IsSettledAt built bytes given place
    → AreApart built bytes given place
some-apart built bytes given place h = record {
  within = h.within;
  last = ends-by (take given (stream_result built bytes)) place h.ended;
  starts = starts-from place (drop given (stream_result built bytes)) h.later;
}

module _ (built : Built) where
  pub last-inside : (bytes : List ℕ) → last_end (stream_result built bytes) ≤ length bytes
  last-inside bytes =
      order-last (length bytes) (length built.patterns) 0 (stream_result built bytes)
      (exchanged-in_order built bytes (length built.patterns) refl)

  -- the matches that settle a stream are apart from the others
  pub apart-by : (bytes : List ℕ) (given place : ℕ) (kind : MatchKind) → IsSettledBy kind built bytes given place
      → AreApart built bytes given place
  apart-by bytes given place Standard all = grind (arith, common_steps, all-apart, last-inside)
  apart-by bytes given place LeftmostFirst some = some-apart built bytes given place some
  apart-by bytes given place LeftmostLongest some = some-apart built bytes given place some

  -- a match of a stream is no longer than the longest pattern
  match-short : (bytes : List ℕ) (ms : List Occurrence) (m : Occurrence) (others : List Occurrence)
      → stream_result built bytes ≡ ms ++ m ∷ others → m.end ≤ m.start + longest_len built.patterns
  match-short bytes ms m others is =
      let input = whole_input bytes in
      let lie = All-head (LiesIn built input) m others
      (All-same (LiesIn built input) (m ∷ others) (drop (length ms) (ms ++ m ∷ others)) (sym (drop-append_seam ms (m ∷ others)))
      (All-drop (LiesIn built input) (length ms) (ms ++ m ∷ others)
      (subst (All (LiesIn built input)) is (walk_result-lie built input (omega arith))))) in
      let most = longest-most built.patterns m.pattern lie.numbered in
      let long = lie.as_long in omega arith

  -- under Standard no later match starts before what is settled
  late-starts : (bytes more : List ℕ) (others : List Occurrence)
      → stream_result built (bytes ++ more) ≡ stream_result built bytes ++ others
      → All (λ (m : Occurrence). length bytes < m.end) others → StartFrom (settled built bytes) others
  late-starts bytes more [] is late = tt
  late-starts bytes more (m ∷ others) is late =
      let next = order-next (length (bytes ++ more)) (length built.patterns) 0 (stream_result built bytes) m others
      (subst (AreInOrder (length (bytes ++ more)) (length built.patterns) 0) is
      (exchanged-in_order built (bytes ++ more) (length built.patterns) refl)) in
      let short = match-short (bytes ++ more) (stream_result built bytes) m others is in
      let end = late 0 m (omega arith) in
      omega arith

  standard-apart : (bytes more : List ℕ) (given place : ℕ) → built.kind ≡ Standard
      → given ≡ length (stream_result built bytes) → place ≡ settled built bytes → StaysApart built bytes more given place
  standard-apart bytes more given place standard all is =
      let on = stream_result-begins built standard bytes more in
      let same : take given (stream_result built (bytes ++ more)) ≡ stream_result built bytes =
      ap (λ (n : ℕ). take n (stream_result built (bytes ++ more))) all
      ∙ ap (take (length (stream_result built bytes))) on.1 ∙ take-append_seam (stream_result built bytes) on.0 in
      let others : drop given (stream_result built (bytes ++ more)) ≡ on.0 =
      ap (λ (n : ℕ). drop n (stream_result built (bytes ++ more))) all
      ∙ ap (drop (length (stream_result built bytes))) on.1 ∙ drop-append_seam (stream_result built bytes) on.0 in
      let inside = last-inside bytes in
      let long = length-append bytes more in (
        same ∙ sym (take_all given (stream_result built bytes) (omega arith)),
        record {
          within = omega arith;
          last = (let ends = ap last_end same in omega arith);
          starts = subst (StartFrom place) (sym others)
              (subst (λ (p : ℕ). StartFrom p on.0) (sym is) (late-starts bytes more on.0 on.1 on.2));
        },
      )

  leftmost-apart : (bytes more : List ℕ) (given place : ℕ) → is_leftmost built.kind ≡ true → has_empty built ≡ false
      → IsSettledAt built bytes given place → StaysApart built bytes more given place
  leftmost-apart bytes more given place leftmost some h =
      let stays = settled-stays built leftmost bytes more (λ n. none-empty built.patterns n some) given place h in
      let long = length-append bytes more in let inside = h.within in (
        stays.0,
        record {
          within = omega arith;
          last = subst (λ (ms : List Occurrence). last_end ms ≤ place) (sym stays.0)
              (ends-by (take given (stream_result built bytes)) place h.ended);
          starts = starts-from place (drop given (stream_result built (bytes ++ more))) stays.1;
        },
      )

  -- what a stream is settled by, as far as a place, stays so where more of it comes
  pub settled-apart : (bytes more : List ℕ) (given place : ℕ) → has_empty built ≡ false
      → IsSettledBy built.kind built bytes given place → StaysApart built bytes more given place
  settled-apart bytes more given place some settled = by built.kind refl settled
    where
      by : (kind : MatchKind) → built.kind ≡ kind → IsSettledBy kind built bytes given place
          → StaysApart built bytes more given place
      by Standard is h = standard-apart bytes more given place is h.0 h.1
      by LeftmostFirst is h = leftmost-apart bytes more given place (ap is_leftmost is) some h
      by LeftmostLongest is h = leftmost-apart bytes more given place (ap is_leftmost is) some h

  settled-within : (bytes : List ℕ) (given place : ℕ) → IsSettledBy built.kind built bytes given place
      → place ≤ length bytes
  settled-within bytes given place settled = (apart-by bytes given place built.kind settled).within

  module _ (write : Occurrence → List ℕ → List ℕ) where
    abbrev whole-of : List ℕ → List ℕ
    whole-of bytes = exchanged_from bytes write 0 (stream_result built bytes)

    -- what is settled, and then the rest
    pub cut-of : (bytes : List ℕ) (given place : ℕ) → AreApart built bytes given place
        → whole-of bytes
        ≡ exchanged_from (take place bytes) write 0 (take given (stream_result built bytes))
        ++ exchanged_from bytes write place (drop given (stream_result built bytes))
    cut-of bytes given place apart =
        ap (exchanged_from bytes write 0) (sym (take-append-drop given (stream_result built bytes)))
        ∙ exchanged-cut bytes write (length built.patterns) 0 place (take given (stream_result built bytes))
        (drop given (stream_result built bytes))
        (order-within (length bytes) (length built.patterns) 0 place (take given (stream_result built bytes))
        (order-front (length bytes) (length built.patterns) 0 (take given (stream_result built bytes))
        (drop given (stream_result built bytes))
        (subst (AreInOrder (length bytes) (length built.patterns) 0) (sym (take-append-drop given (stream_result built bytes)))
        (exchanged-in_order built bytes (length built.patterns) refl))) (omega arith) apart.last) apart.starts apart.within

    -- so what is settled begins the whole of any stream that begins with these bytes
    pub settled-begins : (bytes more : List ℕ) (given place : ℕ) → has_empty built ≡ false
        → IsSettledBy built.kind built bytes given place
        → (rest : List ℕ) × (whole-of (bytes ++ more)
        ≡ exchanged_from (take place bytes) write 0 (take given (stream_result built bytes)) ++ rest)
    settled-begins bytes more given place some settled =
        let stays = settled-apart bytes more given place some settled in (
          exchanged_from (bytes ++ more) write place (drop given (stream_result built (bytes ++ more))),
          cut-of (bytes ++ more) given place stays.1
              ∙ ap (λ (t : List ℕ). exchanged_from t write 0 (take given (stream_result built (bytes ++ more)))
              ++ exchanged_from (bytes ++ more) write place (drop given (stream_result built (bytes ++ more))))
              (take-append-le place bytes more (settled-within bytes given place settled))
              ∙ ap (λ (ms : List Occurrence). exchanged_from (take place bytes) write 0 ms
              ++ exchanged_from (bytes ++ more) write place (drop given (stream_result built (bytes ++ more)))) stays.0,
        )

  module _ (list : List (List ℕ)) where
    abbrev text-of : Occurrence → List ℕ → List ℕ
    text-of m slice = slice_index_or list m.pattern []

    abbrev replaced-whole : List ℕ → List ℕ
    replaced-whole bytes = replaced bytes list (stream_result built bytes)

    -- the replaced text of what is settled under Standard is that of all without the bytes held back
    pub settled-text : (bytes : List ℕ)
        → replaced (take (settled built bytes) bytes) list (stream_result built bytes)
        ≡ without_last (kept_back_len built bytes) (replaced-whole bytes)
    settled-text bytes =
        let last = last-inside bytes in
        let many = length (stream_result built bytes) in
        let apart = all-apart built bytes many (settled built bytes) refl (omega arith) (omega arith) in
        let whole = take_all many (stream_result built bytes) (omega arith) in
        let cut : replaced-whole bytes
        ≡ replaced (take (settled built bytes) bytes) list (stream_result built bytes) ++ drop (settled built bytes) bytes =
        cut-of text-of bytes many (settled built bytes) apart
        ∙ ap (λ (ms : List Occurrence). replaced (take (settled built bytes) bytes) list ms
        ++ replaced_from bytes list (settled built bytes) (drop many (stream_result built bytes))) whole
        ∙ ap (λ (ms : List Occurrence). replaced (take (settled built bytes) bytes) list (stream_result built bytes)
        ++ replaced_from bytes list (settled built bytes) ms) (drop_all many (stream_result built bytes) (omega arith)) in
        let written = replaced (take (settled built bytes) bytes) list (stream_result built bytes) in
        let size = ap length cut ∙ length-append written (drop (settled built bytes) bytes) in
        let left = length-drop (settled built bytes) bytes in
        sym (ap (λ (n : ℕ). take n (replaced-whole bytes))
        (let n : length (replaced-whole bytes) - kept_back_len built bytes ≡ length written = omega arith in n)
        ∙ ap (take (length written)) cut
        ∙ take-append_seam written (drop (settled built bytes) bytes))

    -- that is so of what it is settled by
    pub holds-back : (bytes : List ℕ) (given place : ℕ) → built.kind ≡ Standard → IsSettledBy built.kind built bytes given place
        → replaced (take place bytes) list (take given (stream_result built bytes))
        ≡ without_last (kept_back_len built bytes) (replaced-whole bytes)
    holds-back bytes given place standard h = search (rules, settled-text, take_all)
