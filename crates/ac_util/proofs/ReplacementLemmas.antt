-- What the steps of a replacement leave, by what each call does.
use Rattle.ac_util.proofs.Prelude.{◌≡◌, ℕ, List, [], ◌∷◌, ◌++◌, drop, inl, inr, refl, ap, sym, subst, ◌∙◌, append_assoc, append-nil, Bool, Option, None, Some, slice_index_or, slice_range, rules, arith, common_steps}
use Rattle.ac_util.specs.Prelude.{AlwaysWrites, Answer, AppendsAll, AppendsBeginning, answer_of, CallsNoMore, ClosureExchanges, exchanged_from, Fails, Continues, MatchAnswer, Occurrence, OnlyAppends, replaced, ReplacementSteps, Replacing, Turn, WritesText}

module _ {S R E : Type 0} (appends : List ℕ → S → Option E → S → Type 0)
    (calls : Occurrence → List ℕ → S → R → S → Type 0) (asks : R → Answer E) (haystack : List ℕ) where
  module _ (P : S → Type 0) (appended : (bytes : List ℕ) (s t : S) (end : Option E) → appends bytes s end t → P s → P t)
      (called : (m : Occurrence) (slice : List ℕ) (s t : S) (r : R) → calls m slice s r t → P s → P t) where
    -- what holds at first, and is kept by each append and each call, holds at the end
    pub steps-keep : (place : ℕ) (ms : List Occurrence) (s t : S) (end : Option E)
        → ReplacementSteps appends calls asks haystack place ms s end t → P s → P t
    steps-keep place [] s t end h p = appended (drop place haystack) s t end h p
    steps-keep place (m ∷ ms) s t end (inl h) p = grind (arith, common_steps)
    steps-keep place (m ∷ ms) s t end (inr h) p =
        by (asks h.0) h.3 (λ later q. steps-keep m.end ms h.1 t end later q)
        (called m (slice_range haystack m.start m.end) h.2.at_match h.1 h.0 h.2.call
        (appended (slice_range haystack place m.start) s h.2.at_match None h.2.gap p))
      where
        by : (answer : Answer E) → MatchAnswer answer
            (ReplacementSteps appends calls asks haystack m.end ms h.1 end t)
            (appends (drop m.end haystack) h.1 end t) (λ failure. (end ≡ Some failure) × (t ≡ h.1))
            → (ReplacementSteps appends calls asks haystack m.end ms h.1 end t → P h.1 → P t)
            → P h.1 → P t
        by Continues later on q = on later q
        by CallsNoMore later on q = appended (drop m.end haystack) h.1 t end later q
        by (Fails failure) later on q = subst P (sym later.1) q

  -- the destination takes all of what is appended, or a beginning of it before it fails; each call appends what
  -- `write` gives and goes on, or a beginning of that and fails
  module _ (holds : S → List ℕ) (write : Occurrence → List ℕ → List ℕ)
      (appended : (bytes : List ℕ) (s t : S) → appends bytes s None t → holds t ≡ holds s ++ bytes)
      (cut : (bytes : List ℕ) (s t : S) (end : Option E) → appends bytes s end t → (rest : List ℕ) × (holds t ++ rest ≡ holds s ++ bytes))
      (called : (m : Occurrence) (slice : List ℕ) (s t : S) (r : R) → calls m slice s r t
      → (asks r ≡ Continues) × (holds t ≡ holds s ++ write m slice)) where
    -- a turn writes the gap and what the match is exchanged for
    turn-writes : (place : ℕ) (m : Occurrence) (s t : S) (r : R) (later : List ℕ)
        → Turn appends calls asks haystack place m s r t
        → holds t ++ later ≡ holds s ++ (slice_range haystack place m.start ++ write m (slice_range haystack m.start m.end) ++ later)
    turn-writes place m s t r later turn = search (rules, append_assoc)

    -- after a turn it goes on
    after-turn : {place : ℕ} {m : Occurrence} {s t : S} {r : R} (on last : Type 0) (fails : E → Type 0)
        → Turn appends calls asks haystack place m s r t → MatchAnswer (asks r) on last fails → on
    after-turn {m = m} {t = t} {r = r} on last fails turn later = search rules

    -- the steps leave what was there and then the haystack with its matches exchanged
    pub steps-exchange : (place : ℕ) (ms : List Occurrence) (s t : S)
        → ReplacementSteps appends calls asks haystack place ms s None t
        → holds t ≡ holds s ++ exchanged_from haystack write place ms
    steps-exchange place [] s t h = appended (drop place haystack) s t h
    steps-exchange place (m ∷ ms) s t (inl h) = absurd (h.0 refl)
    steps-exchange place (m ∷ ms) s t (inr h) =
        steps-exchange m.end ms h.1 t (after-turn _ _ _ h.2 h.3) ∙ turn-writes place m s h.1 h.0 (exchanged_from haystack write m.end ms) h.2

    -- wherever they end, what the steps leave begins what they leave as a whole
    pub steps-begin : (place : ℕ) (ms : List Occurrence) (s t : S) (end : Option E)
        → ReplacementSteps appends calls asks haystack place ms s end t
        → (rest : List ℕ) × (holds t ++ rest ≡ holds s ++ exchanged_from haystack write place ms)
    steps-begin place [] s t end h = cut (drop place haystack) s t end h
    steps-begin place (m ∷ ms) s t end (inl h) =
        grind (
          arith,
          common_steps,
          append_assoc (holds t) (cut (slice_range haystack place m.start) s t end h.1).0 (write m (slice_range haystack m.start m.end) ++
              exchanged_from haystack write m.end ms),
        )
    steps-begin place (m ∷ ms) s t end (inr h) =
        let later = steps-begin m.end ms h.1 t end (after-turn _ _ _ h.2 h.3) in
        (later.0, later.1 ∙ turn-writes place m s h.1 h.0 (exchanged_from haystack write m.end ms) h.2)

module _ {F D E : Type 0} (holds : D → List ℕ) where
  -- appending all or nothing appends a beginning
  AppendsAll-begins : (bytes : List ℕ) (s t : Replacing F D) (end : Option E) → AppendsAll holds bytes s end t
      → (rest : List ℕ) × (holds t.destination ++ rest ≡ holds s.destination ++ bytes)
  AppendsAll-begins bytes s t None h = ([], append-nil (holds t.destination) ∙ h.1)
  AppendsAll-begins bytes s t (Some failure) h = (bytes, ap (λ (w : List ℕ). w ++ bytes) h.1)

  -- and so does appending a beginning
  AppendsBeginning-begins : (bytes : List ℕ) (s t : Replacing F D) (end : Option E)
      → AppendsBeginning holds bytes s end t
      → (rest : List ℕ) × (holds t.destination ++ rest ≡ holds s.destination ++ bytes)
  AppendsBeginning-begins bytes s t None h = ([], append-nil (holds t.destination) ∙ h.1)
  AppendsBeginning-begins bytes s t (Some failure) (same, (taken, rest, split, took)) =
      grind (arith, common_steps, append_assoc (holds s.destination) taken rest)

  -- which adds something to what was there, or nothing
  AppendsBeginning-adds : (bytes : List ℕ) (s t : Replacing F D) (end : Option E)
      → AppendsBeginning holds bytes s end t
      → (more : List ℕ) × (holds t.destination ≡ holds s.destination ++ more)
  AppendsBeginning-adds bytes s t None h = (bytes, h.1)
  AppendsBeginning-adds bytes s t (Some failure) (same, (taken, rest, split, took)) = (taken, took)

-- what the destination of a closure holds after the steps
module _ (E : Type 0) {F D : Type 0} (calls : Occurrence → List ℕ → Replacing F D → Bool → Replacing F D → Type 0)
    (holds : D → List ℕ) (write : Occurrence → List ℕ → List ℕ) (writes : AlwaysWrites calls holds write)
    (haystack : List ℕ) where
  asks_on : (m : Occurrence) (slice : List ℕ) (s t : Replacing F D) (r : Bool) → calls m slice s r t
      → (answer_of {E = E} r ≡ Continues) × (holds t.destination ≡ holds s.destination ++ write m slice)
  asks_on m slice s t r call = grind (arith, common_steps)

  closure-exchanges : (ms : List Occurrence) (s t : Replacing F D)
      → ReplacementSteps (AppendsAll {E = E} holds) calls answer_of haystack 0 ms s None t
      → holds t.destination ≡ holds s.destination ++ exchanged_from haystack write 0 ms
  closure-exchanges ms s t =
      steps-exchange (AppendsAll {E = E} holds) calls answer_of haystack (λ u. holds u.destination) write
      (λ bytes u v e. e.1) (AppendsAll-begins holds) asks_on 0 ms s t

  closure-begins : (ms : List Occurrence) (s t : Replacing F D) (end : Option E)
      → ReplacementSteps (AppendsAll {E = E} holds) calls answer_of haystack 0 ms s end t
      → (rest : List ℕ)
      × (holds t.destination ++ rest ≡ holds s.destination ++ exchanged_from haystack write 0 ms)
  closure-begins ms s t end =
      steps-begin (AppendsAll {E = E} holds) calls answer_of haystack (λ u. holds u.destination) write
      (λ bytes u v e. e.1) (AppendsAll-begins holds) asks_on 0 ms s t end

-- bytes that are appended to what is appended to these bytes
appends-on : (bytes : List ℕ) (was is : List ℕ) → ((more : List ℕ) × (is ≡ was ++ more))
    → ((more : List ℕ) × (was ≡ bytes ++ more)) → (more : List ℕ) × (is ≡ bytes ++ more)
appends-on bytes was is then first = grind (arith, common_steps)

-- where calls only append, what the destination held stays at its beginning
module _ (E : Type 0) {F D : Type 0} (calls : Occurrence → List ℕ → Replacing F D → Bool → Replacing F D → Type 0)
    (holds : D → List ℕ) (appends : OnlyAppends calls holds) where
  -- what an append adds, where it adds something
  added : (bytes : List ℕ) (s t : Replacing F D) (end : Option E) → AppendsAll holds bytes s end t
      → (more : List ℕ) × (holds t.destination ≡ holds s.destination ++ more)
  added bytes s t None h = (bytes, h.1)
  added bytes s t (Some failure) h = ([], h.1 ∙ sym (append-nil (holds s.destination)))

  closure-keeps : (haystack : List ℕ) (ms : List Occurrence) (s t : Replacing F D) (end : Option E)
      → ReplacementSteps (AppendsAll {E = E} holds) calls answer_of haystack 0 ms s end t
      → (more : List ℕ) × (holds t.destination ≡ holds s.destination ++ more)
  closure-keeps haystack ms s t end steps =
      steps-keep (AppendsAll {E = E} holds) calls answer_of haystack
      (λ u. (more : List ℕ) × (holds u.destination ≡ holds s.destination ++ more))
      (λ bytes u v finish h p.
      appends-on (holds s.destination) (holds u.destination) (holds v.destination) (added bytes u v finish h) p)
      (λ m slice u v r h p.
      appends-on (holds s.destination) (holds u.destination) (holds v.destination) (appends m slice u r v h) p)
      0 ms s t end steps ([], sym (append-nil (holds s.destination)))

-- both together
pub closure-leaves : (E : Type 0) {F D : Type 0} (calls : Occurrence → List ℕ → Replacing F D → Bool → Replacing F D → Type 0)
    → ClosureExchanges E calls
closure-leaves E calls = record {
  whole = λ haystack holds write ms s t writes. closure-exchanges E calls holds write writes haystack ms s t;
  begun = λ haystack holds write ms s t end writes. closure-begins E calls holds write writes haystack ms s t end;
  kept = λ haystack holds ms s t end appends. closure-keeps E calls holds appends haystack ms s t end;
}

-- what calls that write the texts of patterns leave
module _ (E : Type 0) (haystack : List ℕ) (texts : List (List ℕ)) where
  on_texts : (m : Occurrence) (slice : List ℕ) (s t : Replacing (Unit {0}) (List ℕ)) (r : Bool)
      → WritesText texts m slice s r t
      → (answer_of {E = E} r ≡ Continues) × (t.destination ≡ s.destination ++ slice_index_or texts m.pattern [])
  on_texts m slice s t r call = (ap (answer_of {E = E}) call.0, call.1)

  pub text-replaces : (ms : List Occurrence) (s t : Replacing (Unit {0}) (List ℕ))
      → ReplacementSteps (AppendsBeginning {E = E} (λ d. d)) (WritesText texts) answer_of haystack 0 ms s None t
      → t.destination ≡ s.destination ++ replaced haystack texts ms
  text-replaces ms s t =
      steps-exchange (AppendsBeginning {E = E} (λ d. d)) (WritesText texts) answer_of haystack
      (λ u. u.destination) (λ m slice. slice_index_or texts m.pattern []) (λ bytes u v e. e.1)
      (AppendsBeginning-begins (λ d. d)) on_texts 0 ms s t

  pub text-begins : (ms : List Occurrence) (s t : Replacing (Unit {0}) (List ℕ)) (end : Option E)
      → ReplacementSteps (AppendsBeginning {E = E} (λ d. d)) (WritesText texts) answer_of haystack 0 ms s end t
      → (rest : List ℕ) × (t.destination ++ rest ≡ s.destination ++ replaced haystack texts ms)
  text-begins ms s t end =
      steps-begin (AppendsBeginning {E = E} (λ d. d)) (WritesText texts) answer_of haystack
      (λ u. u.destination) (λ m slice. slice_index_or texts m.pattern []) (λ bytes u v e. e.1)
      (AppendsBeginning-begins (λ d. d)) on_texts 0 ms s t end

  -- what was there stays, and something follows it
  pub text-keeps : (ms : List Occurrence) (s t : Replacing (Unit {0}) (List ℕ)) (end : Option E)
      → ReplacementSteps (AppendsBeginning {E = E} (λ d. d)) (WritesText texts) answer_of haystack 0 ms s end t
      → (more : List ℕ) × (t.destination ≡ s.destination ++ more)
  text-keeps ms s t end steps =
      steps-keep (AppendsBeginning {E = E} (λ d. d)) (WritesText texts) answer_of haystack
      (λ u. (more : List ℕ) × (u.destination ≡ s.destination ++ more))
      (λ bytes u v finish h p.
      appends-on s.destination u.destination v.destination (AppendsBeginning-adds (λ d. d) bytes u v finish h) p)
      (λ m slice u v r h p.
      appends-on s.destination u.destination v.destination (slice_index_or texts m.pattern [], h.1) p)
      0 ms s t end steps ([], sym (append-nil s.destination))
