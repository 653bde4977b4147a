-- The child of a run of patterns, which is put after the queue.
use Rattle.ac_util.proofs.Prelude.{◌≡◌, ◌≢◌, ℕ, suc, ◌+◌, ◌-◌, ◌<◌, ◌≤◌, List, [], ◌∷◌, ◌++◌, length, length-append, take, ◌⊎◌, inl, inr, ap, sym, ◌∙◌, subst, arith, Some, get_or, slice_get, rules, cases_lt, length-map, length-take-le, length_push, slice_get-get_or, slice_get_within, take-append_seam}
use Rattle.ac_automaton.specs.Prelude.{GREATEST, plain_byte, ANCHORED_START, FIRST_INNER, IsGrown, IsRangeOf, key_at, leading, fallback, nodes_of, QueuedState, Transition, Waits, word, HasParent, IsNext}
use Rattle.ac_automaton.proofs.Grown.{IsDeadNumber, IsInner, IsStartNumber, nodes-cases, nodes-more}
use Rattle.ac_automaton.proofs.Leading.{leading-length}
use Rattle.ac_automaton.proofs.Orders.{rank}
use Rattle.ac_util.proofs.Prefixes.{front-is, starts_with-length}
use Rattle.ac_automaton.proofs.Places.{get-added_cases, get-same}
use Rattle.ac_automaton.proofs.Prefixes.{push-injective}
use Rattle.ac_automaton.proofs.Branching.{IsBranching, IsRun, Site, Waits-more, child-range, front, long, next_byte, pushed, string, word-length}

module _ (site : Site) {place end b : ℕ} {transitions : List Transition} {queue : List QueuedState}
    (h : IsBranching site place transitions queue) (run : IsRun site place end b)
    (fail : ℕ) (fails : slice_get (nodes_of site.sorted queue) fail
    ≡ Some (fallback site.kind site.patterns (Some (string site ++ b ∷ [])))) where
  -- the queued state
  abbrev child : QueuedState
  child = record { from = place; to = end; depth = site.queued.depth + 1; fail = fail }

  -- its string is that of the state with the byte
  pub child-word : word site.sorted child ≡ string site ++ b ∷ []
  child-word =
      ap (λ (n : ℕ). take n (key_at site.sorted place)) (sym (pushed site h run))
      ∙ front-is (key_at site.sorted place) (string site ++ b ∷ []) (front site h run)

  -- a state that was there before has another string: else it would have this parent
  old-child : (k : ℕ) (q : QueuedState) → k < length site.queue → slice_get queue k ≡ Some q
      → word site.sorted q ≡ string site ++ b ∷ [] → ⊥
  old-child k q l e w =
      let known = slice_get-get_or site.queue k q l in
      let is : get_or site.queue k q ≡ q =
      get-same queue k (get_or site.queue k q) q (h.kept k (get_or site.queue k q) known) e in
      let there : slice_get site.queue k ≡ Some q = known ∙ ap (λ (r : QueuedState). Some r) is in
      let parent = site.ready.grown.parents k q there in
      let waits = site.ready.grown.waits k q there in
      let depth : q.depth - 1 ≡ site.queued.depth =
      (omega (arith, word-length waits, ap length w, pushed site h run)) in
      let same_string : take (q.depth - 1) (word site.sorted q) ≡ string site =
      ap (λ (n : ℕ). take n (word site.sorted q)) (depth ∙ sym (long site h run)) ∙ ap (take (length (string site))) w
      ∙ take-append_seam (string site) (b ∷ []) in
      same-parent parent.parent parent.early (parent.named ∙ ap (λ (v : List ℕ). Some (Some v)) same_string)
    where
      same-parent : (j : ℕ) → j < length site.states
          → slice_get (nodes_of site.sorted site.queue) j ≡ Some (Some (string site)) → ⊥
      same-parent j l node =
          search (
            rules,
            long,
            nodes-cases,
            string,
            nodes-cases site.sorted site.queue j (Some (string site)) node,
            string site,
            long site h run,
          )

  -- nor does a child that came before have this string
  pub fresh : (k : ℕ) (q : QueuedState) → slice_get queue k ≡ Some q
      → word site.sorted q ≡ string site ++ b ∷ [] → ⊥
  fresh k q e w = elim (cases_lt k (length site.queue)) [
    | inl before ↦ old-child k q before e w
    | inr le ↦
        let c = h.children k q le e in
        let same_byte : c.byte ≡ b =
        (push-injective (string site) (string site) c.byte b (sym c.word_is ∙ w)).1 in
        let less = h.smaller run.more c.by.at (omega (arith, site.ends.later, c.by.low)) c.by.high in
        let r : rank (next_byte site c.by.at) ≡ suc c.byte = ap rank c.by.byte in
        let s : rank (next_byte site place) ≡ suc b = ap rank run.byte in
        absurd (omega arith)
  ]

  -- it waits for its children
  child-waits : fail ≢ ANCHORED_START → Waits site.kind site.patterns site.sorted (queue ++ child ∷ [])
      (FIRST_INNER + length queue) child
  child-waits unanchored =
      let front_long =
      starts_with-length (key_at site.sorted place) (string site ++ b ∷ []) (front site h run) in
      let named =
      slice_get_within (nodes_of site.sorted queue) fail (fallback site.kind site.patterns (Some (string site ++ b ∷ []))) fails in
      let count = length-map queue (λ (q : QueuedState). Some (word site.sorted q)) in
      record {
        deep = omega (arith, pushed site h run);
        range = subst (λ (v : List ℕ). IsRangeOf site.sorted v place end) (sym child-word)
            (child-range site h run);
        fails = nodes-more site.sorted queue (child ∷ []) fail _
            (fails ∙ ap (λ (v : List ℕ). Some (fallback site.kind site.patterns (Some v))) (sym child-word));
        unanchored = unanchored;
        back = λ l. omega arith;
        some = λ l. run.some;
        inner = λ l. omega arith;
      }

  -- no two states in the queue have one string
  still-apart : (j k : ℕ) (q r : QueuedState) → slice_get (queue ++ child ∷ []) j ≡ Some q
      → slice_get (queue ++ child ∷ []) k ≡ Some r → word site.sorted q ≡ word site.sorted r → j ≡ k
  still-apart j k q r e f w = search (rules, child-word, fresh, get-added_cases)

  -- the string of its parent is that of the state
  parent-string : take (child.depth - 1) (word site.sorted child) ≡ string site
  parent-string = search (rules, child-word, long, take-append_seam)

  -- no state in the queue is deeper: its parent comes no later than the state
  no-deeper : (k : ℕ) (q : QueuedState) → slice_get queue k ≡ Some q → q.depth ≤ child.depth
  no-deeper k q e = by (nodes-cases site.sorted queue parent.parent (Some front-of) parent.named)
    where
      parent : HasParent site.kind site.patterns site.sorted (length site.states + 1) queue q
      parent = h.grown.parents k q e

      front-of : List ℕ
      front-of = take (q.depth - 1) (word site.sorted q)

      shorter : length front-of ≡ q.depth - 1
      shorter = length-take-le (q.depth - 1) (word site.sorted q) (let l = word-length (h.grown.waits k q e) in omega arith)

      after : (place : ℕ) (p : QueuedState) → slice_get queue place ≡ Some p → FIRST_INNER + place ≡ parent.parent
          → IsNext site.kind site.patterns site.sorted site.queue (length site.states) site.queued → p.depth ≤ site.queued.depth
      after place p there is (inl first) = absurd (let l = parent.early in let n = first.number in omega arith)
      after place p there is (inr next) =
          h.grown.rising place next.place p site.queued there (h.kept next.place site.queued next.waits)
          (let l = parent.early in let n = next.number in omega arith)

      by : IsDeadNumber parent.parent (Some front-of)
          ⊎ (IsStartNumber parent.parent (Some front-of) ⊎ IsInner site.sorted queue parent.parent (Some front-of))
          → q.depth ≤ child.depth
      by (inl dead) = absurd (let n = dead.node in cc)
      by (inr (inl start)) = (let n : front-of ≡ [] = (let e = start.node in cc) in let l = ap length n in omega (arith, shorter))
      by (inr (inr inner)) =
          let n : front-of ≡ word site.sorted inner.queued = (let e = inner.node in cc) in
          let l = ap length n in
          let long = word-length (h.grown.waits inner.place inner.queued inner.waits) in
          let deep = after inner.place inner.queued inner.waits (sym inner.number) site.ready.next in
          omega (arith, shorter, l, long, deep)

  -- so deeper ones still come later
  still-rising : (j k : ℕ) (p q : QueuedState) → slice_get (queue ++ child ∷ []) j ≡ Some p
      → slice_get (queue ++ child ∷ []) k ≡ Some q → j ≤ k → p.depth ≤ q.depth
  still-rising j k p q e f le = by (get-added_cases queue child p j e) (get-added_cases queue child q k f)
    where
      by : (slice_get queue j ≡ Some p) ⊎ ((j ≡ length queue) × (child ≡ p))
          → (slice_get queue k ≡ Some q) ⊎ ((k ≡ length queue) × (child ≡ q)) → p.depth ≤ q.depth
      by (inl old) (inl older) = h.grown.rising j k p q old older le
      by (inl old) (inr new) = let n = ap (λ (r : QueuedState). r.depth) new.1 in let l = no-deeper j p old in omega arith
      by (inr new) (inl old) = let i = slice_get_within queue k q old in absurd (omega arith)
      by (inr new) (inr newer) = let a = ap (λ (r : QueuedState). r.depth) new.1 in let b = ap (λ (r : QueuedState). r.depth) newer.1 in omega arith

  -- the transitions to it
  abbrev pub more_transitions : List Transition
  more_transitions = leading site.ignores_case b (FIRST_INNER + length queue)

  -- the byte is a plain one
  pub settled : plain_byte site.ignores_case b ≡ b
  settled = site.ready.settled place site.queued.depth b run.byte

  -- the trie is grown with it
  pub still-grown : fail ≢ ANCHORED_START → FIRST_INNER + length queue < GREATEST + 1
      → IsGrown site.kind site.patterns site.sorted (length site.states + 1) (transitions ++ more_transitions) (queue ++ child ∷ [])
  still-grown unanchored few = record {
    counted = (let added = leading-length site.ignores_case b (FIRST_INNER + length queue) in
        omega (arith, h.grown.counted, added, length-append {A = Transition}, length_push queue child));
    few = omega (arith, length_push queue child);
    waits = λ k q e. elim (get-added_cases queue child q k e) [
      | inl old ↦
          Waits-more (h.grown.waits k q old) (child ∷ [])
      | inr new ↦
          subst (λ (r : QueuedState). Waits site.kind site.patterns site.sorted (queue ++ child ∷ []) (FIRST_INNER + k) r) new.1
          (subst (λ (n : ℕ). Waits site.kind site.patterns site.sorted (queue ++ child ∷ []) (FIRST_INNER + n) child)
          (sym new.0) (child-waits unanchored))
    ];
    apart = still-apart;
    parents = λ k q e. elim (get-added_cases queue child q k e) [
      | inl old ↦
          let r = h.grown.parents k q old in
          record {
            parent = r.parent;
            early = r.early;
            named = nodes-more site.sorted queue (child ∷ []) r.parent _ r.named;
          }
      | inr new ↦ record {
        parent = length site.states;
        early = omega arith;
        named = subst (λ (r : QueuedState). slice_get (nodes_of site.sorted (queue ++ child ∷ []))
            (length site.states)
            ≡ Some (Some (take (r.depth - 1) (word site.sorted r)))) new.1 (nodes-more site.sorted queue (child ∷ []) (length site.states) _
            (h.node ∙ ap (λ (v : List ℕ). Some (Some v)) (sym parent-string)));
      }
    ];
    rising = still-rising;
  }
