-- The transitions to a child of a run of patterns, and that the branching goes on with it.
use Rattle.ac_util.proofs.Prelude.{◌≡◌, ◌≢◌, ℕ, suc, ◌+◌, ◌<◌, ◌≤◌, List, [], ◌∷◌, ◌++◌, length, inl, inr, refl, ap, sym, ◌∙◌, arith, Some, slice_get, cases_lt, append-nil, append_assoc, length-map, length_push, common_steps}
use Rattle.ac_automaton.specs.Prelude.{GREATEST, plain_byte, ANCHORED_START, FIRST_INNER, grown_view, leading, fallback, nodes_of, QueuedState, Transition, word}
use Rattle.ac_util.proofs.Lists.{IsIn, IsIn-append_cases, IsIn-append_left, IsIn-append_right, IsOrdered, IsOrdered-append}
use Rattle.ac_automaton.proofs.Grown.{AreStates-more, nodes-inner, nodes-more}
use Rattle.ac_automaton.proofs.Leading.{leading-apart, leading-has, leading-plain, leading-small}
use Rattle.ac_automaton.proofs.Orders.{rank}
use Rattle.ac_automaton.proofs.Places.{get-append, get-added, get-added_cases}
use Rattle.ac_automaton.proofs.Branching.{GoesOnBy, HasTransition, IsBranching, IsRun, Site, Waits-more, below, greater, next_byte, string}
use Rattle.ac_automaton.proofs.Child.{child-word, settled, still-grown}

module _ (site : Site) {place end b : ℕ} {transitions : List Transition} {queue : List QueuedState}
    (h : IsBranching site place transitions queue) (run : IsRun site place end b)
    (fail : ℕ) (fails : slice_get (nodes_of site.sorted queue) fail
    ≡ Some (fallback site.kind site.patterns (Some (string site ++ b ∷ [])))) where
  -- the queued state
  abbrev child : QueuedState
  child = record { from = place; to = end; depth = site.queued.depth + 1; fail = fail }

  -- the transitions to it
  abbrev pub more_transitions : List Transition
  more_transitions = leading site.ignores_case b (FIRST_INNER + length queue)

  -- each transition leads to the state of its string
  step-leads : (t : Transition) → IsIn t (h.added ++ more_transitions)
      → slice_get (nodes_of site.sorted (queue ++ child ∷ [])) t.target
      ≡ Some (Some (string site ++ plain_byte site.ignores_case t.byte ∷ []))
  step-leads t has = elim (IsIn-append_cases t h.added more_transitions has) [
    | inl old ↦ nodes-more site.sorted queue (child ∷ []) t.target _ (h.leads t old)
    | inr new ↦
        let by = leading-plain site.ignores_case b (FIRST_INNER + length queue) (settled site h run fail fails) t new in
        ap (slice_get (nodes_of site.sorted (queue ++ child ∷ []))) by.1
        ∙ nodes-inner site.sorted (queue ++ child ∷ []) (length queue) child (get-added queue child)
        ∙ ap (λ (v : List ℕ). Some (Some v)) (child-word site h run fail fails ∙ ap (λ (y : ℕ). string site ++ y ∷ []) (sym by.0))
  ]

  -- each is by the byte of some pattern
  step-by_patterns : (t : Transition) → IsIn t (h.added ++ more_transitions)
      → GoesOnBy site end (plain_byte site.ignores_case t.byte)
  step-by_patterns t has = elim (IsIn-append_cases t h.added more_transitions has) [
    | inl old ↦
        let r = h.by_patterns t old in
        let high = r.high in
        record { at = r.at; low = r.low; high = omega arith; byte = r.byte }
    | inr new ↦ record {
      at = place;
      low = h.low;
      high = run.some;
      byte = run.byte
          ∙ ap (λ (y : ℕ). Some y) (sym (leading-plain site.ignores_case b (FIRST_INNER + length queue) (settled site h run fail fails) t new).0);
    }
  ]

  -- and each byte is that of the code
  step-small : (t : Transition) → IsIn t (h.added ++ more_transitions) → t.byte < 256
  step-small t has = elim (IsIn-append_cases t h.added more_transitions has) [
    | inl old ↦ h.small t old
    | inr new ↦ leading-small site.ignores_case b (FIRST_INNER + length queue) run.small t new
  ]

  -- each pattern up to the end of the run has a transition by its byte
  step-covered : (k c x : ℕ) → site.patterns_end ≤ k → k < end → next_byte site k ≡ Some c
      → plain_byte site.ignores_case x ≡ c → HasTransition x (h.added ++ more_transitions)
  step-covered k c x l m e is = elim (cases_lt k place) [
    | inl before ↦
        let r = h.covered k c x l before e is in
        record {
          transition = r.transition;
          among = IsIn-append_left r.transition h.added more_transitions r.among;
          by = r.by;
        }
    | inr le ↦
        let same_byte : c ≡ b = (let f : Some c ≡ Some b = sym e ∙ run.same k le m ∙ run.byte in cc) in
        record {
          transition = record { byte = x; target = FIRST_INNER + length queue };
          among = IsIn-append_right _ h.added more_transitions
              (leading-has site.ignores_case b (FIRST_INNER + length queue) (settled site h run fail fails) x (is ∙ same_byte));
          by = refl;
        }
  ]

  -- no two transitions have one byte
  step-apart : IsOrdered (λ s t. s.byte ≢ t.byte) (h.added ++ more_transitions)
  step-apart =
      IsOrdered-append (λ (s t : Transition). s.byte ≢ t.byte) h.added more_transitions h.apart
      (leading-apart site.ignores_case b (FIRST_INNER + length queue)) (λ s t old new e.
      let r = h.by_patterns s old in
      let less =
      h.smaller run.more r.at (omega (arith, site.ends.later, r.low)) r.high in
      let low : rank (next_byte site r.at) ≡ suc (plain_byte site.ignores_case s.byte) = ap rank r.byte in
      let high : rank (next_byte site place) ≡ suc b = ap rank run.byte in
      let is : plain_byte site.ignores_case s.byte ≡ b =
      ap (plain_byte site.ignores_case) e ∙ (leading-plain site.ignores_case b (FIRST_INNER + length queue) (settled site h run fail fails) t new).0
      in
      absurd (omega arith))

  -- the patterns up to the end of the run have lesser bytes than the next one
  step-smaller : end < site.queued.to → (k : ℕ) → site.queued.from ≤ k → k < end
      → rank (next_byte site k) < rank (next_byte site end)
  step-smaller l k low m = grind (arith, common_steps, greater site h run l, below)

  -- with the child after the queue the children up to the end of its run have come
  pub branching-goes_on : fail ≢ ANCHORED_START → FIRST_INNER + length queue < GREATEST + 1
      → IsBranching site end (transitions ++ more_transitions) (queue ++ child ∷ [])
  branching-goes_on unanchored few = record {
    grown = still-grown site h run fail fails unanchored few;
    meant =
        AreStates-more (grown_view site.kind site.ignores_case site.patterns site.sorted site.transitions queue)
        site.transitions [] (sym (append-nil site.transitions)) (nodes_of site.sorted (queue ++ child ∷ []))
        (nodes-more site.sorted queue (child ∷ [])) site.states
        (let m = length-map queue (λ (q : QueuedState). Some (word site.sorted q)) in
        let n = length-map (queue ++ child ∷ []) (λ (q : QueuedState). Some (word site.sorted q)) in
        omega (arith, length_push queue child))
        h.meant;
    waits = Waits-more h.waits (child ∷ []);
    node = nodes-more site.sorted queue (child ∷ []) (length site.states) _ h.node;
    kept = λ k q e. get-append queue (child ∷ []) k q (h.kept k q e);
    more = omega (arith, h.more, length_push queue child);
    low = omega (arith, h.low);
    high = run.high;
    children = λ c q le e. elim (get-added_cases queue child q c e) [
      | inl old ↦
          let r = h.children c q le old in
          let high = r.by.high in
          record {
            byte = r.byte;
            by = record { at = r.by.at; low = r.by.low; high = omega arith; byte = r.by.byte };
            word_is = r.word_is;
          }
      | inr new ↦ record {
        byte = b;
        by = record { at = place; low = h.low; high = run.some; byte = run.byte };
        word_is = sym (ap (word site.sorted) new.1) ∙ child-word site h run fail fails;
      }
    ];
    added = h.added ++ more_transitions;
    split = ap (λ (ts : List Transition). ts ++ more_transitions) h.split
        ∙ append_assoc site.transitions h.added more_transitions;
    leads = step-leads;
    by_patterns = step-by_patterns;
    small = step-small;
    covered = step-covered;
    apart = step-apart;
    smaller = step-smaller;
  }
