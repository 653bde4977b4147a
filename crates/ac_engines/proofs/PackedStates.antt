-- Packed states, as they stand after one another, mean what they should.
use Rattle.ac_util.proofs.Prelude.{◌≡◌, ◌≢◌, ℕ, ◌+◌, ◌<◌, ◌≤◌, ◌↔◌, Bool, true, false, List, [], ◌∷◌, ◌++◌, length, drop, None, Some, refl, ap, subst, sym, ◌∙◌, arith, slice_get, rules, ltb-false, nil_from_length, slice_get_within}
use Rattle.ac_engines.specs.Prelude.{alphabet_len, GREATEST, IsNode, No, Node, matches_of, plain_of, AreReady, BeginsWith, ContiguousView, dead_words, Dense, FAIL, before, format_for, front_end, has_matches, HasPushedUpTo, IsContiguous, match_list_at, number_at, packed_of, packed_words, Packer, place_at, Places, places_of, size_at, size_of, packed_at, packed_dead, packed_state}
use Rattle.ac_util.specs.declared.search.Anchored.{Anchored}
use Rattle.ac_util.proofs.ClassLists.{alphabet_len-few}
use Rattle.ac_engines.proofs.Decoding.{listed-none, listed-format_words}
use Rattle.ac_engines.proofs.PackedNodes.{matches-packed_at}
use Rattle.ac_engines.proofs.Numbered.{place-start}
use Rattle.ac_engines.proofs.PackedSums.{total-grows}
use Rattle.ac_engines.proofs.PlanSums.{sizes-whole}
use Rattle.ac_engines.proofs.PushedStates.{begins-before, begins-after, length-format_words}
use Rattle.ac_engines.proofs.PlacedStates.{HasPlace, has-place, one-place, placed-at}

module _ (f : Packer) (nodes : List Node) (ready : AreReady f nodes) where
  -- the words of the dead state, then those of the states that have matches, and then those of the others
  module _ (dead front words : List ℕ) (first : dead ≡ dead_words f.plan)
      (in_front : HasPushedUpTo f nodes true (length nodes) dead front)
      (after : HasPushedUpTo f nodes false (length nodes) front words) where
    -- what is packed, and where
    abbrev packed : ContiguousView
    packed = packed_of f.plan nodes f.numbers words

    abbrev places : Places
    places = places_of f.plan nodes f.numbers

    -- the number of a string
    abbrev number : Anchored → List ℕ → ℕ
    number anchored w = number_at places anchored (Some w)

    -- the words of a state begin at a place
    abbrev BeginsAt : ℕ → Node → ℕ → List ℕ → Type 0
    BeginsAt s u place there =
        BeginsWith (drop place there) (format_for f.plan u) (alphabet_len f.plan.classes) (packed_state f nodes s u)

    -- the state of the dead node
    dead-begins : BeginsWith dead Dense (alphabet_len f.plan.classes) packed_dead
    dead-begins = search (rules, begins-after, alphabet_len-few f.plan.classes ready.may.classes)

    dead-long : length dead ≡ size_of f.plan nodes None
    dead-long = ap (λ (ws : List ℕ). length ws) first ∙ length-format_words Dense (alphabet_len f.plan.classes) packed_dead tt

    front-long : length front ≡ front_end f.plan nodes
    front-long = let long = in_front.long in let first_long = dead-long in omega arith

    pub words-long : length words ≡ packed_words f.plan.trie.built f.plan.dense_depth (alphabet_len f.plan.classes)
    words-long = omega (arith, after.long, front-long, sizes-whole f.plan nodes ready.may)

    -- each state's words begin at its place
    record Begins (s : ℕ) (u : Node) : Type 0 where
      begins : BeginsAt s u (place_at f.plan nodes s) words
      within : place_at f.plan nodes s < length words
      late : FAIL < place_at f.plan nodes s
      front_if : has_matches f.plan nodes u ≡ true → place_at f.plan nodes s < front_end f.plan nodes
      back_if : has_matches f.plan nodes u ≡ false → front_end f.plan nodes ≤ place_at f.plan nodes s

    state-begins : (s : ℕ) (u : Node) → 2 ≤ s → slice_get nodes s ≡ Some u → Begins s u
    state-begins s u reached named = by (has_matches f.plan nodes u) refl
      where
        below : s < length nodes
        below = slice_get_within nodes s u named

        by : (t : Bool) → t ≡ has_matches f.plan nodes u → Begins s u
        by true is =
            let at = placed-at f nodes ready s u reached named true is in
            let place = at.begins in
            let inside = at.front_within refl in
            let long = front-long in
            let dead_is = dead-long in
            let all = after.long in
            record {
              begins = rw after.same (begins-before (format_for f.plan u) (alphabet_len f.plan.classes)
                  (packed_state f nodes s u) front after.pushed (place_at f.plan nodes s) (omega arith)
                  (subst (λ (n : ℕ). BeginsAt s u n front)
                  (let e : length dead + before f.plan nodes true s ≡ place_at f.plan nodes s = omega arith in e)
                  (in_front.each s u reached below named (sym is))));
              within = omega arith;
              late = omega arith;
              front_if = λ e. inside;
              back_if = λ e. absurd cc;
            }
        by false is =
            let at = placed-at f nodes ready s u reached named false is in
            let place = at.begins in
            let ends = at.ends in
            let long = front-long in
            let all = after.long in
            let grows = total-grows (size_at f.plan nodes false) (s + 1) (length nodes) (omega (arith, below)) in
            record {
              begins = subst (λ (n : ℕ). BeginsAt s u n words)
                  (let e : length front + before f.plan nodes false s ≡ place_at f.plan nodes s = omega arith in e)
                  (after.each s u reached below named (sym is));
              within = omega arith;
              late = omega arith;
              front_if = λ e. absurd cc;
              back_if = λ e. omega arith;
            }

    -- what begins at the number of a node
    node-begins : (anchored : Anchored) (u : Node) → IsNode f.plan.trie.built.kind (plain_of f.plan.trie.built) u
        → BeginsWith (drop (number_at places anchored u) words) (format_for f.plan u) (alphabet_len f.plan.classes)
        (packed_at packed places anchored u)
    node-begins anchored None node =
        let classes = alphabet_len f.plan.classes in
        rw (after.same, in_front.same) (begins-before Dense classes packed_dead (dead ++ in_front.pushed) after.pushed 0
        (omega arith) (begins-before Dense classes packed_dead dead in_front.pushed 0 (omega arith) dead-begins))
    node-begins anchored (Some w) node =
        let at = has-place f nodes ready words anchored w node in
        rw (at.number, sym at.spells) (state-begins at.state (Some w) at.reached at.named).begins

    -- what stands at the number of a string
    record Stands (anchored : Anchored) (w : List ℕ) : Type 0 where
      within : number anchored w < length words
      late : FAIL < number anchored w
      matched : (number anchored w < front_end f.plan nodes) ↔ (matches_of f.plan.trie.built No (Some w) ≢ [])
      lists : match_list_at packed (number anchored w) ≡ matches_of f.plan.trie.built No (Some w)

    stands : (anchored : Anchored) (w : List ℕ) → IsNode f.plan.trie.built.kind (plain_of f.plan.trie.built) (Some w)
        → Stands anchored w
    stands anchored w node = by (has_matches f.plan nodes (Some w)) refl
      where
        at : HasPlace f nodes ready words anchored w
        at = has-place f nodes ready words anchored w node

        there : Begins at.state (Some w)
        there = state-begins at.state (Some w) at.reached at.named

        spelled : (packed_at packed places anchored (Some w)).matches ≡ matches_of f.plan.trie.built No (Some w)
        spelled = matches-packed_at packed places anchored (Some w)

        by : (t : Bool) → has_matches f.plan nodes (Some w) ≡ t → Stands anchored w
        by true is =
            let some : matches_of f.plan.trie.built No (Some w) ≢ [] = λ none. cc in
            let front = there.front_if is in
            record {
              within = omega (arith, at.number, there.within);
              late = omega (arith, at.number, there.late);
              matched = (λ below. some, λ has. omega (arith, at.number, front));
              lists = listed-format_words packed (number anchored w) (format_for f.plan (Some w))
                  (packed_at packed places anchored (Some w)) (node-begins anchored (Some w) node)
                  (omega (arith, at.number, there.late)) (omega (arith, at.number, front)) (λ none. some (sym spelled ∙ none))
                  ∙ spelled;
            }
        by false is =
            let none : matches_of f.plan.trie.built No (Some w) ≡ [] = nil_from_length _ (omega (arith, ltb-false _ _ is)) in
            let back = there.back_if is in
            record {
              within = omega (arith, at.number, there.within);
              late = omega (arith, at.number, there.late);
              matched = (λ below. absurd (omega (arith, at.number, back, below)), λ some. absurd (some none));
              lists = listed-none packed _ (omega (arith, at.number, back)) ∙ sym none;
            }

    -- no string but the empty one has the number of a start
    no-start : (anchored : Anchored) (w : List ℕ) → IsNode f.plan.trie.built.kind (plain_of f.plan.trie.built) (Some w)
        → w ≢ [] → places.place w ≢ number anchored []
    no-start anchored [] node some e = absurd (some refl)
    no-start anchored (x ∷ w) node some e =
        let at = has-place f nodes ready words No (x ∷ w) node in
        let start = has-place f nodes ready words anchored [] refl in
        let same = one-place f nodes ready at.state start.state (Some (x ∷ w)) (Some []) at.reached start.reached at.named
        start.named (sym at.number ∙ e ∙ start.number) in
        let named = at.named in
        let other = start.named in
        absurd cc

    -- the words mean what they should
    pub are-packed : packed_words f.plan.trie.built f.plan.dense_depth (alphabet_len f.plan.classes) ≤ GREATEST
        → IsContiguous packed places
    are-packed small = record {
      classes = ready.may.classes;
      apart = ready.may.apart;
      small = let long = words-long in omega arith;
      few = ready.may.few;
      short = ready.may.short;
      start = place-start f.plan.trie nodes ready.may.are_nodes f.numbers ready.places.count;
      anchored_start = refl;
      states = node-begins;
      within = λ anchored w node. (stands anchored w node).within;
      after = λ anchored w node. (stands anchored w node).late;
      longer = no-start;
      ended = let long = dead-long in omega arith;
      matched = λ anchored w node. (stands anchored w node).matched;
      lists = λ anchored w node. (stands anchored w node).lists;
    }
