-- The search of a stream under Standard: it gives the first match of the state to which it has come.
use Rattle.ac_util.proofs.Prelude.{◌≡◌, cond, ℕ, zero, suc, ◌+◌, ◌-◌, ◌<◌, ◌≤◌, Bool, true, false, List, [], ◌∷◌, ◌++◌, length, length-append, slice_get, inl, inr, refl, ap, sym, subst, ◌∙◌, arith, Option, Some, None, IfSome, option_map, cases_lt, append-nil}
use Rattle.ac_automaton.specs.Prelude.{step, StandsAfter, longest_len, MatchKind, No, Node, Occurrence, pattern_of, pick, Search, Standard, AutomatonView, Cursor, Inside, IsStreaming, matches_of, node_at, Phase, place_of, plain_of, StandsPast, stream_from, Streaming, first_given, pending, IsRestBefore, streaming_by, led, scan_of, ChainMatch, ChainRest, Given}
use Rattle.ac_util.proofs.Beginning.{ends_by, pick-within, within}
use Rattle.ac_util.proofs.Longer.{pick-extended}
use Rattle.ac_util.proofs.OneLonger.{pick-empty_some}
use Rattle.ac_util.proofs.Onward.{after-start, byte_at, step-byte}
use Rattle.ac_util.proofs.SearchLoop.{pick-found, pick-goes_on}
use Rattle.ac_util.proofs.Shortest.{longest-most}
use Rattle.ac_util.proofs.Walks.{pick-Occurs}
use Rattle.ac_automaton.proofs.LedWalks.{led-reached, node-is}
use Rattle.ac_automaton.proofs.StreamReads.{at, begun-before, comes, IsReadOn, none-more, of-search, onward, place, q, Settles, stands-here, stands-there, u, within-buffer, within-bytes}
use Rattle.ac_automaton.proofs.StreamRefusals.{allowed-some}
use Rattle.ac_automaton.proofs.StreamReserves.{most-back}
use Rattle.ac_automaton.proofs.StreamBegins.{picked-nothing}

-- what of a match is picked that ends by an offset
within-some : (h : ℕ) (r : Option Occurrence) (m : Occurrence) → within h r ≡ Some m → r ≡ Some m
within-some h None m is = absurd (cc)
within-some h (Some n) m is = by (ends_by h n) is
  where
    by : (t : Bool) → cond t (Some n) None ≡ Some m → Some n ≡ Some m
    by true is = is
    by false is = absurd (cc)

module _ (a : AutomatonView) {bytes : List ℕ} {given front kept : ℕ} {phase : Phase} {buffer : ℕ} {chains : List (List ChainMatch)}
    {i : Inside} (inv : IsStreaming (a.stands No) chains i (streaming_by a.built bytes given front kept phase buffer))
    {there : Cursor} {byte : Option ℕ} (on : IsReadOn a chains i there byte) (standard : a.built.kind ≡ Standard)
    (first : i.stops ≡ true) where
  abbrev v : Streaming
  v = streaming_by a.built bytes given front kept phase buffer

  -- what was read so far, as far as an offset
  abbrev so-far : ℕ → Search
  so-far k = record (q a inv []) { high = k }

  abbrev picked : ℕ → Option Occurrence
  picked k = pick a.built.kind (so-far k)

  abbrev node : ℕ → Node
  node k = node_at a.built.kind (q a inv []) k

  -- by one byte more the first match of the node there is picked, if nothing was picked before
  pub picked-next : (k : ℕ) → i.begun ≤ k → k < length bytes → picked k ≡ None → (ns : List ℕ)
      → matches_of a.built No (node (k + 1)) ≡ ns → picked (k + 1) ≡ option_map (place_of a.built (k + 1)) (slice_get ns 0)
  picked-next k low room none [] e =
      let l = ap length (append-nil bytes) in
      pick-goes_on a.built.kind a.built.kind (so-far k) low (omega arith) (inr (standard, none)) e ∙ none
  picked-next k low room none (n ∷ ns) e =
      let l = ap length (append-nil bytes) in
      pick-found a.built.kind a.built.kind (so-far k) low (omega arith) (inr (standard, none)) n ns e

  -- where nothing is picked the node has no match
  none-found : (k : ℕ) → i.begun ≤ k → k ≤ length bytes → picked k ≡ None → (ns : List ℕ)
      → matches_of a.built No (node k) ≡ ns → ns ≡ []
  none-found k low up none [] e = refl
  none-found k low up none (n ∷ ns) e = elim (cases_lt i.begun k) [
    | inl before ↦
        let p = k - 1 in let back : p + 1 ≡ k = omega arith in
        let less : picked p ≡ None = none-before k p (omega arith) none in
        let some = picked-next p (omega arith) (omega arith) less (n ∷ ns)
        (ap (λ (h : ℕ). matches_of a.built No (node h)) back ∙ e) in
        absurd (let gone = ap picked back ∙ none in cc)
    | inr at-begin ↦
        let here : i.begun ≡ k = omega arith in let l = ap length (append-nil bytes) in
        absurd (let some = pick-empty_some a.built.kind (so-far k) here (omega arith) false n ns e in cc)
  ]
    where
      none-before : (k p : ℕ) → p ≤ k → picked k ≡ None → picked p ≡ None
      none-before k p less none =
          subst (λ (o : MatchKind). pick o (so-far k) ≡ None → pick o (so-far p) ≡ None) (sym standard)
          (λ gone. pick-within (so-far k) p less ∙ ap (within p) gone) none

  none-here : picked (place a inv) ≡ None
  none-here =
      ap (λ (bs : List ℕ). pick a.built.kind (record (stream_from a.built bs i.begun) { high = place a inv })) (append-nil bytes)
      ∙ (inv.past.first standard).none

  -- no match was passed between
  quiet : (k : ℕ) → place a inv < k → k < at a inv on → matches_of a.built No (node k) ≡ []
  quiet k low high =
      let n = k - place a inv in let o = onward a inv on in let w = within-buffer a inv on in
      let same : k ≡ front + (i.at + n) = omega arith in
      let rest : n + (there.at - i.at - n) ≡ there.at - i.at = omega arith in
      ap (λ (h : ℕ). matches_of a.built No (node h)) same
      ∙ ap (matches_of a.built No)
      (led-reached a i.stops (of-search a inv on []) inv.past.node i.at (stands-here a inv on [] (none-more a inv)) n (there.at - i.at - n)
      (u a inv on) (omega arith)
      (ap (led (scan_of a No i.stops) on.shown (Some inv.past.node) i.at) rest ∙ (comes a inv on).leads))
      ∙ (comes a inv on).none first n (omega arith) (omega arith)

  begun-place : i.begun ≤ place a inv
  begun-place = inv.read

  none-for : (n : ℕ) → place a inv + n < at a inv on → picked (place a inv + n) ≡ None
  none-for zero up = let e : place a inv ≡ place a inv + zero = omega arith in sym (ap picked e) ∙ none-here
  none-for (suc n) up =
      let e : place a inv + n + 1 ≡ place a inv + suc n = omega arith in let w = within-bytes a inv on in let b = begun-place in
      sym (ap picked e)
      ∙ picked-next (place a inv + n) (omega arith) (omega arith) (none-for n (omega arith)) []
      (quiet (place a inv + n + 1) (omega arith) (omega arith))

  -- so the first match of the node where it has come to is picked
  pub picked-there : (ns : List ℕ) → matches_of a.built No (Some (u a inv on)) ≡ ns
      → picked (at a inv on) ≡ option_map (place_of a.built (at a inv on)) (slice_get ns 0)
  picked-there ns e = elim (cases_lt (place a inv) (at a inv on)) [
    | inl further ↦
        let k = at a inv on - 1 in let n = k - place a inv in let same : place a inv + n ≡ k = omega arith in
        let back : k + 1 ≡ at a inv on = omega arith in let w = within-bytes a inv on in let b = begun-place in
        let none : picked k ≡ None = sym (ap picked same) ∙ none-for n (omega arith) in
        subst (λ (h : ℕ). picked h ≡ option_map (place_of a.built h) (slice_get ns 0)) back
        (picked-next k (omega arith) (omega arith) none ns (ap (λ (h : ℕ). matches_of a.built No (node h)) back ∙ node-there ∙ e))
    | inr same-place ↦
        let f = onward a inv on in let same : place a inv ≡ at a inv on = omega arith in
        let none : picked (at a inv on) ≡ None = sym (ap picked same) ∙ none-here in
        let w = within-bytes a inv on in let b = begun-place in
        let nothing = none-found (at a inv on) (omega arith) w none ns (node-there ∙ e) in
        none ∙ sym (ap (λ (ms : List ℕ). option_map (place_of a.built (at a inv on)) (slice_get ms 0)) nothing)
  ]
    where
      node-there : matches_of a.built No (node (at a inv on)) ≡ matches_of a.built No (Some (u a inv on))
      node-there =
          ap (matches_of a.built No)
          (node-is a i.stops (of-search a inv on []) there.at (u a inv on)
          (stands-there a inv on [] (none-more a inv)))

  -- the node to which a byte leads
  pub node-next : (k : ℕ) → i.begun ≤ k → k < length bytes → (w : List ℕ) → node k ≡ Some w
      → step a.built.kind (plain_of a.built) No (Some w) (byte_at (q a inv []) k) ≡ None → node (k + 1) ≡ None
  node-next k low room w there dead =
      let l = ap length (append-nil bytes) in
      sym (step-byte a.built.kind (plain_of a.built) (so-far k) low (omega arith))
      ∙ ap (λ (n : Node). step a.built.kind (plain_of a.built) No n (byte_at (q a inv []) k)) there ∙ dead

  module _ (lists : (u : Node) → a.stands No there.state u → a.listed there.state ≡ matches_of a.built No u) where
    pub lists-there : a.listed there.state ≡ matches_of a.built No (Some (u a inv on))
    lists-there = lists (Some (u a inv on)) (comes a inv on).there

    -- a state with a match gives that
    module _ (n : ℕ) (ns : List ℕ) (listed : a.listed there.state ≡ n ∷ ns) where
      abbrev m : Occurrence
      m = place_of a.built (at a inv on) n

      picks-there : picked (at a inv on) ≡ Some m
      picks-there = picked-there (n ∷ ns) (sym lists-there ∙ listed)

      -- whichever bytes follow
      picks : (more : List ℕ) → pick a.built.kind (q a inv more) ≡ Some m
      picks more = subst (λ (o : MatchKind). pick o (q a inv more) ≡ Some m) (sym standard) (stays (subst At standard longer))
        where
          At : MatchKind → Type 0
          At o = pick o (record (q a inv more) { high = at a inv on }) ≡ Some m

          longer : At a.built.kind
          longer =
              let w = within-bytes a inv on in
              pick-extended (record (stream_from a.built bytes i.begun) { high = at a inv on }) more (begun-before a inv on) w a.built.kind
              ∙ sym (ap (λ (bs : List ℕ). pick a.built.kind (record (stream_from a.built bs i.begun) { high = at a inv on })) (append-nil bytes))
              ∙ picks-there

          stays : At Standard → pick Standard (q a inv more) ≡ Some m
          stays here =
              let w = within-bytes a inv on in let l = length-append bytes more in
              within-some (at a inv on) (pick Standard (q a inv more)) m
              (sym (pick-within (q a inv more) (at a inv on) (omega arith)) ∙ here)

      occurs-there : m.start + length (pattern_of a.built.patterns n) ≡ at a inv on
      occurs-there = (pick-Occurs a.built.kind (so-far (at a inv on)) m picks-there).as_long

      -- it was read on to it, since nothing was picked before
      further : place a inv < at a inv on
      further = elim (cases_lt (place a inv) (at a inv on)) [
        | inl beyond ↦ beyond
        | inr same-place ↦
            let f = onward a inv on in let same : place a inv ≡ at a inv on = omega arith in
            absurd (let none = sym (ap picked same) ∙ none-here in let some = picks-there in cc)
      ]

      beyond : kept ≤ m.start
      beyond =
          let o = pick-Occurs a.built.kind (so-far (at a inv on)) m picks-there in
          let long = longest-most a.built.patterns n o.numbered in let as_long = occurs-there in let low = o.from_low in
          let spare = subst (λ (k : ℕ). longest_len a.built.patterns ≤ k + 1) (sym inv.reserve) (most-back a.built) in
          let f = further in
          elim inv.back [
            | inl back ↦ omega arith
            | inr over ↦ let whole = over.whole in let w = within-buffer a inv on in absurd (omega arith)
          ]

      -- the search begins anew after it
      anew : (base : ℕ) → base ≡ at a inv on → (rest : Option ChainRest) → rest ≡ None
          → StandsPast (a.stands No) chains (record i { state = i.start; at = there.at; rest = rest; begun = base })
          (record v { given = given + 1; kept = base })
      anew base is rest none = record {
        node = [];
        there = inv.starts;
        after = λ more last.
            subst (λ (r : Option ChainRest). StandsAfter a.built.kind (plain_of a.built) (stream_from a.built (bytes ++ more) base)
            (pending a.built chains r) [] (at a inv on)) (sym none)
            (subst (λ (k : ℕ). StandsAfter a.built.kind (plain_of a.built) (stream_from a.built (bytes ++ more) base) [] [] k) is
            (after-start a.built.kind (plain_of a.built) (stream_from a.built (bytes ++ more) base)
            (let w = within-bytes a inv on in let l = length-append bytes more in
            record { free = refl; ordered = omega arith; inside = omega arith; same = refl })));
        sound = subst (λ (r : Option ChainRest). IsRestBefore chains base r) (sym none) tt;
        near = subst (λ (r : Option ChainRest). IfSome r (λ x. base ≤ base)) (sym none) tt;
        first = λ standard'. record {
          left = none;
          none = sym (ap (λ (k : ℕ). pick a.built.kind (record (stream_from a.built bytes base) { high = k })) is)
              ∙ picked-nothing a.built (allowed-some a.built inv.allowed) a.built.kind bytes base;
        };
      }

      settles-listed : Settles a chains i v there (record { pattern = n; rest = 0; next = i.start; chain = None })
      settles-listed =
          let whole : at a inv on - 0 ≡ at a inv on = omega arith in let o = occurs-there in
          record {
            rest = omega arith;
            numbered = (pick-Occurs a.built.kind (so-far (at a inv on)) m picks-there).numbered;
            fits = omega arith;
            within = within-buffer a inv on;
            picks = λ more last. picks more ∙ sym (ap (λ (k : ℕ). Some (place_of a.built k n)) whole);
            beyond = subst (λ (k : ℕ). kept ≤ (place_of a.built k n).start) (sym whole) beyond;
            stands = λ rest none. anew (at a inv on - 0) whole rest none;
          }

    pub settles-first : (gave : Given) → Some gave ≡ first_given i.start (a.listed there.state) → Settles a chains i v there gave
    settles-first gave is = by (a.listed there.state) refl is
      where
        by : (ns : List ℕ) → a.listed there.state ≡ ns → Some gave ≡ first_given i.start ns → Settles a chains i v there gave
        by [] e is = absurd (cc)
        by (n ∷ ns) e is =
            let same : record { pattern = n; rest = 0; next = i.start; chain = None } ≡ gave = cc in
            subst (Settles a chains i v there) same (settles-listed n ns e)
