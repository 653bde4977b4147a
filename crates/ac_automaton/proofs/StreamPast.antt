-- The search of a stream under a leftmost kind: what it gives of the state to which it has come, and where nothing is given.
use Rattle.ac_util.proofs.Prelude.{◌≡◌, ◌≢◌, ◌⊎◌, ℕ, ◌+◌, ◌-◌, ◌<◌, ◌≤◌, true, false, List, [], ◌++◌, length, length-append, max, slice_index, inl, inr, refl, ap, sym, subst, ◌∙◌, arith, Option, Some, None, IfSome, option_map, false≢true, append-nil}
use Rattle.ac_automaton.specs.Prelude.{CouldNextChange, reached, step, text, IsPickIn, StandsAfter, is_leftmost, longest_len, No, Occurrence, pick, AutomatonView, Cursor, Ended, Inside, IsStreaming, Phase, place_of, plain_of, step_of, stream_from, Streaming, reads_on, IsGiven, pending, IsRestBefore, streaming_by, ChainMatch, ChainRest, Given}
use Rattle.ac_util.proofs.Living.{node-short, pick-beyond}
use Rattle.ac_util.proofs.Onward.{byte_at}
use Rattle.ac_util.proofs.Shortest.{none-empty}
use Rattle.ac_util.proofs.StillOpen.{could-change}
use Rattle.ac_util.proofs.Walks.{pick-Occurs}
use Rattle.ac_automaton.proofs.LedWalks.{byte-is}
use Rattle.ac_automaton.proofs.PastGives.{ends-there, goes-on, in-node, never-dead, numbered, pattern-within, picks-first, rest-within}
use Rattle.ac_automaton.proofs.StreamKeeping.{settles-leftmost}
use Rattle.ac_automaton.proofs.StreamKnown.{never-standard}
use Rattle.ac_automaton.proofs.StreamReads.{at, begun-before, comes, hand-there, HoldsBack, IsReadOn, none-more, of-search, onward, q, read-enough, search-is, Settles, stands-there, u, within-buffer, within-bytes}
use Rattle.ac_automaton.proofs.StreamOpen.{next-could}
use Rattle.ac_automaton.proofs.StreamRefusals.{allowed-some, past-on}
use Rattle.ac_automaton.proofs.StreamReserves.{most-leftmost}

module _ (a : AutomatonView) {bytes : List ℕ} {given front kept : ℕ} {phase : Phase} {buffer : ℕ} {chains : List (List ChainMatch)}
    {i : Inside} (inv : IsStreaming (a.stands No) chains i (streaming_by a.built bytes given front kept phase buffer))
    {there : Cursor} {byte : Option ℕ} (on : IsReadOn a chains i there byte) (first : is_leftmost a.built.kind ≡ true)
    (past : i.stops ≡ false) where
  abbrev v : Streaming
  v = streaming_by a.built bytes given front kept phase buffer

  reads : reads_on a.built ≡ true
  reads = past-on a.built inv.allowed first

  -- the node is no longer than the longest pattern
  short : length (u a inv on) ≤ longest_len a.built.patterns
  short =
      let s = stands-there a inv on [] (none-more a inv) in let is = search-is a inv [] in let h = s.inside in
      node-short a.built.kind (record (q a inv []) { high = at a inv on }) refl s.within
      (let l = length-append bytes [] in omega arith) (u a inv on) s.stands

  read-all : byte ≡ None → i.filled ≤ there.at
  read-all none = elim (read-enough a inv on none) [
    | inl over ↦ over
    | inr stopped ↦ absurd (false≢true (sym past ∙ stopped.0))
  ]

  dead-at : (more : List ℕ) (b : ℕ) → there.at < i.filled → b ≡ slice_index on.shown there.at
      → step_of a.built No (Some (u a inv on)) b ≡ None
      → step a.built.kind (plain_of a.built) No (Some (u a inv on)) (byte_at (q a inv more) (at a inv on)) ≡ None
  dead-at more b before is dead =
      ap (λ (k : ℕ). step a.built.kind (plain_of a.built) No (Some (u a inv on)) k)
      (byte-is a i.stops (of-search a inv on more) there.at b before is)
      ∙ dead

  -- a byte was read that leads to the dead node, or the stream has ended
  module _ (over : (byte ≢ None) ⊎ (phase ≡ Ended)) where
    over-at : (more : List ℕ) → (phase ≡ Ended → more ≡ []) → (at a inv on ≡ (q a inv more).high)
        ⊎ ((at a inv on < (q a inv more).high)
        × (step a.built.kind (plain_of a.built) No (Some (u a inv on)) (byte_at (q a inv more) (at a inv on)) ≡ None))
    over-at more last = by byte over (hand-there a inv on) (comes a inv on).dead read-all
      where
        by : (b : Option ℕ) → (b ≢ None) ⊎ (phase ≡ Ended)
            → IfSome b (λ b. (there.at < i.filled) × (b ≡ slice_index on.shown there.at))
            → IfSome b (λ b. step_of a.built No (Some (u a inv on)) b ≡ None) → (b ≡ None → i.filled ≤ there.at)
            → (at a inv on ≡ (q a inv more).high)
            ⊎ ((at a inv on < (q a inv more).high)
            × (step a.built.kind (plain_of a.built) No (Some (u a inv on)) (byte_at (q a inv more) (at a inv on)) ≡ None))
        by (Some b) over hand dead all =
            inr (
              (let o = (of-search a inv on more).within in let before = hand.0 in omega arith),
              dead-at more b hand.0 hand.1 dead,
            )
        by None (inl came) hand dead all = absurd (came refl)
        by None (inr ended) hand dead all =
            let r = all refl in
            let w = within-buffer a inv on in let c = inv.counted in let l = ap length (append-nil bytes) in
            let whole = ap (λ (ms : List ℕ). length (bytes ++ ms)) (last ended) in inl (omega arith)

    module _ (gave : Given) (is : IsGiven a chains (u a inv on) gave) where
      abbrev here : StandsAfter a.built.kind (plain_of a.built) (q a inv []) [] (u a inv on) (at a inv on)
      here = stands-there a inv on [] (none-more a inv)

      abbrev base : ℕ
      base = at a inv on - gave.rest

      abbrev m : Occurrence
      m = place_of a.built base gave.pattern

      picks : (more : List ℕ) → (phase ≡ Ended → more ≡ []) → pick a.built.kind (q a inv more) ≡ Some m
      picks more last =
          picks-first a reads chains (q a inv more) (search-is a inv more) refl (u a inv on) (at a inv on)
          (stands-there a inv on more last) gave is (over-at more last)

      -- no byte of it was given up
      beyond : kept ≤ m.start
      beyond = elim inv.back [
        | inl back ↦
            let r = inv.reserve ∙ most-leftmost a.built first in let s = short in
            let n = in-node a reads chains (q a inv []) (search-is a inv []) refl (u a inv on) (at a inv on) here gave is in
            let o = (pick-Occurs a.built.kind (q a inv []) m (picks [] (none-more a inv))).from_low in
            let f = onward a inv on in omega arith
        | inr ended ↦
            absurd (let none = ended.none in
            let some = ap (λ (bs : List ℕ). pick a.built.kind (stream_from a.built bs i.begun)) (sym (append-nil bytes)) ∙ picks [] (none-more a inv) in
            cc)
      ]

      sound : (chain : Option ℕ) → IfSome chain (λ number. number < length chains)
          → IsRestBefore chains base (option_map (λ (number : ℕ). record { chain = number; index = 0; base = base }) chain)
      sound None h = tt
      sound (Some number) h = (h, omega arith)

      near : (n : Option ChainRest) → IfSome n (λ r. base ≤ base)
      near None = tt
      near (Some r) = omega arith

      pub settles-past : Settles a chains i v there gave
      settles-past = record {
        rest = rest-within a reads chains (q a inv []) (search-is a inv []) refl (u a inv on) (at a inv on) here gave is;
        numbered = numbered a reads chains (q a inv []) (search-is a inv []) refl (u a inv on) (at a inv on) here gave is;
        fits = pattern-within a reads chains (q a inv []) (search-is a inv []) refl (u a inv on) (at a inv on) here gave is;
        within = within-buffer a inv on;
        picks = picks;
        beyond = beyond;
        stands = λ rest rest-is. record {
          node = is.node;
          there = is.stands;
          after = λ more last.
              goes-on a reads chains (q a inv more) (search-is a inv more) refl (u a inv on) (at a inv on) (stands-there a inv on more last)
              gave is (over-at more last) rest rest-is;
          sound = subst (IsRestBefore chains base) (sym rest-is) (sound gave.chain is.chained);
          near = near rest;
          first = λ standard. absurd (never-standard a.built.kind first standard);
        };
      }

  -- or it isn't so, or nothing is picked
  module _ (nothing : (byte ≢ None) ⊎ (phase ≡ Ended) → IsPickIn a.built.kind (plain_of a.built) No (u a inv on) None) where
    whole : i.filled ≤ there.at
    whole = by byte refl (hand-there a inv on) (comes a inv on).dead read-all
      where
        by : (b : Option ℕ) → byte ≡ b → IfSome b (λ b. (there.at < i.filled) × (b ≡ slice_index on.shown there.at))
            → IfSome b (λ b. step_of a.built No (Some (u a inv on)) b ≡ None) → (b ≡ None → i.filled ≤ there.at) → i.filled ≤ there.at
        by None is hand dead all = all refl
        by (Some b) is hand dead all =
            absurd (never-dead a reads chains (q a inv []) (search-is a inv []) refl (u a inv on) (at a inv on)
            (stands-there a inv on [] (none-more a inv))
            (let o = (of-search a inv on []).within in let before = hand.0 in omega arith)
            (dead-at [] b hand.0 hand.1 dead) (nothing (inl (λ none. absurd (let no = sym is ∙ none in cc)))))

    all : there.at ≡ i.filled
    all = let w = within-buffer a inv on in let r = whole in omega arith

    end-at : at a inv on ≡ (q a inv []).high
    end-at = let e = all in let c = inv.counted in let l = ap length (append-nil bytes) in omega arith

    ends : phase ≡ Ended → pick a.built.kind (stream_from a.built bytes i.begun) ≡ None
    ends ended =
        ap (λ (bs : List ℕ). pick a.built.kind (stream_from a.built bs i.begun)) (sym (append-nil bytes))
        ∙ ends-there a reads chains (q a inv []) (search-is a inv []) refl (u a inv on) (at a inv on)
        (stands-there a inv on [] (none-more a inv)) end-at (nothing (inr ended))

    near-picked : (m : Occurrence) → pick a.built.kind (q a inv []) ≡ Some m → length bytes ≤ m.start + longest_len a.built.patterns
    near-picked m picked =
        let s = stands-there a inv on [] (none-more a inv) in let is = search-is a inv [] in let e = end-at in
        let stands-whole = ap (λ (k : ℕ). reached a.built.kind (plain_of a.built) No (text (record (q a inv []) { high = k }))) (sym e)
        ∙ s.stands in
        let b = pick-beyond a.built.kind (q a inv []) refl is.ordered is.inside first (u a inv on) stands-whole a.built.kind m picked in
        let w = short in let l = ap length (append-nil bytes) in omega arith

    beyond-picked : (m : Occurrence) → pick a.built.kind (stream_from a.built bytes i.begun) ≡ Some m
        → max kept (at a inv on - i.reserve) ≤ m.start
    beyond-picked m picked =
        let again = ap (λ (bs : List ℕ). pick a.built.kind (stream_from a.built bs i.begun)) (append-nil bytes) ∙ picked in
        let n = near-picked m again in let o = (pick-Occurs a.built.kind (q a inv []) m again).from_low in
        let r = inv.reserve ∙ most-leftmost a.built first in let f = onward a inv on in let w = within-bytes a inv on in
        elim inv.back [
          | inl back ↦ omega arith
          | inr over ↦ absurd (let none = over.none in cc)
        ]

    stands-whole : reached a.built.kind (plain_of a.built) No (text (stream_from a.built bytes i.begun)) ≡ Some (u a inv on)
    stands-whole =
        subst (λ (bs : List ℕ). reached a.built.kind (plain_of a.built) No (text (stream_from a.built bs i.begun)) ≡ Some (u a inv on))
        (append-nil bytes)
        (ap (λ (k : ℕ). reached a.built.kind (plain_of a.built) No (text (record (q a inv []) { high = k }))) (sym end-at)
        ∙ (stands-there a inv on [] (none-more a inv)).stands)

    -- a match that is found could change
    next : CouldNextChange a.built bytes given
    next =
        let some = allowed-some a.built inv.allowed in
        next-could a.built some bytes inv.given
        (λ m is. could-change a.built bytes i.begun (let w = inv.after in let k = inv.kept_within in omega arith) first (u a inv on) stands-whole m is
        (let o = pick-Occurs a.built.kind (stream_from a.built bytes i.begun) m is in
        let long = none-empty a.built.patterns m.pattern some o.numbered in let as_long = o.as_long in let to_high = o.to_high in omega arith))

    pub holds-past : HoldsBack a chains i v inv there
    holds-past = record {
      ahead = onward a inv on;
      all = all;
      begun = begun-before a inv on;
      settles = settles-leftmost inv there.at (onward a inv on) all first beyond-picked;
      ends = ends;
      next = next;
      stands = λ kept' rest none. record {
        node = u a inv on;
        there = (comes a inv on).there;
        after = λ more last.
            subst (λ (n : Option ChainRest). StandsAfter a.built.kind (plain_of a.built) (q a inv more) (pending a.built chains n)
            (u a inv on) (at a inv on)) (sym none) (stands-there a inv on more last);
        sound = subst (IsRestBefore chains i.begun) (sym none) tt;
        near = subst (λ (n : Option ChainRest). IfSome n (λ r. kept' ≤ i.begun)) (sym none) tt;
        first = λ standard. absurd (never-standard a.built.kind first standard);
      };
    }
