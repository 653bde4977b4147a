-- The search of a stream gives the next match of a chain.
use Rattle.ac_util.proofs.Prelude.{◌≡◌, ◌≢◌, ℕ, ◌+◌, ◌<◌, ◌≤◌, true, List, [], ◌++◌, length, length-append, slice_get, inl, inr, refl, ap, sym, subst, ◌∙◌, arith, Option, Some, None, IfSome, false≢true}
use Rattle.ac_automaton.specs.Prelude.{StandsAfter, is_leftmost, MatchKind, Occurrence, pattern_of, pick, Standard, AutomatonView, Ended, Failed, GivesMatch, Inside, IsStreaming, Phase, place_of, plain_of, stream_from, Streaming, No, chain_at, reads_on, MayTakeFrom, pending, TakesFrom, IsRestBefore, streaming_by, ChainMatch, ChainRest}
use Rattle.ac_util.proofs.Onward.{after-low}
use Rattle.ac_util.proofs.PickedWalks.{search-from}
use Rattle.ac_util.proofs.Walks.{pick-Occurs}
use Rattle.ac_automaton.proofs.OnwardLists.{on-leftmost, on-some}
use Rattle.ac_automaton.proofs.PastGives.{goes-known, known-high, known-numbered, known-onward, known-within, next, picks-known}
use Rattle.ac_automaton.proofs.StreamGiving.{gives, streams-then}
use Rattle.ac_automaton.proofs.StreamReads.{by-kind, none-more, place, q, search-is}
use Rattle.ac_automaton.proofs.StreamRefusals.{past-on}

-- a leftmost search isn't one under Standard
pub never-standard : (kind : MatchKind) → is_leftmost kind ≡ true → kind ≡ Standard → ⊥
never-standard kind leftmost standard = false≢true (sym (ap is_leftmost standard) ∙ leftmost)

module _ (a : AutomatonView) {bytes : List ℕ} {given front kept : ℕ} {phase : Phase} {buffer : ℕ} {chains : List (List ChainMatch)}
    {i : Inside} (inv : IsStreaming (a.stands No) chains i (streaming_by a.built bytes given front kept phase buffer))
    (unfailed : phase ≢ Failed) where
  abbrev v : Streaming
  v = streaming_by a.built bytes given front kept phase buffer

  module _ (r : ChainRest) (is : i.rest ≡ Some r) (found : ChainMatch)
      (there : slice_get (chain_at chains r.chain) r.index ≡ Some found) where
    -- only a leftmost search has one
    leftmost : is_leftmost a.built.kind ≡ true
    leftmost = elim (by-kind a.built.kind) [
      | inl standard ↦ absurd (let no = sym is ∙ (inv.past.first standard).left in cc)
      | inr first ↦ first
    ]

    on : reads_on a.built ≡ true
    on = past-on a.built inv.allowed leftmost

    stands-at : (more : List ℕ) → (phase ≡ Ended → more ≡ [])
        → StandsAfter a.built.kind (plain_of a.built) (q a inv more) (pending a.built chains (Some r)) inv.past.node (place a inv)
    stands-at more last =
        subst (λ (n : Option ChainRest). StandsAfter a.built.kind (plain_of a.built) (q a inv more) (pending a.built chains n) inv.past.node (place a inv))
        is (inv.past.after more last)

    sound-at : IsRestBefore chains i.begun (Some r)
    sound-at = subst (IsRestBefore chains i.begun) is inv.past.sound

    near-at : kept ≤ i.begun
    near-at = subst (λ (n : Option ChainRest). IfSome n (λ r. kept ≤ i.begun)) is inv.past.near

    abbrev end : ℕ
    end = r.base + found.end

    abbrev known : Occurrence
    known = place_of a.built end found.pattern

    end-within : end ≤ length bytes
    end-within =
        let h = known-high a on chains (q a inv []) (search-is a inv []) refl inv.past.node (place a inv) r (stands-at [] (none-more a inv)) found there in
        let l = length-append bytes [] in omega arith

    begins : i.begun < end
    begins = known-onward a on chains (q a inv []) (search-is a inv []) refl inv.past.node (place a inv) r (stands-at [] (none-more a inv)) found there

    known-picks : (more : List ℕ) → (phase ≡ Ended → more ≡ []) → pick a.built.kind (q a inv more) ≡ Some known
    known-picks more last = picks-known a on chains (q a inv more) (search-is a inv more) refl inv.past.node (place a inv) r (stands-at more last) found there

    known-beyond : kept ≤ known.start
    known-beyond =
        let n = near-at in let o = (pick-Occurs a.built.kind (q a inv []) known (known-picks [] (none-more a inv))).from_low in omega arith

    known-next : (more : List ℕ) → (phase ≡ Ended → more ≡ [])
        → StandsAfter a.built.kind (plain_of a.built) (stream_from a.built (bytes ++ more) end)
        (pending a.built chains (Some (next a.built chains r))) inv.past.node (place a inv)
    known-next more last = goes-known a on chains (q a inv more) (search-is a inv more) refl inv.past.node (place a inv) r (stands-at more last) found there

    -- it has read as far as the match ends
    known-read : end ≤ (place a inv)
    known-read =
        let l = length-append bytes [] in
        let low = after-low a.built.kind (plain_of a.built) (on-leftmost a.built on) (on-some a.built on)
        (stream_from a.built (bytes ++ []) end) (pending a.built chains (Some (next a.built chains r))) inv.past.node (place a inv)
        (search-from a.built.kind (plain_of a.built) (on-some a.built on) (q a inv []) end (search-is a inv []) (let b = begins in omega arith)
        (let w = end-within in omega arith)) (known-next [] (none-more a inv)) in
        let up = (known-next [] (none-more a inv)).within in omega arith

    streams-past : IsStreaming (a.stands No) chains (record i { rest = Some (next a.built chains r); begun = end })
        (record v { given = given + 1; kept = end })
    streams-past =
        streams-then inv known known-picks known-beyond unfailed i.state i.at (Some (next a.built chains r)) inv.within known-read
        (record {
          node = inv.past.node;
          there = inv.past.there;
          after = known-next;
          sound = (sound-at.0, (let s = sound-at.1 in let b = begins in omega arith));
          near = omega arith;
          first = λ standard. absurd (never-standard a.built.kind leftmost standard);
        })

    gives-past : GivesMatch v known (record v { given = given + 1; kept = end })
    gives-past = gives inv known known-picks known-beyond unfailed

    numbered : found.pattern < length a.built.patterns
    numbered = known-numbered a on chains (q a inv []) (search-is a inv []) refl inv.past.node (place a inv) r (stands-at [] (none-more a inv)) found there

    within : length (pattern_of a.built.patterns found.pattern) ≤ r.base + found.end
    within = known-within a on chains (q a inv []) (search-is a inv []) refl inv.past.node (place a inv) r (stands-at [] (none-more a inv)) found there

  -- so it may be taken
  pub may-take-known : IfSome i.rest (MayTakeFrom a.built chains)
  may-take-known = by i.rest refl
    where
      by : (rest : Option ChainRest) → i.rest ≡ rest → IfSome rest (MayTakeFrom a.built chains)
      by None is = tt
      by (Some r) is = record {
        chained = (subst (IsRestBefore chains i.begun) is inv.past.sound).0;
        each = λ found there.
            let w = end-within r is found there in let b = begins r is found there in let s = inv.small in
            let x = (subst (IsRestBefore chains i.begun) is inv.past.sound).1 in
            record {
              numbered = numbered r is found there;
              within = within r is found there;
              small = omega arith;
              more = omega arith;
            };
      }

  -- and is given, by where it ends and how many were given then
  module _ (m : Occurrence) (rest : Option ChainRest) (takes : (r : ChainRest) × (i.rest ≡ Some r) × TakesFrom a.built chains r m rest)
      (begun kept' given' : ℕ) (begins-at : begun ≡ m.end) (is_kept : kept' ≡ m.end) (one_more : given' ≡ given + 1) where
    abbrev ends-at : ℕ
    ends-at = takes.0.base + takes.2.found.end

    end-is : m.end ≡ ends-at
    end-is = ap (λ (o : Occurrence). o.end) takes.2.stands

    pub streams-known : IsStreaming (a.stands No) chains (record i { rest = rest; begun = begun })
        (record v { given = given'; kept = kept' })
    streams-known =
        rw (takes.2.left, begins-at ∙ end-is, is_kept ∙ end-is, one_more)
        (streams-past takes.0 takes.1 takes.2.found takes.2.there)

    pub gives-known : GivesMatch v m (record v { given = given'; kept = kept' })
    gives-known =
        rw (takes.2.stands, is_kept ∙ end-is, one_more) (gives-past takes.0 takes.1 takes.2.found takes.2.there)
