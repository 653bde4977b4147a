-- The search of a stream under Standard gives no match of the state to which it has come: then it has searched all that was read.
use Rattle.ac_util.proofs.Prelude.{◌≡◌, ◌⊎◌, ℕ, ◌+◌, ◌<◌, ◌≤◌, true, List, [], ◌∷◌, length, slice_index, inl, inr, refl, ap, sym, subst, ◌∙◌, arith, Option, Some, None, IfSome, append-nil}
use Rattle.ac_automaton.specs.Prelude.{step, StandsAfter, No, Node, Occurrence, pick, Search, Standard, AutomatonView, Cursor, Inside, IsStreaming, matches_of, node_at, Phase, plain_of, step_of, stream_from, Streaming, first_given, pending, IsRestBefore, streaming_by, StopsAt, scan_of, ChainMatch, ChainRest}
use Rattle.ac_util.proofs.Living.{dead-picked}
use Rattle.ac_automaton.proofs.LedWalks.{byte-is}
use Rattle.ac_automaton.proofs.StreamKeeping.{none-next, settles-standard}
use Rattle.ac_automaton.proofs.StreamReads.{at, begun-before, comes, hand-there, HoldsBack, IsReadOn, none-more, of-search, onward, q, read-enough, stands-there, u, within-buffer}
use Rattle.ac_automaton.proofs.StreamFirst.{lists-there, node-next, picked-next, picked-there}

module _ (a : AutomatonView) {bytes : List ℕ} {given front kept : ℕ} {phase : Phase} {buffer : ℕ} {chains : List (List ChainMatch)}
    {i : Inside} (inv : IsStreaming (a.stands No) chains i (streaming_by a.built bytes given front kept phase buffer))
    {there : Cursor} {byte : Option ℕ} (on : IsReadOn a chains i there byte) (standard : a.built.kind ≡ Standard)
    (first : i.stops ≡ true) where
  abbrev v : Streaming
  v = streaming_by a.built bytes given front kept phase buffer

  -- what was read so far, as far as an offset
  abbrev so-far : ℕ → Search
  so-far k = record (q a inv []) { high = k }

  abbrev picked : ℕ → Option Occurrence
  picked k = pick a.built.kind (so-far k)

  abbrev node : ℕ → Node
  node k = node_at a.built.kind (q a inv []) k

  module _ (lists : (u : Node) → a.stands No there.state u → a.listed there.state ≡ matches_of a.built No u) where
    -- the state to which it has come has no match
    module _ (nothing : None ≡ first_given i.start (a.listed there.state)) where
      no-match : a.listed there.state ≡ []
      no-match = by (a.listed there.state) nothing
        where
          by : (ns : List ℕ) → None ≡ first_given i.start ns → ns ≡ []
          by [] is = refl
          by (n ∷ ns) is = absurd (cc)

      none-there : picked (at a inv on) ≡ None
      none-there = picked-there a inv on standard first [] (sym (lists-there a inv on standard first lists) ∙ no-match)

      -- no byte leads to the dead node
      whole : i.filled ≤ there.at
      whole = by byte (hand-there a inv on) (comes a inv on).dead (read-enough a inv on)
        where
          by : (b : Option ℕ) → IfSome b (λ b. (there.at < i.filled) × (b ≡ slice_index on.shown there.at))
              → IfSome b (λ b. step_of a.built No (Some (u a inv on)) b ≡ None)
              → (b ≡ None → (i.filled ≤ there.at) ⊎ StopsAt (scan_of a No i.stops) there.state) → i.filled ≤ there.at
          by None hand dead enough = elim (enough refl) [
            | inl over ↦ over
            | inr stopped ↦ absurd (stopped.1 no-match)
          ]
          by (Some b) hand dead enough = absurd (never-dead b hand.0 hand.1 dead)
            where
              never-dead : (b : ℕ) → there.at < i.filled → b ≡ slice_index on.shown there.at
                  → step_of a.built No (Some (u a inv on)) b ≡ None → ⊥
              never-dead b before is dead =
                  let c = inv.counted in let l = ap length (append-nil bytes) in let s = begun-before a inv on in
                  let gone : node (at a inv on + 1) ≡ None =
                  node-next a inv on standard first (at a inv on) s (omega arith) (u a inv on) (stands-there a inv on [] (none-more a inv)).stands
                  (ap (λ (k : ℕ). step a.built.kind (plain_of a.built) No (Some (u a inv on)) k)
                  (byte-is a i.stops (of-search a inv on []) there.at b before is) ∙ dead) in
                  dead-picked a.built.kind (so-far (at a inv on + 1)) refl (omega arith) (omega arith) gone a.built.kind
                  (picked-next a inv on standard first (at a inv on) s (omega arith) none-there [] (ap (matches_of a.built No) gone))

      all : there.at ≡ i.filled
      all = let w = within-buffer a inv on in let r = whole in omega arith

      picks-none : pick a.built.kind (stream_from a.built bytes i.begun) ≡ None
      picks-none =
          let e = all in let c = inv.counted in
          let end : length bytes ≡ at a inv on = omega arith in
          ap (λ (k : ℕ). pick a.built.kind (record (stream_from a.built bytes i.begun) { high = k })) end
          ∙ sym (ap (λ (bs : List ℕ). pick a.built.kind (record (stream_from a.built bs i.begun) { high = at a inv on })) (append-nil bytes))
          ∙ none-there

      pub holds-first : HoldsBack a chains i v inv there
      holds-first = record {
        ahead = onward a inv on;
        all = all;
        begun = begun-before a inv on;
        settles = settles-standard inv there.at (onward a inv on) all standard picks-none;
        ends = λ ended. picks-none;
        next = none-next inv there.at (onward a inv on) all picks-none;
        stands = λ kept' rest none. record {
          node = u a inv on;
          there = (comes a inv on).there;
          after = λ more last.
              subst (λ (n : Option ChainRest). StandsAfter a.built.kind (plain_of a.built) (q a inv more) (pending a.built chains n)
              (u a inv on) (at a inv on)) (sym none) (stands-there a inv on more last);
          sound = subst (IsRestBefore chains i.begun) (sym none) tt;
          near = subst (λ (n : Option ChainRest). IfSome n (λ r. kept' ≤ i.begun)) (sym none) tt;
          first = λ standard'. record {
            left = none;
            none = sym (ap (λ (bs : List ℕ). pick a.built.kind (record (stream_from a.built bs i.begun) { high = at a inv on })) (append-nil bytes))
                ∙ none-there;
          };
        };
      }
