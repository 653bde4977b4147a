-- The search of a stream gives no match: as far as which place it is settled, and from where on bytes are kept.
use Rattle.ac_util.proofs.Prelude.{◌≡◌, ◌⊎◌, ℕ, ◌+◌, ◌-◌, ◌≤◌, true, List, length, take, max, inl, inr, refl, ap, sym, subst, ◌∙◌, arith, Option, Some, None, IfSome, slice_get, slice_get_within, rules, append-nil, common_steps}
use Rattle.ac_automaton.specs.Prelude.{CouldChange, CouldNextChange, IsAllGiven, is_leftmost, last_end, IsNear, IsSettledAt, IsSettledBy, Node, Occurrence, pick, Standard, stream_result, Ended, Failed, HasGivenSettled, Inside, IsSettledIn, IsStreaming, kept_from, Open, Phase, StandsPast, stream_from, Streaming, ChainMatch, ChainRest}
use Rattle.ac_util.proofs.Decided.{settled-at}
use Rattle.ac_util.proofs.Shortest.{longest-most, none-empty}
use Rattle.ac_util.proofs.Walks.{next-none, walk_after-None}
use Rattle.ac_automaton.proofs.StreamGiving.{settled-kind}
use Rattle.ac_automaton.proofs.StreamReserves.{most-few, most-leftmost}
use Rattle.ac_automaton.proofs.StreamRefusals.{allowed-some}

-- a search over a stream has searched all that was read
module _ {stands : ℕ → Node → Type 0} {chains : List (List ChainMatch)} {i : Inside} {v : Streaming}
    (inv : IsStreaming stands chains i v) (at : ℕ) (ahead : i.at ≤ at) (all : at ≡ i.filled) where
  end-is : v.front + at ≡ length v.bytes
  end-is = let e = inv.counted in let a = all in omega arith

  -- where nothing is picked all matches were given
  module _ (none : pick v.built.kind (stream_from v.built v.bytes i.begun) ≡ None) where
    whole-given : stream_result v.built v.bytes ≡ inv.given.matches
    whole-given = grind (arith, common_steps, append-nil v.bytes, none, append-nil inv.given.matches, walk_after-None, next-none)

    given-all : v.given ≡ length (stream_result v.built v.bytes)
    given-all = sym (ap length whole-given ∙ inv.given.count)

  -- of a stream that goes on no byte was given up that isn't far back
  back-open : (v.phase ≡ Ended → ⊥) → v.kept ≤ max i.begun (v.front + i.at - i.reserve)
  back-open open' = elim inv.back [ inl back ↦ back | inr over ↦ absurd (open' over.ended) ]

  abbrev pub kept_open : ℕ
  kept_open = max v.kept (v.front + at - i.reserve)

  -- and so there is no next one
  pub none-next : pick v.built.kind (stream_from v.built v.bytes i.begun) ≡ None → CouldNextChange v.built v.bytes v.given
  none-next none = by (slice_get (stream_result v.built v.bytes) v.given) refl
    where
      by : (r : Option Occurrence) → slice_get (stream_result v.built v.bytes) v.given ≡ r
          → IfSome r (CouldChange v.built v.bytes (last_end (take v.given (stream_result v.built v.bytes))))
      by None at = tt
      by (Some m) at =
          let within = slice_get_within (stream_result v.built v.bytes) v.given m at in let all = given-all none in absurd (omega arith)

  pub settles-standard : v.built.kind ≡ Standard → pick v.built.kind (stream_from v.built v.bytes i.begun) ≡ None
      → (v.phase ≡ Ended → ⊥) → IsSettledBy v.built.kind v.built v.bytes v.given kept_open
  settles-standard standard none open' = search (rules, back-open, end-is, given-all none, whole-given none)

  pub settles-leftmost : is_leftmost v.built.kind ≡ true
      → ((m : Occurrence) → pick v.built.kind (stream_from v.built v.bytes i.begun) ≡ Some m → kept_open ≤ m.start)
      → (v.phase ≡ Ended → ⊥) → IsSettledBy v.built.kind v.built v.bytes v.given kept_open
  settles-leftmost first starts-beyond open' =
      let r = inv.reserve ∙ most-leftmost v.built first in let e = end-is in let k = inv.kept_within in
      let b = back-open open' in let a = inv.after in
      settled-kind v.built v.bytes v.given kept_open v.built.kind first
      (subst (λ (n : ℕ). IsSettledAt v.built v.bytes n kept_open) inv.given.count
      (settled-at v.built first v.bytes
      (λ n numbered. none-empty v.built.patterns n (allowed-some v.built inv.allowed) numbered)
      inv.given.matches i.begun kept_open inv.given.last
      (λ more. inv.given.walks more (λ ended. absurd (open' ended))) inv.given.end (omega arith) (omega arith)
      (λ place from_begun before opens.
      let long = longest-most v.built.patterns opens.number opens.numbered in let longer = opens.longer in
      absurd (omega arith))
      starts-beyond))

  -- and all that is settled was given
  module _ (read : i.begun ≤ v.front + at)
      (settles : (v.phase ≡ Ended → ⊥) → IsSettledBy v.built.kind v.built v.bytes v.given kept_open)
      (ends : v.phase ≡ Ended → pick v.built.kind (stream_from v.built v.bytes i.begun) ≡ None)
      (next : CouldNextChange v.built v.bytes v.given) where
    -- by what its phase asks for
    record IsKept (p : Phase) (kept : ℕ) : Type 0 where
      settled : IsSettledIn p v.built v.bytes v.given kept
      near : IsNear v.built v.bytes kept
      onward : v.kept ≤ kept
      within : kept ≤ length v.bytes
      back : (kept ≤ max i.begun (v.front + at - i.reserve)) ⊎ (p ≡ Ended)

    is-kept-open : (p : Phase) → v.phase ≡ p → (p ≡ Ended → ⊥)
        → IsSettledIn p v.built v.bytes v.given kept_open → IsKept p kept_open
    is-kept-open p is open' settled' =
        let b = back-open (λ ended. open' (sym is ∙ ended)) in let e = end-is in let k = inv.kept_within in
        let f = most-few v.built in let r = inv.reserve in let w = inv.after in let o = ahead in
        record {
          settled = settled';
          near = omega arith;
          onward = omega arith;
          within = omega arith;
          back = inl (omega arith);
        }

    is-kept : IsKept v.phase (kept_from v.phase kept_open (v.front + at))
    is-kept = by v.phase refl
      where
        by : (p : Phase) → v.phase ≡ p → IsKept p (kept_from p kept_open (v.front + at))
        by Open is =
            is-kept-open Open is (λ no. absurd (cc)) (settles (λ ended. absurd (let no = sym is ∙ ended in cc)))
        by Failed is =
            is-kept-open Failed is (λ no. absurd (cc)) (settles (λ ended. absurd (let no = sym is ∙ ended in cc)))
        by Ended is =
            let e = end-is in let k = inv.kept_within in
            record {
              settled = (given-all (ends is), e);
              near = omega arith;
              onward = omega arith;
              within = omega arith;
              back = inr refl;
            }

    -- given by the place from which on bytes are kept then
    module _ (kept : ℕ) (is : kept ≡ kept_from v.phase kept_open (v.front + at)) where
      kept-so : IsKept v.phase kept
      kept-so = subst (IsKept v.phase) (sym is) is-kept

      all-given : IsAllGiven (record v { kept = kept })
      all-given = record { settled = kept-so.settled; near = kept-so.near; next = next; within = kept-so.within }

      pub gives-settled : HasGivenSettled v (record v { kept = kept })
      gives-settled = record { all = all-given; same = refl; onward = kept-so.onward }

      pub streams-on : (state : ℕ) (rest : Option ChainRest)
          → StandsPast stands chains (record i { state = state; at = at; rest = rest }) (record v { kept = kept })
          → IsStreaming stands chains (record i { state = state; at = at; rest = rest }) (record v { kept = kept })
      streams-on state rest past = record {
        allowed = inv.allowed;
        starts = inv.starts;
        stops = inv.stops;
        reserve = inv.reserve;
        filled = inv.filled;
        counted = inv.counted;
        small = inv.small;
        holds = inv.holds;
        within = (let a = all in omega arith);
        read = read;
        past = past;
        given = inv.given;
        all = inv.all;
        failed = λ failed. all-given;
        few = inv.few;
        in_buffer = (let f = inv.in_buffer in let o = kept-so.onward in omega arith);
        after = (let f = inv.after in let o = kept-so.onward in omega arith);
        kept_within = kept-so.within;
        back = elim kept-so.back [
          | inl back ↦ inl back
          | inr ended ↦ inr (record { ended = ended; whole = all; none = ends ended })
        ];
      }
