-- A walk that reads each byte once gives the match that comes next in its chain.
use Rattle.ac_util.proofs.Prelude.{◌≡◌, ℕ, ◌+◌, ◌-◌, ◌<◌, ◌≤◌, Bool, true, List, [], length, slice_get, refl, sym, subst, arith, Option, None, Some, IfSome, MatchOption, common_steps}
use Rattle.ac_automaton.specs.Prelude.{IsSearchFor, Counts, No, Occurrence, pattern_of, Search, usize_max, AutomatonView, Cursor, place_of, plain_of, search_of, Work, chain_at, reads_on, MayTakeFrom, pending, TakesKnown, IsCounted, IsOnward, IsRestBefore, ChainMatch, ChainRest}
use Rattle.ac_automaton.proofs.OnwardEnds.{HasGiven}
use Rattle.ac_automaton.proofs.PastGives.{goes-known, known-high, known-numbered, known-onward, known-within, next, onward, picks-known}
use Rattle.ac_automaton.proofs.OnwardGives.{within-end}

-- what is counted, where a match is given that was known
counted-known : {most : ℕ} {skips : Bool} {start to owed : ℕ} (low end : ℕ) {counts : Counts}
    → IsCounted most skips start to owed (low - start + 0) counts → low ≤ end
    → IsCounted most skips start to owed (end - start + 0) counts
counted-known low end counted onward = grind (arith, common_steps)

-- a walk gives the match that comes next in its chain
module _ (a : AutomatonView) (on : reads_on a.built ≡ true) (chains : List (List ChainMatch)) (bytes : List ℕ)
    (low end start : ℕ) (inside : end ≤ length bytes) (rest : ChainRest) {cursor : Cursor} {byte : Option ℕ} {work : Work}
    (onward : IsOnward a (search_of a.built No bytes low end) start (pending a.built chains (Some rest)) cursor byte work)
    (sound : IsRestBefore chains low (Some rest))
    (found : ChainMatch) (there : slice_get (chain_at chains rest.chain) rest.index ≡ Some found) where
  abbrev searched : Search
  searched = search_of a.built No bytes low end

  searched-is : IsSearchFor (plain_of a.built) searched
  searched-is = record { free = refl; ordered = onward.ordered; inside = inside; same = refl }

  pub chain-numbered : found.pattern < length a.built.patterns
  chain-numbered = known-numbered a on chains searched searched-is refl onward.node cursor.at rest onward.stands.after found there

  pub chain-within : length (pattern_of a.built.patterns found.pattern) ≤ rest.base + found.end
  chain-within = known-within a on chains searched searched-is refl onward.node cursor.at rest onward.stands.after found there

  pub chain-high : rest.base + found.end ≤ end
  chain-high = known-high a on chains searched searched-is refl onward.node cursor.at rest onward.stands.after found there

  pub chain-index : rest.index ≤ end
  chain-index = let i = sound.1 in let o = searched-is.ordered in omega arith

  chain-onward : low < rest.base + found.end
  chain-onward = known-onward a on chains searched searched-is refl onward.node cursor.at rest onward.stands.after found there

  pub chain-given : HasGiven a chains searched start (Some (place_of a.built (rest.base + found.end) found.pattern))
      (Some (next a.built chains rest)) cursor byte work
  chain-given = record {
    answer = sym (picks-known a on chains searched searched-is refl onward.node cursor.at rest onward.stands.after found there);
    place = within-end bytes byte onward.stands.after.inside onward.stands.hand onward.unread;
    looks = (let p = onward.counted.paid in omega arith);
    goes = (
      (sound.0, (let i = sound.1 in let o = chain-onward in omega arith)),
      record {
        node = onward.node;
        stands = record {
          there = onward.stands.there;
          after = goes-known a on chains searched searched-is refl onward.node cursor.at rest onward.stands.after found there;
          hand = onward.stands.hand;
        };
        counted = counted-known low (rest.base + found.end) onward.counted (let o = chain-onward in omega arith);
        unread = onward.unread;
        begun = (let b = onward.begun in let o = chain-onward in omega arith);
        ordered = chain-high;
      },
    );
  }

-- a walk may take the next match of its chain, if one is left
module _ (a : AutomatonView) (on : reads_on a.built ≡ true) (chains : List (List ChainMatch)) (bytes : List ℕ)
    (low end start : ℕ) (inside : end ≤ length bytes) (rest : Option ChainRest) {cursor : Cursor} {byte : Option ℕ} {work : Work}
    (onward : IsOnward a (search_of a.built No bytes low end) start (pending a.built chains rest) cursor byte work)
    (sound : IsRestBefore chains low rest) where
  pub may-take : end < usize_max → IfSome rest (MayTakeFrom a.built chains)
  may-take small = by rest onward sound
    where
      by : (r : Option ChainRest) → IsOnward a (search_of a.built No bytes low end) start (pending a.built chains r) cursor byte work
          → IsRestBefore chains low r → IfSome r (MayTakeFrom a.built chains)
      by None o s = tt
      by (Some r) o s = record {
        chained = s.0;
        each = λ found there.
            let high = chain-high a on chains bytes low end start inside r o s found there in
            let index = chain-index a on chains bytes low end start inside r o s found there in
            record {
              numbered = chain-numbered a on chains bytes low end start inside r o s found there;
              within = chain-within a on chains bytes low end start inside r o s found there;
              small = omega arith;
              more = omega arith;
            };
      }

  -- and then has given that, or had none to give
  pub takes-next : (result : Option Occurrence) (new : Option ChainRest) → TakesKnown a.built chains rest result new
      → MatchOption result (IsOnward a (search_of a.built No bytes low end) start [] cursor byte work)
      (λ m. HasGiven a chains (search_of a.built No bytes low end) start (Some m) new cursor byte work)
  takes-next None new takes =
      subst (λ (ms : List Occurrence). IsOnward a (search_of a.built No bytes low end) start ms cursor byte work) takes.1 onward
  takes-next (Some m) new (r, is, takes) =
      subst (λ (o : Occurrence). HasGiven a chains (search_of a.built No bytes low end) start (Some o) new cursor byte work)
      (sym takes.stands)
      (subst (λ (n : Option ChainRest). HasGiven a chains (search_of a.built No bytes low end) start
      (Some (place_of a.built (r.base + takes.found.end) takes.found.pattern)) n cursor byte work) (sym takes.left)
      (chain-given a on chains bytes low end start inside r
      (subst (λ (n : Option ChainRest). IsOnward a (search_of a.built No bytes low end) start (pending a.built chains n) cursor byte work)
      is onward) (subst (IsRestBefore chains low) is sound) takes.found takes.there))
