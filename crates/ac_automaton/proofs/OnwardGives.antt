-- What a walk gives that reads each byte once, and that it goes on from there.
use Rattle.ac_util.proofs.Prelude.{◌≡◌, ◌⊎◌, ℕ, ◌+◌, ◌-◌, ◌*◌, ◌<◌, ◌≤◌, ◌==◌, if◌then◌else◌, Bool, true, false, List, [], ◌∷◌, length, drop, map, slice_get, slice_index, refl, ap, sym, ◌∙◌, subst, arith, Option, None, Some, IfSome, MatchOption, option_map, inl, inr, drop-length, false≢true, common_steps}
use Rattle.ac_automaton.specs.Prelude.{step, standing_at, IsPickIn, IsSearchFor, Commits, Anything, StandsAfter, Counts, credit, No, Occurrence, plain_byte, Search, AutomatonView, Cursor, matches_of, place_of, plain_of, search_of, step_of, Work, ending_in, IsCommit, reads_on, chain_of, first_given, GivesAt, IsGiven, HasCounted, IsCounted, IsRestBefore, in_hand, tried, scan_of, ChainMatch, Commit, ChainRest, Given}
use Rattle.ac_util.proofs.Commits.{commits-nil}
use Rattle.ac_util.proofs.NodeCommits.{node-paid, node-shorter}
use Rattle.ac_util.proofs.NodePicks.{match-picked}
use Rattle.ac_util.proofs.Onward.{byte_at}
use Rattle.ac_util.proofs.SearchLoop.{step-paid}
use Rattle.ac_automaton.proofs.OnwardEnds.{HasGiven, HasStopped}
use Rattle.ac_automaton.proofs.OnwardLists.{on-leftmost, on-some}
use Rattle.ac_automaton.proofs.PastGives.{ends-there, goes-on, has-bytes, never-dead, onward, picks-first, rest-within}

-- of a state with matches the first one is given, and of one without none
pub first-of : (start : ℕ) (listed : List ℕ) {p : ℕ} → slice_get listed 0 ≡ Some p
    → Some (record { pattern = p; rest = 0; next = start; chain = None }) ≡ first_given start listed
first-of start listed first =
    sym (ap (option_map (λ (p : ℕ). record { pattern = p; rest = 0; next = start; chain = None })) first)

pub none-of : (start : ℕ) (listed : List ℕ) → listed ≡ [] → None ≡ first_given start listed
none-of start listed none = sym (ap (first_given start) none)

-- what is given, whether it stops at a match or not
pub gives-at : (a : AutomatonView) (chains : List (List ChainMatch)) (start s : ℕ) (stops : Bool) {result : Option Given}
    → (stops ≡ true → result ≡ first_given start (a.listed s))
    → (stops ≡ false → (u : List ℕ) → a.stands No s (Some u)
    → MatchOption result (IsPickIn a.built.kind (plain_of a.built) No u None) (IsGiven a chains u))
    → GivesAt a chains start stops s result
gives-at a chains start s true first past = first refl
gives-at a chains start s false first past = past refl

pub gives-past : (a : AutomatonView) (chains : List (List ChainMatch)) (start s : ℕ) (stops : Bool) (result : Option Given)
    → stops ≡ false → GivesAt a chains start stops s result → (u : List ℕ) → a.stands No s (Some u)
    → MatchOption result (IsPickIn a.built.kind (plain_of a.built) No u None) (IsGiven a chains u)
gives-past a chains start s true result past gives = absurd (false≢true (sym past))
gives-past a chains start s false result past gives = gives

pub gives-first : (a : AutomatonView) (chains : List (List ChainMatch)) (start s : ℕ) (stops : Bool) (result : Option Given)
    → stops ≡ true → GivesAt a chains start stops s result → result ≡ first_given start (a.listed s)
gives-first a chains start s true result first gives = gives
gives-first a chains start s false result first gives = absurd (false≢true first)

module _ (a : AutomatonView) (on : reads_on a.built ≡ true) (chains : List (List ChainMatch)) where
  -- a state with matches gives the first of them, and goes on at the start
  pub given-match : {start s p : ℕ} (u : List ℕ) → a.stands No start (Some []) → a.listed s ≡ matches_of a.built No (Some u)
      → slice_get (a.listed s) 0 ≡ Some p → IsGiven a chains u (record { pattern = p; rest = 0; next = start; chain = None })
  given-match {start} {s} {p} u starts lists first = by (a.listed s) lists first
    where
      by : (listed : List ℕ) → listed ≡ matches_of a.built No (Some u) → slice_get listed 0 ≡ Some p
          → IsGiven a chains u (record { pattern = p; rest = 0; next = start; chain = None })
      by [] is e = absurd (cc)
      by (i ∷ others) is e =
          let ends = match-picked a.built.kind (plain_of a.built) (on-leftmost a.built on) u i others (sym is) in
          record {
            picked = standing_at (plain_of a.built) i ends.start;
            number = (let same : i ≡ p = cc in same);
            rest = (let whole = ends.whole in omega arith);
            chained = tt;
            node = [];
            stands = starts;
            gives = record {
              picked = ends.picked;
              rest = subst (λ (w : List ℕ). Commits a.built.kind (plain_of a.built) w Anything [] [])
                  (sym (ap (λ (k : ℕ). drop k u) ends.whole ∙ drop-length u))
                  (commits-nil a.built.kind (plain_of a.built) (on-leftmost a.built on) (on-some a.built on));
            };
          }

  -- and one with a commit what that says
  pub given-commit : (u : List ℕ) (commit : Commit) → IsCommit a chains u commit
      → IsGiven a chains u (record { pattern = commit.pattern; rest = commit.rest; next = commit.next; chain = Some commit.chain })
  given-commit u commit is = record {
    picked = is.picked;
    number = is.number;
    rest = is.rest;
    chained = is.chained;
    node = is.node;
    stands = is.stands;
    gives = is.gives;
  }

-- a shorter node is worth no more
credit-shorter : (most : ℕ) (u v : List ℕ) → length u ≤ length v → credit most (Some u) ≤ credit most (Some v)
credit-shorter most u v short = by (most == 1)
  where
    by : (t : Bool) → (if t then 0 else length u) ≤ (if t then 0 else length v)
    by true = omega arith
    by false = short

-- what is counted, where a match is given that ends past the one before
counted-given : {most : ℕ} {skips : Bool} {start to : ℕ} (here there hand low end tries : ℕ) {counts : Counts}
    → IsCounted most skips start to (here + hand) (low - start + tries) counts → tries + there ≤ here + 1 → low < end
    → start ≤ low → IsCounted most skips start to (there + hand) (end - start + 0) counts
counted-given here there hand low end tries counted paid onward begun = grind (arith, common_steps)

-- a walk has come no further than to the end of its span
pub within-end : {at end place : ℕ} (bytes : List ℕ) (hand : Option ℕ) → at ≤ end
    → IfSome hand (λ b. (at < end) × (b ≡ slice_index bytes at)) → place ≤ at + in_hand hand → place ≤ end
within-end bytes None up h unread = omega arith
within-end bytes (Some b) up h unread = let before = h.0 in omega arith

-- a walk that reads on no further gives what is picked in its node
module _ (a : AutomatonView) (on : reads_on a.built ≡ true) (chains : List (List ChainMatch)) (bytes : List ℕ)
    (low end start : ℕ) (inside : end ≤ length bytes) {cursor : Cursor} {byte : Option ℕ} {work : Work}
    (stopped : HasStopped a (search_of a.built No bytes low end) start cursor byte work) where
  abbrev q : Search
  q = search_of a.built No bytes low end

  abbrev v : List ℕ
  v = stopped.node

  here : StandsAfter a.built.kind (plain_of a.built) q [] v cursor.at
  here = stopped.stands.after

  is : IsSearchFor (plain_of a.built) q
  is = record { free = refl; ordered = (let w = here.within in let i = here.inside in omega arith); inside = inside; same = refl }

  place-within : work.place ≤ end
  place-within = within-end bytes byte here.inside stopped.stands.hand stopped.unread

  -- the byte that comes leads to the dead node, or the span ends
  over : (cursor.at ≡ end) ⊎ ((cursor.at < end) × (step a.built.kind (plain_of a.built) No (Some v) (byte_at q cursor.at) ≡ None))
  over = by byte stopped.stands.hand stopped.over
    where
      by : (hand : Option ℕ) → IfSome hand (λ b. (cursor.at < end) × (b ≡ slice_index bytes cursor.at))
          → MatchOption hand (cursor.at ≡ end) (λ b. step_of a.built No (Some v) b ≡ None)
          → (cursor.at ≡ end) ⊎ ((cursor.at < end) × (step a.built.kind (plain_of a.built) No (Some v) (byte_at q cursor.at) ≡ None))
      by None h ends = inl ends
      by (Some b) h dead = inr (h.0, ap (λ (x : ℕ). step_of a.built No (Some v) x) (sym h.1) ∙ dead)

  -- where nothing is picked in the node the walk has ended
  pub given-none : IsPickIn a.built.kind (plain_of a.built) No v None → (rest : Option ChainRest) (new_cursor : Cursor) (new_byte : Option ℕ)
      → HasGiven a chains q start None rest new_cursor new_byte work
  given-none none rest new_cursor new_byte = by byte stopped.stands.hand stopped.over stopped.counted
    where
      by : (hand : Option ℕ) → IfSome hand (λ b. (cursor.at < end) × (b ≡ slice_index bytes cursor.at))
          → MatchOption hand (cursor.at ≡ end) (λ b. step_of a.built No (Some v) b ≡ None)
          → HasCounted a q start cursor hand v (tried (scan_of a No false) v hand) work.counts
          → HasGiven a chains q start None rest new_cursor new_byte work
      by None h ends counted = record {
        answer = sym (ends-there a on chains q is refl v cursor.at here ends none);
        place = place-within;
        looks = (let p = counted.paid in omega arith);
        goes = grind (arith, common_steps, ends, counted);
      }
      by (Some b) h dead counted =
          absurd (never-dead a on chains q is refl v cursor.at here h.0
          (ap (λ (x : ℕ). step_of a.built No (Some v) x) (sym h.1) ∙ dead) none)

  module _ (given : Given) (gives : IsGiven a chains v given) where
    abbrev base : ℕ
    base = cursor.at - given.rest

    given-rest : given.rest ≤ cursor.at
    given-rest = rest-within a on chains q is refl v cursor.at here given gives

    -- each look is paid
    paid : tried (scan_of a No false) v byte + credit a.most (Some gives.node) ≤ credit a.most (Some v) + 1
    paid = by byte stopped.stands.hand stopped.over
      where
        ns : List Occurrence
        ns = map (ending_in a.built) (chain_of chains given.chain)

        by : (hand : Option ℕ) → IfSome hand (λ b. (cursor.at < end) × (b ≡ slice_index bytes cursor.at))
            → MatchOption hand (cursor.at ≡ end) (λ b. step_of a.built No (Some v) b ≡ None)
            → tried (scan_of a No false) v hand + credit a.most (Some gives.node) ≤ credit a.most (Some v) + 1
        by None h ends =
            let short = node-shorter a.built.kind (plain_of a.built) (on-leftmost a.built on) (on-some a.built on) v gives.picked
            ns gives.node Anything gives.gives in
            let less = credit-shorter a.most gives.node v (omega arith) in omega arith
        by (Some b) h dead =
            node-paid a.built.kind (plain_of a.built) (on-leftmost a.built on) (on-some a.built on) v gives.picked
            ns gives.node gives.gives (plain_byte a.built.ignores_case b)
            (has-bytes a on chains q is refl v cursor.at here given gives) dead a.most

    -- and was before it was given
    tried-paid : (a.most ≡ 1) ⊎ (a.most ≡ 2) → tried (scan_of a No false) v byte ≤ credit a.most (Some v) + a.most * in_hand byte
    tried-paid one_or_two = by byte
      where
        by : (hand : Option ℕ) → tried (scan_of a No false) v hand ≤ credit a.most (Some v) + a.most * in_hand hand
        by None = omega arith
        by (Some b) =
            let paid = step-paid a.most a.built.kind (plain_of a.built) No (Some v) (plain_byte a.built.ignores_case b) one_or_two in
            omega arith

    pub given-some : (a.most ≡ 1) ⊎ (a.most ≡ 2) → (rest : Option ChainRest)
        → rest ≡ option_map (λ (number : ℕ). record { chain = number; index = 0; base = base }) given.chain
        → HasGiven a chains q start (Some (place_of a.built base given.pattern)) rest (record { state = given.next; at = cursor.at }) byte work
    given-some one_or_two rest rest-is =
        let onward = onward a on chains q is refl v cursor.at here given gives over in
        record {
          answer = sym (picks-first a on chains q is refl v cursor.at here given gives over);
          place = place-within;
          looks = (let t = tried-paid one_or_two in let p = stopped.counted.paid in omega arith);
          goes = (
            sound rest rest-is,
            record {
              node = gives.node;
              stands = record {
                there = gives.stands;
                after = goes-on a on chains q is refl v cursor.at here given gives over rest rest-is;
                hand = stopped.stands.hand;
              };
              counted = counted-given (credit a.most (Some v)) (credit a.most (Some gives.node)) (a.most * in_hand byte) low base
                  (tried (scan_of a No false) v byte) stopped.counted paid onward stopped.begun;
              unread = stopped.unread;
              begun = (let b = stopped.begun in omega arith);
              ordered = (let r = given-rest in let h = here.inside in omega arith);
            },
          );
        }
      where
        sound : (rest : Option ChainRest)
            → rest ≡ option_map (λ (number : ℕ). record { chain = number; index = 0; base = base }) given.chain
            → IsRestBefore chains base rest
        sound rest e = subst (IsRestBefore chains base) (sym e) (by given.chain gives.chained)
          where
            by : (chain : Option ℕ) → IfSome chain (λ number. number < length chains)
                → IsRestBefore chains base (option_map (λ (number : ℕ). record { chain = number; index = 0; base = base }) chain)
            by None h = tt
            by (Some number) h = (h, omega arith)
