-- A walk that reads each byte once by a single pattern, and is at its start: its prefilter answers the next match.
use Rattle.ac_util.proofs.Prelude.{◌≡◌, ℕ, zero, suc, ◌+◌, ◌-◌, ◌*◌, ◌<◌, ◌≤◌, Bool, true, false, List, [], ◌∷◌, length, refl, ap, sym, ◌∙◌, subst, arith, Option, None, Some, rules, false≢true}
use Rattle.ac_automaton.specs.Prelude.{Built, Counts, credit, from, IsNeedleMatch, MatchKind, may_skip, No, Node, Occurrence, Occurs, one_more_call, participates, pick, reached, Search, search_over, Standard, text, Needle, IsPickIn, AutomatonView, Cursor, plain_of, search_of, Skips, Work, reads_on, IsCounted, IsOnward, ChainMatch, ChainRest}
use Rattle.std.specs.Option.{is_some}
use Rattle.ac_util.proofs.AtStart.{pick-rest}
use Rattle.ac_util.proofs.NodeRests.{pick-in_node, reached-rest}
use Rattle.ac_util.proofs.Onward.{after-start}
use Rattle.ac_util.proofs.Participants.{takes_part}
use Rattle.ac_util.proofs.PickedWalks.{pick-some}
use Rattle.ac_util.proofs.Spans.{Stands-from_Occurs}
use Rattle.ac_util.proofs.Standing.{Stands-end}
use Rattle.ac_util.proofs.Walks.{pick-Occurs}
use Rattle.ac_automaton.proofs.OnwardEnds.{HasGiven}
use Rattle.ac_automaton.proofs.OnwardLists.{on-leftmost, on-some}

-- each pattern of a list of one takes part
pub one-takes_part : (kind : MatchKind) (p : List ℕ) (n : ℕ) → n < 1 → participates kind (p ∷ []) n ≡ true
one-takes_part kind p zero within = takes_part (p ∷ []) kind zero refl
one-takes_part kind p (suc n) within = absurd (omega arith)

-- in the empty string nothing is picked
pub none-in : (built : Built) → reads_on built ≡ true → IsPickIn built.kind (plain_of built) No [] None
none-in built on n s stands =
    let some = on-some built on n stands.prefixes.numbered in
    let ends = Stands-end (plain_of built) No [] n s stands in omega arith

module _ (a : AutomatonView) (on : reads_on a.built ≡ true) {needle : List ℕ} (skips : Skips a.wants_prefilter a.built (Needle needle))
    (chains : List (List ChainMatch)) (bytes : List ℕ) (low end start : ℕ) (inside : end ≤ length bytes) where
  abbrev q : Search
  q = search_of a.built No bytes low end

  abbrev patterns : List (List ℕ)
  patterns = plain_of a.built

  may : may_skip a.wants_prefilter q ≡ true
  may = ap is_some skips.built_so

  -- it is the only pattern, so it takes part
  all : (n : ℕ) → n < length a.built.patterns → participates a.built.kind patterns n ≡ true
  all n within = search (rules, one-takes_part)

  module _ {state at : ℕ} {work : Work} (onward : IsOnward a q start [] (record { state = state; at = at }) None work)
      (at-start : (u : Node) → a.stands No state u → u ≡ Some []) (before : at < end) where
    node-is : onward.node ≡ []
    node-is = let same = at-start (Some onward.node) onward.stands.there in cc

    abbrev read : Search
    read = record q { high = at }

    at-node : reached a.built.kind patterns No (text read) ≡ Some []
    at-node = onward.stands.after.stands ∙ ap (λ (u : List ℕ). Some u) node-is

    low-at : low ≤ at
    low-at = onward.stands.after.within

    -- nothing occurs in what was read
    nothing : (m : Occurrence) → ¬ Occurs read m
    nothing m occurs =
        let rest = reached-rest a.built.kind patterns (text read) [] at-node in
        pick-in_node a.built.kind patterns (on-leftmost a.built on) (text read) [] rest.0 rest.1 at-node None (none-in a.built on) m.pattern
        (m.start - low) (Stands-from_Occurs read low-at (omega arith) m occurs)

    -- so the pick is that of the rest, which the prefilter answers
    pick-is : (r : Option Occurrence) → IsNeedleMatch needle bytes at end r → pick a.built.kind q ≡ r
    pick-is r found =
        sym (pick-rest a.built.kind q refl at low-at (omega arith) inside all at-node nothing a.built.kind)
        ∙ ap (λ (ps : List (List ℕ)). pick a.built.kind (record {
          patterns = ps;
          ignores_case = a.built.ignores_case;
          haystack = bytes;
          anchored = No;
          low = at;
          high = end;
        })) skips.serves.1
        ∙ ap (λ (t : Bool). pick a.built.kind (record {
          patterns = needle ∷ [];
          ignores_case = t;
          haystack = bytes;
          anchored = No;
          low = at;
          high = end;
        })) skips.serves.0
        ∙ found a.built.kind

    counted : IsCounted a.most (may_skip a.wants_prefilter q) start (at + 0) (credit a.most (Some []) + a.most * 0)
        (low - start + 0) work.counts
    counted =
        subst (λ (u : List ℕ). IsCounted a.most (may_skip a.wants_prefilter q) start (at + 0) (credit a.most (Some u) + a.most * 0)
        (low - start + 0) work.counts) node-is onward.counted

    module _ {new_counts : Counts} (called : new_counts ≡ one_more_call work.counts) where
      abbrev new_work : Work
      new_work = record { place = work.place; counts = new_counts }

      -- what is counted then, at an offset past the call
      counted-past : (to most-low : ℕ) → at < to → low ≤ most-low
          → IsCounted a.most (may_skip a.wants_prefilter q) start (to + 0) (credit a.most (Some []) + a.most * 0)
          (most-low - start + 0) new_counts
      counted-past to most-low moved up =
          let c = counted in let k = ap (λ (n : Counts). n.calls) called in let r = ap (λ (n : Counts). n.reads) called in
          let l = ap (λ (n : Counts). n.looks) called in let b = onward.begun in let w = low-at in
          record {
            reads = (let h = c.reads in omega arith);
            whole = λ zero. absurd (omega arith);
            calls = (let h = c.calls in omega arith);
            quiet = λ not. absurd (false≢true (sym not ∙ may));
            looked = (let h = c.looked in omega arith);
            paid = (let h = c.paid in let same = ap (λ (n : ℕ). a.most * n) r in omega arith);
          }

      -- so its looks are paid as they were before
      looks-paid : new_counts.looks ≤ a.most * new_counts.reads + (low - start)
      looks-paid = let p = (counted-past end low before (omega arith)).paid in omega arith

      -- where it answers none the walk has ended
      pub needle-none : IsNeedleMatch needle bytes at end None → (rest : Option ChainRest) (cursor : Cursor) (byte : Option ℕ)
          → HasGiven a chains q start None rest cursor byte new_work
      needle-none found rest cursor byte =
          let c = counted-past end low before (omega arith) in
          record {
            answer = sym (pick-is None found);
            place = (let u = onward.unread in omega arith);
            looks = looks-paid;
            goes = record {
              reads = (let h = c.reads in omega arith);
              whole = λ zero. let h = c.whole zero in omega arith;
              calls = (let h = c.calls in omega arith);
              quiet = c.quiet;
              looked = c.looked;
              paid = (let h = c.paid in omega arith);
            };
          }

      -- else its match is given, after which the walk is at its start
      pub needle-some : (m : Occurrence) → IsNeedleMatch needle bytes at end (Some m)
          → HasGiven a chains q start (Some m) None (record { state = state; at = m.end }) None new_work
      needle-some m found =
          let in-rest = pick-Occurs a.built.kind (search_over false (needle ∷ []) bytes at end) m (found a.built.kind) in
          let from-at = in-rest.from_low in
          let high = in-rest.to_high in
          let has-bytes = pick-some a.built.kind patterns (on-some a.built on) q
          (record { free = refl; ordered = onward.ordered; inside = inside; same = refl }) a.built.kind m (pick-is (Some m) found) in
          let after-low = low-at in
          record {
            answer = sym (pick-is (Some m) found);
            place = (let u = onward.unread in omega arith);
            looks = looks-paid;
            goes = (
              tt,
              record {
                node = [];
                stands = record {
                  there = subst (λ (u : List ℕ). a.stands No state (Some u)) node-is onward.stands.there;
                  after = after-start a.built.kind patterns (from q m.end)
                      (record { free = refl; ordered = high; inside = inside; same = refl });
                  hand = tt;
                };
                counted = counted-past m.end m.end (omega arith) (omega arith);
                unread = (let u = onward.unread in omega arith);
                begun = (let b = onward.begun in omega arith);
                ordered = high;
              },
            );
          }

-- the match of a needle ends no earlier than where the search for it began
pub needle-after : (needle bytes : List ℕ) {at : ℕ} (end : ℕ) {r : Option Occurrence} → IsNeedleMatch needle bytes at end r
    → {m : Occurrence} → r ≡ Some m → at ≤ m.end
needle-after needle bytes {at} end found {m} is =
    let occurs = pick-Occurs Standard (search_over false (needle ∷ []) bytes at end) m (found Standard ∙ is) in
    let from = occurs.from_low in let long = occurs.as_long in omega arith

-- so it has given what its prefilter answers
pub needle-gives : {a : AutomatonView} → reads_on a.built ≡ true → {needle : List ℕ} → Skips a.wants_prefilter a.built (Needle needle)
    → (chains : List (List ChainMatch)) {bytes : List ℕ} {low end start : ℕ} → end ≤ length bytes → {state at : ℕ} {hand : Option ℕ}
    {work : Work} → hand ≡ None
    → IsOnward a (search_of a.built No bytes low end) start [] (record { state = state; at = at }) hand work
    → ((u : Node) → a.stands No state u → u ≡ Some []) → at < end → {new_counts : Counts} → new_counts ≡ one_more_call work.counts
    → (r : Option Occurrence) → IsNeedleMatch needle bytes at end r → (to : ℕ) → ((m : Occurrence) → r ≡ Some m → to ≡ m.end)
    → HasGiven a chains (search_of a.built No bytes low end) start r None (record { state = state; at = to }) hand
    (record { place = work.place; counts = new_counts })
needle-gives {a} on {needle} skips chains {bytes} {low} {end} {start} inside {state} {at} {hand} {work} empty onward at-start before {new_counts} called r found to ends =
    by r found ends
  where
    here : IsOnward a (search_of a.built No bytes low end) start [] (record { state = state; at = at }) None work
    here =
        subst (λ (h : Option ℕ). IsOnward a (search_of a.built No bytes low end) start [] (record { state = state; at = at }) h work)
        empty onward

    by : (r : Option Occurrence) → IsNeedleMatch needle bytes at end r → ((m : Occurrence) → r ≡ Some m → to ≡ m.end)
        → HasGiven a chains (search_of a.built No bytes low end) start r None (record { state = state; at = to }) hand
        (record { place = work.place; counts = new_counts })
    by None found ends =
        needle-none a on skips chains bytes low end start inside here at-start before called found None (record { state = state; at = to })
        hand
    by (Some m) found ends =
        subst (λ (h : Option ℕ). HasGiven a chains (search_of a.built No bytes low end) start (Some m) None
        (record { state = state; at = to }) h (record { place = work.place; counts = new_counts })) (sym empty)
        (subst (λ (k : ℕ). HasGiven a chains (search_of a.built No bytes low end) start (Some m) None
        (record { state = state; at = k }) None (record { place = work.place; counts = new_counts })) (sym (ends m refl))
        (needle-some a on skips chains bytes low end start inside here at-start before called m found))
