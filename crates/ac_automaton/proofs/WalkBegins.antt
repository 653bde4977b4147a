-- A walk that begins: what is kept of it, and that it has done nothing.
use Rattle.ac_util.proofs.Prelude.{◌≡◌, ℕ, ◌+◌, ◌≤◌, ◌==◌, if◌then◌else◌, Bool, true, false, List, [], length, refl, ap, sym, ◌∙◌, subst, arith, Option, None, Some, MatchOption, common_steps}
use Rattle.ac_automaton.specs.Prelude.{Counts, credit, No, no_counts, Span, Taped, AutomatonView, Finding, Cursor, plain_of, search_of, first_work, reads_past_by, in_hand, pending, BeginsPast, IsKept, IsOnwardIn, IsReadingPast, IsRestBefore, kept_work, reached_by, ChainRest, Onward}
use Rattle.ac_util.proofs.Onward.{after-start}
use Rattle.ac_automaton.proofs.WalkOnce.{fresh}

-- at its start a node is worth nothing
either-way : (t : Bool) (n : ℕ) → (if t then n else n) ≡ n
either-way true n = refl
either-way false n = refl

credit-start : (most : ℕ) → credit most (Some []) ≡ 0
credit-start most = either-way (most == 1) 0

-- a walk that begins is kept
module _ {A M : Type 0} (seen : A → AutomatonView) (finding : Finding) (bytes : List ℕ) (span : Span) (legal : span.start ≤ span.end + 1)
    (inside : span.end ≤ length bytes) where
  begins-reading : (o : Onward A M) → BeginsPast seen finding span o
      → IsReadingPast seen o finding (fresh bytes) span None span.start no_counts
  begins-reading o begins =
      let a = seen o.core.automaton.now in
      let at-start : span.start ≤ span.end → IsOnwardIn a (fresh bytes) span.start span.end span.start [] (record { state = o.core.start; at = span.start }) None no_counts =
      λ ordered. record {
        node = [];
        stands = record {
          there = begins.lawful.core.starts;
          after = after-start a.built.kind (plain_of a.built)
              (search_of a.built No bytes span.start span.end) (record { free = refl; ordered = ordered; inside = inside; same = refl });
          hand = tt;
        };
        counted = (let c = credit-start a.most in record {
          reads = omega arith;
          whole = λ none. omega arith;
          calls = omega arith;
          quiet = λ not. refl;
          looked = omega arith;
          paid = omega arith;
        });
        unread = omega arith;
        begun = omega arith;
        ordered = ordered;
      } in
      record {
        finds = begins.finds;
        lawful = begins.lawful;
        past = begins.past;
        ends = begins.ends;
        begun = omega arith;
        legal = legal;
        beyond = tt;
        sound = λ up. subst (IsRestBefore o.core.commits.now.chains span.start) (sym begins.rest) tt;
        onward = λ ordered.
            subst (λ (rest : Option ChainRest). IsOnwardIn a (fresh bytes) span.start span.end span.start
            (pending a.built o.core.commits.now.chains rest) o.here.cursor o.here.byte no_counts) (sym begins.rest)
            (subst (λ (b : Option ℕ). IsOnwardIn a (fresh bytes) span.start span.end span.start [] o.here.cursor b no_counts) (sym begins.byte)
            (subst (λ (k : Cursor). IsOnwardIn a (fresh bytes) span.start span.end span.start [] k None no_counts) (sym begins.cursor)
            (at-start ordered)));
        ended = λ over. record {
          looked = omega arith;
          looks = omega arith;
          reads = λ _. omega arith;
          calls = λ _. omega arith;
          quiet = λ not. refl;
          told = λ none some. tt;
          rest = λ none past ended. omega arith;
        };
      }

  begins-kept : (r : Option (Onward A M))
      → MatchOption r (reads_past_by finding.picking.order finding.anchored finding.built.patterns ≡ false) (BeginsPast seen finding span)
      → IsKept seen finding (fresh bytes) span None span.start no_counts r
  begins-kept None finds = record { by = record { by_finds = finds; under_way = grind (arith, common_steps) } }
  begins-kept (Some o) begins = record { by = begins-reading o begins }

-- and has done nothing
pub work-first : {A M : Type 0} (seen : A → AutomatonView) (finding : Finding) (span : Span) {bytes : List ℕ} {tape : Taped} {counts : Counts}
    (r : Option (Onward A M)) → tape ≡ record { bytes = bytes; place = 0 } → counts ≡ no_counts
    → MatchOption r (reads_past_by finding.picking.order finding.anchored finding.built.patterns ≡ false) (BeginsPast seen finding span)
    → kept_work r tape counts ≡ first_work finding span.start
work-first seen finding span {counts = counts} None fresh none finds =
    ap (λ (t : Taped). record { place = t.place; counts = counts }) fresh
    ∙ ap (λ (c : Counts). record { place = 0; counts = c }) none
    ∙ ap (λ (t : Bool). record { place = if t then span.start else 0; counts = no_counts }) (sym finds)
work-first seen finding span {counts = counts} (Some o) fresh none begins =
    let there = ap (λ (k : Cursor). k.at) begins.cursor in let hand = ap in_hand begins.byte in
    ap (λ (k : ℕ). record { place = k; counts = counts }) (let e : reached_by o.here ≡ span.start = omega arith in e)
    ∙ ap (λ (c : Counts). record { place = span.start; counts = c }) none
    ∙ ap (λ (t : Bool). record { place = if t then span.start else 0; counts = no_counts })
    (sym (ap (λ (f : Finding). reads_past_by f.picking.order f.anchored f.built.patterns) begins.finds ∙ begins.lawful.core.on begins.past))

-- with a tape of which nothing was read
pub kept-first : {A M : Type 0} {seen : A → AutomatonView} {finding : Finding} {bytes : List ℕ} {tape : Taped} {span : Span} {start : ℕ}
    {counts : Counts} {r : Option (Onward A M)} → tape ≡ record { bytes = bytes; place = 0 } → start ≡ span.start → counts ≡ no_counts
    → span.start ≤ span.end + 1 → span.end ≤ length bytes
    → MatchOption r (reads_past_by finding.picking.order finding.anchored finding.built.patterns ≡ false) (BeginsPast seen finding span)
    → IsKept seen finding tape span None start counts r
kept-first {A} {M} {seen} {finding} {bytes} {tape} {span} {start} {counts} {r} new-tape first none legal inside begins =
    subst (λ (t : Taped). IsKept seen finding t span None start counts r) (sym new-tape)
    (subst (λ (k : ℕ). IsKept seen finding (record { bytes = bytes; place = 0 }) span None k counts r) (sym first)
    (subst (λ (c : Counts). IsKept seen finding (record { bytes = bytes; place = 0 }) span None span.start c r) (sym none)
    (begins-kept seen finding bytes span legal inside r begins)))
