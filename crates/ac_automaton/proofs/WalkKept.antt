-- A walk as its iterator keeps it: one that reads on past its matches, or one by finds.
use Rattle.ac_util.proofs.Prelude.{◌≡◌, ℕ, ◌+◌, ◌<◌, true, false, List, refl, ap, sym, ◌∙◌, subst, arith, Option, None, Some, MatchOption, false≢true}
use Rattle.ac_automaton.specs.Prelude.{Counts, from, Occurrence, Span, Taped, after, AutomatonView, Finding, GoesOn, IsByFinds, last_after, reads_past, search_of, Walking, walking_of, Work, work_of, IsKept, IsReadingPast, kept_work, reached_by, Onward}
use Rattle.std.specs.Option.{is_some}
use Rattle.ac_util.proofs.OneLonger.{none-past_end}
use Rattle.ac_util.proofs.Walks.{next-none, walk_after-None}
use Rattle.ac_automaton.proofs.ReadOn.{grows-same}
use Rattle.ac_automaton.proofs.WalkOnce.{HasGonePast, reads-past}

-- past the end of its span it gives nothing more
pub past-over : {A M : Type 0} {seen : A → AutomatonView} {o : Onward A M} {finding : Finding} {tape : Taped} {span : Span}
    {last : Option ℕ} {start : ℕ} {counts : Counts} → span.end < span.start
    → IsReadingPast seen o finding tape span last start counts
    → GoesOn (walking_of finding tape.bytes span last start (record { place = reached_by o.here; counts = counts })) None
    (walking_of finding tape.bytes span last start (record { place = reached_by o.here; counts = counts }))
past-over {o = o} {finding = finding} {tape = tape} {span = span} {last = last} {start = start} {counts = counts} over past =
    let q = search_of finding.built finding.anchored tape.bytes span.start span.end in
    let none = next-none finding.picking.order q last (none-past_end finding.picking.order q over) in
    let empty = walk_after-None finding.picking.order q last none in
    let ends : span.start ≡ span.end + 1 = (let l = past.legal in omega arith) in
    record {
      gives = (empty, empty);
      next = sym none;
      same = ap (λ (k : ℕ). record (walking_of finding tape.bytes span last start (record { place = reached_by o.here; counts = counts })) { left = from q k }) ends;
      finds = λ not. absurd (false≢true (sym not ∙ reads-past past));
      grows = grows-same counts;
      apart = λ _. record { onward = omega arith; reads = omega arith };
      paid = past.ended over;
    }

-- what is kept of a walk that reads on past its matches, or of one by finds
module _ {A M : Type 0} {seen : A → AutomatonView} {finding : Finding} {tape : Taped} {span : Span} {last : Option ℕ} {start : ℕ}
    {counts : Counts} {r : Option (Onward A M)} (kept : IsKept seen finding tape span last start counts r) where
  pub kept-past : (o : Onward A M) → r ≡ Some o → IsReadingPast seen o finding tape span last start counts
  kept-past o is = (subst (IsKept seen finding tape span last start counts) is kept).by

  pub kept-finds : r ≡ None → IsByFinds (walking_of finding tape.bytes span last start (work_of tape counts))
  kept-finds is = (subst (IsKept seen finding tape span last start counts) is kept).by

  -- the first reads on past its matches
  pub kept-reads : {now : Walking} → walking_of finding tape.bytes span last start (kept_work r tape counts) ≡ now → is_some r ≡ true
      → reads_past now ≡ true
  kept-reads {now} is there = by r is there kept.by
    where
      by : (r : Option (Onward A M)) → walking_of finding tape.bytes span last start (kept_work r tape counts) ≡ now → is_some r ≡ true → MatchOption r
          (IsByFinds (walking_of finding tape.bytes span last start (work_of tape counts)))
          (λ o. IsReadingPast seen o finding tape span last start counts) → reads_past now ≡ true
      by None is e finds = absurd (false≢true e)
      by (Some o) is e reads = ap reads_past (sym is) ∙ reads-past reads

  -- one that reads on past its matches gives nothing more past the end of its span
  pub kept-over : {now : Walking} → walking_of finding tape.bytes span last start (kept_work r tape counts) ≡ now → reads_past now ≡ true
      → span.end < span.start → GoesOn now None now
  kept-over {now} is past over = by r is kept.by
    where
      by : (r : Option (Onward A M)) → walking_of finding tape.bytes span last start (kept_work r tape counts) ≡ now → MatchOption r
          (IsByFinds (walking_of finding tape.bytes span last start (work_of tape counts)))
          (λ o. IsReadingPast seen o finding tape span last start counts) → GoesOn now None now
      by None is finds = absurd (false≢true (sym finds.by_finds ∙ ap reads_past is ∙ past))
      by (Some o) is reads = subst (λ (w : Walking). GoesOn w None w) is (past-over over reads)

-- what there isn't is none
pub none-from : {X : Type 0} (r : Option X) → is_some r ≡ false → r ≡ None
none-from None e = refl
none-from (Some x) e = absurd (false≢true (sym e))

-- one by finds is kept so
pub keeps-finds : {A M : Type 0} {seen : A → AutomatonView} {finding : Finding} {tape : Taped} {span : Span} {last : Option ℕ} {start : ℕ}
    {counts : Counts} {r : Option (Onward A M)} → r ≡ None
    → IsByFinds (walking_of finding tape.bytes span last start (work_of tape counts))
    → IsKept seen finding tape span last start counts r
keeps-finds {seen = seen} {finding = finding} {tape = tape} {span = span} {last = last} {start = start} {counts = counts} none finds =
    subst (IsKept seen finding tape span last start counts) (sym none) (record { by = finds })

-- a walk has gone on, as its iterator keeps it
module _ {A M : Type 0} {seen : A → AutomatonView} {finding : Finding} {bytes : List ℕ} {span : Span} {last : Option ℕ} {start : ℕ}
    {work : Work} {found : Option Occurrence} {new : Onward A M} {new_tape : Taped} {new_counts : Counts}
    (gone : HasGonePast seen finding bytes span last start work found new new_tape new_counts)
    (at : ℕ) (there : at ≡ after span.end found) (ended : Option ℕ) (ends : ended ≡ last_after last found) where
  pub gone-goes : {now : Walking} → walking_of finding bytes span last start work ≡ now
      → GoesOn now found
      (walking_of finding new_tape.bytes (record { start = at; end = span.end }) ended start (record { place = reached_by new.here; counts = new_counts }))
  gone-goes {now} is =
      subst (λ (w : Walking). GoesOn w found
      (walking_of finding new_tape.bytes (record { start = at; end = span.end }) ended start (record { place = reached_by new.here; counts = new_counts }))) is
      (subst (λ (k : ℕ). GoesOn (walking_of finding bytes span last start work) found
      (walking_of finding new_tape.bytes (record { start = k; end = span.end }) ended start (record { place = reached_by new.here; counts = new_counts }))) (sym there)
      (subst (λ (l : Option ℕ). GoesOn (walking_of finding bytes span last start work) found
      (walking_of finding new_tape.bytes (record { start = after span.end found; end = span.end }) l start (record { place = reached_by new.here; counts = new_counts })))
      (sym ends) gone.goes_on))

  pub gone-past : IsReadingPast seen new finding new_tape (record { start = at; end = span.end }) ended start new_counts
  gone-past =
      subst (λ (k : ℕ). IsReadingPast seen new finding new_tape (record { start = k; end = span.end }) ended start new_counts) (sym there)
      (subst (λ (l : Option ℕ). IsReadingPast seen new finding new_tape (record { start = after span.end found; end = span.end }) l start
      new_counts) (sym ends) gone.past)
