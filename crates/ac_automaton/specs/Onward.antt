-- What a leftmost walk has come to that reads each byte once, and what it has counted.
use Rattle.std.specs.Prelude.{◌≡◌, ℕ, ◌+◌, ◌-◌, ◌*◌, ◌<◌, ◌≤◌, Bool, false, List, length, slice_index, Option, None, Some, IfSome, MatchOption}
use Rattle.ac_automaton.specs.Util.{Counts, credit, may_skip, No, Occurrence, Search, Span, Taped}
use Rattle.ac_automaton.specs.declared.automaton.commits.ChainMatch.{ChainMatch}
use Rattle.ac_automaton.specs.declared.automaton.onward.ChainRest.{ChainRest}
use Rattle.ac_automaton.specs.declared.automaton.onward.Onward.{Onward}
use Rattle.ac_automaton.specs.declared.automaton.onward.Position.{Position}
use Rattle.ac_automaton.specs.declared.automaton.scan.Cursor.{Cursor}
use Rattle.ac_automaton.specs.Automata.{AutomatonView, plain_of}
use Rattle.ac_automaton.specs.Finds.{Finding, finding_of}
use Rattle.ac_automaton.specs.Iterators.{IsByFinds, IsPaid, walking_of}
use Rattle.ac_util.specs.Commits.{StandsAfter}
use Rattle.ac_automaton.specs.Reads.{in_hand}
use Rattle.ac_automaton.specs.Scans.{search_of, Work, work_of}
use Rattle.ac_automaton.specs.Cores.{pending, chains, IsSearchBy}

-- what a walk has counted that began at `start` and has come to an offset: it has read no byte twice, and each one unless it called
-- the prefilter; it has called that at most once for each, and not at all where it may not skip; each byte has brought a look; and the
-- looks, with what is owed, are paid by `most` for each byte read and by what else is allowed
pub record IsCounted (most : ℕ) (skips : Bool) (start to owed allowed : ℕ) (counts : Counts) : Type 0 where
  pub reads : counts.reads ≤ to - start
  pub whole : counts.calls ≡ 0 → to - start ≤ counts.reads
  pub calls : counts.calls ≤ to - start
  pub quiet : skips ≡ false → counts.calls ≡ 0
  pub looked : counts.reads ≤ counts.looks
  pub paid : counts.looks + owed ≤ most * counts.reads + allowed

-- the walk over a search that began at `start`, by an automaton
module _ (a : AutomatonView) (q : Search) (start : ℕ) where
  -- it is to give these matches first, and stands at the node v where it has read up to the cursor; there it may have a byte in hand
  pub record StandsBy (ms : List Occurrence) (cursor : Cursor) (byte : Option ℕ) (v : List ℕ) : Type 0 where
    pub there : a.stands No cursor.state (Some v)
    pub after : StandsAfter a.built.kind (plain_of a.built) q ms v cursor.at
    pub hand : IfSome byte (λ b. (cursor.at < q.high) × (b ≡ slice_index q.haystack cursor.at))

  -- its counts, where so much more is allowed
  abbrev pub HasCounted : Cursor → Option ℕ → List ℕ → ℕ → Counts → Type 0
  HasCounted cursor byte v more counts =
      IsCounted a.most (may_skip a.wants_prefilter q) start (cursor.at + in_hand byte)
      (credit a.most (Some v) + a.most * in_hand byte) (q.low - start + more) counts

  -- it stands so, and each look is paid
  pub record IsOnward (ms : List Occurrence) (cursor : Cursor) (byte : Option ℕ) (work : Work) : Type 0 where
    pub node : List ℕ
    pub stands : StandsBy ms cursor byte node
    pub counted : HasCounted cursor byte node 0 work.counts
    pub unread : work.place ≤ cursor.at + in_hand byte
    pub begun : start ≤ q.low
    pub ordered : q.low ≤ q.high

-- the walk over a span of a tape that ends here
abbrev pub IsOnwardIn : AutomatonView → Taped → ℕ → ℕ → ℕ → List Occurrence → Cursor → Option ℕ → Counts → Type 0
IsOnwardIn a tape low end start ms cursor byte counts =
    IsOnward a (search_of a.built No tape.bytes low end) start ms cursor byte (work_of tape counts)

-- the rest of a chain has a number, and no more of it was given than there are bytes before an offset
abbrev pub IsRestBefore : List (List ChainMatch) → ℕ → Option ChainRest → Type 0
IsRestBefore chains low rest = IfSome rest (λ r. (r.chain < length chains) × (r.index ≤ low))

-- up to where a walk has read: the offset of its cursor, and the byte in hand
abbrev pub reached_by : Position → ℕ
reached_by here = here.cursor.at + in_hand here.byte

-- a walk as its iterator keeps it that reads on past its matches: as far as its span isn't done it is on its way there, and then what
-- it has counted is paid
pub record IsReadingPast {A M : Type 0} (seen : A → AutomatonView) (o : Onward A M) (finding : Finding) (tape : Taped) (span : Span)
    (last : Option ℕ) (start : ℕ) (counts : Counts) : Type 0 where
  pub finds : finding ≡ finding_of (seen o.core.automaton.now) No false
  pub lawful : IsSearchBy seen o.core
  pub past : o.core.stops ≡ false
  pub ends : o.here.end ≡ span.end
  pub begun : start ≤ span.start
  pub legal : span.start ≤ span.end + 1
  pub beyond : IfSome last (λ e. e ≤ span.start)
  pub sound : span.start ≤ span.end → IsRestBefore o.core.commits.now.chains span.start o.here.rest
  pub onward : span.start ≤ span.end
      → IsOnwardIn (seen o.core.automaton.now) tape span.start span.end start
      (pending (seen o.core.automaton.now).built o.core.commits.now.chains o.here.rest) o.here.cursor o.here.byte counts
  pub ended : span.end < span.start → IsPaid (walking_of finding tape.bytes span last start (record { place = reached_by o.here; counts = counts })) span.start

-- the work of a walk: that of its tape, or where it reads on past its matches up to where it has read, by whichever tapes
abbrev pub kept_work : {A M : Type 0} → Option (Onward A M) → Taped → Counts → Work
kept_work None tape counts = work_of tape counts
kept_work (Some o) tape counts = record { place = reached_by o.here; counts = counts }

-- a walk as its iterator keeps it: one by finds is under way, and one that reads on past its matches stands somewhere
pub record IsKept {A M : Type 0} (seen : A → AutomatonView) (finding : Finding) (tape : Taped) (span : Span) (last : Option ℕ) (start : ℕ)
    (counts : Counts) (onward : Option (Onward A M)) : Type 0 where
  pub by : MatchOption onward
      (IsByFinds (walking_of finding tape.bytes span last start (work_of tape counts)))
      (λ o. IsReadingPast seen o finding tape span last start counts)

-- it is at its start, at the beginning of a span
pub record BeginsPast {A M : Type 0} (seen : A → AutomatonView) (finding : Finding) (span : Span) (o : Onward A M) : Type 0 where
  pub finds : finding ≡ finding_of (seen o.core.automaton.now) No false
  pub lawful : IsSearchBy seen o.core
  pub past : o.core.stops ≡ false
  pub cursor : o.here.cursor ≡ record { state = o.core.start; at = span.start }
  pub ends : o.here.end ≡ span.end
  pub byte : o.here.byte ≡ None
  pub rest : o.here.rest ≡ None
