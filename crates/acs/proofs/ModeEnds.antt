-- How modes end: a replacement in memory, and the modes on a stream.
use Rattle.std.proofs.Common.{◌≡◌, ℕ, List, [], ap, ◌∙◌, inl, inr, ◌⊎◌, Bool, None, arith, subst}
use Rattle.std.specs.Prelude.{MatchResult, Result, Ok, Err, option_map, Some}
use Rattle.std.proofs.lemmas.Grind.{common_steps}
use Rattle.ac_search.specs.declared.WriteError.{WriteError}
use Rattle.ac_search.specs.declared.WriteError.TheVariants.{Io as WriteFailed, WriteZero as WroteNothing}
use Rattle.ac_search.specs.declared.StreamError.{StreamError}
use Rattle.ac_search.specs.declared.StreamError.TheVariants.{Io as DeviceFailed, Match as Refused, Memory as NoBuffer, TooLong as StreamTooLong, WriteZero as TookNothing}
use Rattle.ac_search.specs.declared.MatchKind.{MatchKind}
use Rattle.ac_search.specs.declared.StartKind.{StartKind}
use Rattle.ac_search.specs.Built.{Built, exchanged, stream_refusal}
use Rattle.ac_search.specs.Device.{Reading, ReadsAll, Writing, WritesAll, WritesUntilFailure}
use Rattle.ac_search.specs.Replacement.{replaced}
use Rattle.ac_search.specs.Stream.{error_of, FailsToReplace, IsAllSettled, IsSettled, IsSettledBy, IsStreamRefused}
use Rattle.ac_search.specs.Streams.{Streaming}
use Rattle.ac_search.specs.Searchers.{HasBegun}
use Rattle.acs.specs.declared.fault.Fault.{Fault}
use Rattle.acs.specs.declared.request.Mode.{Mode}
use Rattle.acs.specs.declared.request.Mode.TheVariants.{Replace, Stream, StreamReplace}
use Rattle.acs.specs.declared.run.Outcome.{Outcome}
use Rattle.acs.specs.declared.run.Outcome.TheVariants.{Found}
use Rattle.acs.specs.Faults.{stream_fault_of, refusal_fault_of}
use Rattle.acs.specs.Modes.{AnswersOrFails, FailsOnStream, FailsToAnswer, FailsToWrite, WritesSettled, mode_refusal}
use Rattle.acs.specs.Printed.{FailsToPrintStream, PrintsStream}
use Rattle.acs.specs.declared.fault.Fault.TheVariants.{Memory}

-- the fault of a write that has failed, or took nothing
write-fails : {old new : Writing} {bytes : List ℕ} {fault : Fault} (failure : WriteError)
    → fault ≡ stream_fault_of (error_of failure) → WritesUntilFailure old new bytes failure
    → FailsToWrite old new bytes fault
write-fails (WriteFailed e) is fails = grind (arith, common_steps)
write-fails WroteNothing is fails = grind (arith, common_steps)

module _ (built : Built) (texts : List (List ℕ)) (ends : Bool) (reader new_reader : Reading) (writer new_writer : Writing) where
  -- the replaced text of a haystack was written, or could not be
  pub replaced-ends : (haystack whole : List ℕ) (r : Result Outcome Fault)
      → whole ≡ replaced haystack texts (exchanged built haystack) → ReadsAll ends reader new_reader haystack
      → MatchResult r (λ outcome. WritesAll writer new_writer whole × (outcome ≡ Found)) (FailsToWrite writer new_writer whole)
      → AnswersOrFails ends Replace built texts reader new_reader writer new_writer r
  replaced-ends haystack whole (Ok outcome) is reads w = grind (arith, common_steps)
  replaced-ends haystack whole (Err fault) is reads f = grind (arith, common_steps)

  -- the searcher refuses the mode, or memory was refused
  pub refused-first : (mode : Mode) (unchanged : Type 0) (e : StreamError) (fault : Fault) → fault ≡ stream_fault_of e
      → (unchanged → (new_reader ≡ reader) × (new_writer ≡ writer)) → IsStreamRefused (mode_refusal mode built) unchanged e
      → (((option_map refusal_fault_of (mode_refusal mode built) ≡ Some fault) ⊎ (fault ≡ Memory))
      × (new_reader ≡ reader) × (new_writer ≡ writer))
  refused-first mode unchanged (Refused m) fault is same refusal = grind (arith, common_steps)
  refused-first mode unchanged NoBuffer fault is same refusal = grind (arith, common_steps)
  refused-first mode unchanged (DeviceFailed e) fault is same refusal = absurd refusal
  refused-first mode unchanged TookNothing fault is same refusal = absurd refusal
  refused-first mode unchanged StreamTooLong fault is same refusal = absurd refusal

  -- where streams settle alike, lines ask for no texts, and for no start
  module _ (some_alike : (kind : MatchKind) (over : Built) (start : StartKind) (bytes : List ℕ) (given place : ℕ)
      → IsSettledBy kind (record over { start_kind = start }) bytes given place → IsSettledBy kind over bytes given place)
      (all_alike : (over : Built) (start : StartKind) (bytes : List ℕ) (given place : ℕ)
      → IsAllSettled (record over { start_kind = start }) bytes given place → IsAllSettled over bytes given place) where
    lines-settled : (begun : StartKind) (bytes : List ℕ)
        → WritesSettled Stream (record built { start_kind = begun }) [] bytes writer new_writer
        → WritesSettled Stream built texts bytes writer new_writer
    lines-settled begun bytes h = (h.0, h.1, all_alike built begun bytes h.0 h.1 h.2, h.3)

    some-settled : (begun : StartKind) (bytes : List ℕ) (given place : ℕ)
        → IsSettled ends (record built { start_kind = begun }) reader new_reader bytes given place
        → IsSettled ends built reader new_reader bytes given place
    some-settled begun bytes given place (inl (reads, settled)) =
        inl (reads, some_alike built.kind built begun bytes given place settled)
    some-settled begun bytes given place (inr all) = inr all

    stops : (start : StartKind) {fault : Fault}
        → FailsOnStream ends Stream (record built { start_kind = start }) [] reader new_reader writer new_writer fault
        → FailsOnStream ends Stream built texts reader new_reader writer new_writer fault
    stops start fails = record {
      bytes = fails.bytes;
      cause = elim fails.cause [
        | inl (e, is, reads, settled) ↦ inl (e, is, reads, lines-settled start fails.bytes settled)
        | inr (given, place, settled, writes) ↦ inr (given, place, some-settled start fails.bytes given place settled, writes)
      ];
    }

    -- the lines of a stream were printed, or a read or a write has failed
    pub stream-printed : (begun : Streaming) (r : Result Outcome Fault) → stream_refusal built ≡ None → HasBegun built begun
        → MatchResult r (PrintsStream ends begun.built reader new_reader writer new_writer)
        (FailsToPrintStream ends begun.built reader new_reader writer new_writer)
        → AnswersOrFails ends Stream built texts reader new_reader writer new_writer r
    stream-printed begun (Ok outcome) served is prints = grind (arith, common_steps)
    stream-printed begun (Err fault) served (start, is) fails =
        inr (
          served,
          stops start (subst (λ (b : Built). FailsOnStream ends Stream b [] reader new_reader writer new_writer fault)
              (ap (λ (v : Streaming). v.built) is) fails),
        )

  -- a read or a write has failed while a stream was replaced
  pub replacing-fails : (e : StreamError) (fault : Fault) → fault ≡ stream_fault_of e → stream_refusal built ≡ None
      → FailsToReplace built texts writer new_writer ends reader new_reader e
      → FailsToAnswer ends StreamReplace built texts reader new_reader writer new_writer fault
  replacing-fails e fault is served (bytes, inl read, small) =
      inr (served, record { bytes = bytes; cause = inl (e, is, read.0, read.1) })
  replacing-fails e fault is served (bytes, inr fails, small) =
      inr (
        served,
        record {
          bytes = bytes;
          cause = inr (
            fails.given,
            fails.place,
            fails.settled,
            write-fails fails.failure (is ∙ ap stream_fault_of fails.is) fails.writes,
          );
        },
      )
