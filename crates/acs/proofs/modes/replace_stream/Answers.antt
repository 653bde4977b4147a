use Rattle.std.proofs.Common.{◌∙◌, ℕ, List, ap, inl, inr, refl, subst, rules}
use Rattle.ac_search.specs.Patterns.{bytes_of}
use Rattle.ac_search.specs.Stream.{FailsToReplace}
use Rattle.acs.specs.declared.request.Mode.TheVariants.{StreamReplace}
use Rattle.acs.specs.Faults.{stream_fault_of}
use Rattle.acs.specs.Modes.{FailsToAnswer}
use Rattle.acs.specs.Requests.{seconds}
use Rattle.acs.proofs.Results.{refused-by}
use Rattle.acs.proofs.ModeEnds.{refused-first, replacing-fails}
use Rattle.acs.proofs.Pairs.{texts-fit}
use Rattle.acs.proofs.modes.replace_stream.Goals as goal

-- there is a text for each pattern
pub try_stream_replace_all-requires : goal.try_stream_replace_all-requires
try_stream_replace_all-requires g c = search (rules, texts-fit)

-- the searcher refuses streams, or a read or a write has failed
pub returns-in_err-try_stream_replace_all : goal.returns-in_err-try_stream_replace_all
returns-in_err-try_stream_replace_all g c =
    let ends = g.R.Source.empty_means_end in
    let built = c.args.searcher.now.built in
    let texts = seconds (bytes_of c.args.words.now) in
    let reader = g.R.Source.told c.args.reader.now in
    let new_reader = g.R.Source.told c.try_stream_replace_all.new.reader in
    let writer = g.W.Sink.told c.args.writer.now in
    let new_writer = g.W.Sink.told c.try_stream_replace_all.new.writer in
    let e = c.in_err-try_stream_replace_all.field-0.0 in
    refused-by c.from_residual-in_err-try_stream_replace_all.result (stream_fault_of e) _
    (FailsToAnswer ends StreamReplace built texts reader new_reader writer new_writer)
    c.from_residual-in_err-try_stream_replace_all.ensures.1
    (elim c.in_err-try_stream_replace_all.ensures [
      | inl refused ↦ inl (refused-first built texts ends reader new_reader writer new_writer StreamReplace _ e
          (stream_fault_of e) refl
          (λ same. (ap g.R.Source.told same.0, ap g.W.Sink.told same.1)) refused)
      | inr fails ↦ replacing-fails built texts ends reader new_reader writer new_writer e
          (stream_fault_of e) refl
          fails.0
          (subst (λ (ts : List (List ℕ)). FailsToReplace built ts writer new_writer ends reader new_reader e)
          (ap bytes_of c.deref.ensures.value ∙ c.in_ok-texts.ensures) fails.1)
    ])
