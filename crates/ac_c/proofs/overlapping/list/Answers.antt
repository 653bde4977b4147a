use Rattle.ac_util.proofs.Prelude.{◌≡◌, ◌∙◌, ap, sym, subst, rules}
use Rattle.ac_search.specs.Built.{search_in}
use Rattle.ac_search.specs.Input.{input_of}
use Rattle.ac_search.specs.Occurrence.{Search, from}
use Rattle.ac_c.specs.declared.search.Cursor.{Cursor}
use Rattle.ac_c.specs.Batches.{Gives, listing_from}
use Rattle.ac_c.specs.Searches.{past}
use Rattle.ac_c.proofs.ListingBatches.{IsBatch, Passes, batch-ended, batch-filled}
use Rattle.ac_c.proofs.ListingStarts.{not-anchored}
use Rattle.ac_c.proofs.overlapping.list.Goals.{After-fill-filled}
use Rattle.ac_c.proofs.overlapping.list.Goals as goal

-- what is due of the listing that was made again is what is due of the whole one, before the batch and after it
module _ (c : After-fill-filled) where
  abbrev q : Search
  q = search_in c.args.searcher.now.built (input_of c.args.input)

  begins : c.in_ok-items.items.search ≡ from q c.min-start.result
  begins = search rules

  batch : IsBatch q c.min-start.result c.args.cursor.now c.pass.new.here c.fill-filled.new.here c.args.out.now c.fill-filled.new.out
      c.fill-filled.result
  batch = record {
    free = search (rules, not-anchored);
    low = search rules;
    near = search rules;
    onward = c.pass.ensures.onward;
    further = c.fill-filled.ensures.onward;
    passes = subst (λ (p : Search). Passes p c.args.cursor.now c.pass.new.here) begins c.pass.ensures.passes;
    gives = subst (λ (p : Search). Gives (listing_from p) c.pass.new.here c.fill-filled.new.here c.args.out.now c.fill-filled.new.out
        c.fill-filled.result) (c.pass.ensures.same ∙ begins) c.fill-filled.ensures.gives;
  }

pub returns-then-filled-out-clause-lists : goal.returns-then-filled-out-clause-lists
returns-then-filled-out-clause-lists c =
    let d = (goal.at.returns-then-filled-out-clause-lists c).After-fill-filled in
    let Leaves : Cursor → Type 0 =
    λ new. Gives (listing_from (q d)) c.args.cursor.now new c.args.out.now c.fill-filled.new.out c.fill-filled.result in (
      search rules,
      subst Leaves (sym (c.past.ensures ∙ ap past c.haystack.ensures))
          (batch-ended (q d) c.min-start.result c.args.cursor.now c.pass.new.here c.fill-filled.new.here c.args.out.now
          c.fill-filled.new.out c.fill-filled.result (batch d) c.args.input.haystack.now (search rules) (search rules)),
    )

pub returns-else-filled-out-clause-lists : goal.returns-else-filled-out-clause-lists
returns-else-filled-out-clause-lists c =
    let d = (goal.at.returns-else-filled-out-clause-lists c).After-fill-filled in (
      search rules,
      batch-filled (q d) c.min-start.result c.args.cursor.now c.pass.new.here c.fill-filled.new.here c.args.out.now
          c.fill-filled.new.out c.fill-filled.result (batch d),
    )
