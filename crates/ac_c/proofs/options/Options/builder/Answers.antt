use Rattle.ac_util.proofs.Prelude.{false, None, sym, ◌∙◌, rules}
use Rattle.ac_search.specs.declared.MatchKind.TheVariants.{Standard}
use Rattle.ac_search.specs.declared.StartKind.TheVariants.{Unanchored}
use Rattle.ac_c.specs.Settings.{engines, flags, match_kinds, start_kinds}
use Rattle.ac_c.proofs.NumberLemmas.{named}
use Rattle.ac_c.proofs.options.Options.builder.Goals as goal

-- each number stands for what was set
pub returns : goal.returns
returns c =
    let options = c.args.self.now in
    let match_kind = named match_kinds options.match_kind c.in_ok-match_kind_of.field-0 Standard
    (sym c.match_kind_of.ensures ∙ c.in_ok-match_kind_of.was) in
    let start_kind = named start_kinds options.start_kind c.in_ok-start_kind_of.field-0 Unanchored
    (sym c.start_kind_of.ensures ∙ c.in_ok-start_kind_of.was) in
    let engine = named engines options.engine c.in_ok-engine_of.field-0 None
    (sym c.engine_of.ensures ∙ c.in_ok-engine_of.was) in
    let ignore_case = named flags options.ignore_case c.in_ok-flag_of.field-0 false
    (sym c.flag_of.ensures ∙ c.in_ok-flag_of.was) in
    let prefilter = named flags options.prefilter c.in_ok-flag_of-2.field-0 false
    (sym c.flag_of-2.ensures ∙ c.in_ok-flag_of-2.was) in
    let byte_classes = named flags options.byte_classes c.in_ok-flag_of-3.field-0 false
    (sym c.flag_of-3.ensures ∙ c.in_ok-flag_of-3.was) in
    search rules
