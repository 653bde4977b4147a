use Rattle.ac_util.proofs.Prelude.{ap, sym, subst, ◌∙◌, ◌<◌, List, ℕ, length, arith, Some, slice_index_or, slice_get-get_or}
use Rattle.ac_engines.specs.Prelude.{alphabet_len, ContiguousView, match_list_at}
use Rattle.ac_engines.proofs.PackedNumbers.{Begins, begins}
use Rattle.ac_engines.proofs.nfa.contiguous.NFAAutomaton.match_pattern.Given.{Over}
use Rattle.ac_engines.proofs.nfa.contiguous.NFAAutomaton.match_pattern.Goals as goal
use Rattle.ac_engines.proofs.nfa.contiguous.NFAAutomaton.match_pattern.Goals.{After-alphabet_len}

module _ (g : Over) (c : After-alphabet_len g) where
  -- what the words of the state begin with
  state : Begins c.args.self.now c.requires.state.0 c.args.sid c.state.result.words.now c.alphabet_len.result
  state =
      let (anchored, (u, stands)) = c.requires.state in
      begins c.args.self.now anchored c.args.sid u stands c.state.result.words.now c.alphabet_len.result c.state.ensures
      (c.alphabet_len.ensures.value ∙ ap (λ (p : ContiguousView). alphabet_len p.classes) c.self.view_is)

  -- there is a match at the index
  within : c.args.index < length state.as_packed.matches
  within = subst (λ (ms : List ℕ). c.args.index < length ms) (sym state.same) c.requires.within

pub match_pattern-pattern-requires : goal.match_pattern-pattern-requires
match_pattern-pattern-requires g c = ((state g c).format, (state g c).as_packed, (state g c).words, within g c)

pub must-requires : goal.must-requires
must-requires g c =
    let b = state g c.before in
    let is = c.match_pattern-pattern.ensures b.format b.as_packed b.words (within g c.before) in
    let at = ap (λ (ms : List ℕ). slice_index_or ms c.args.index 0) b.same in
    let small = b.numbered c.args.index c.requires.within in
    record { small = omega arith }

pub returns : goal.returns
returns g c =
    let b = state g c.before.before in
    let is = c.match_pattern-pattern.ensures b.format b.as_packed b.words (within g c.before.before) in
    let at = ap (λ (ms : List ℕ). slice_index_or ms c.args.index 0) b.same in
    slice_get-get_or (match_list_at c.args.self.now c.args.sid) c.args.index 0 c.requires.within
    ∙ ap Some (sym at ∙ sym is ∙ sym c.must.ensures.value)
