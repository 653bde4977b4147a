use Rattle.ac_util.proofs.Prelude.{ap, sym, ◌∙◌, List, ℕ, length}
use Rattle.ac_engines.specs.Prelude.{alphabet_len, ContiguousView}
use Rattle.ac_engines.proofs.PackedNumbers.{begins}
use Rattle.ac_engines.proofs.nfa.contiguous.NFAAutomaton.match_len.Goals as goal

pub match_len-requires : goal.match_len-requires
match_len-requires g c =
    let (anchored, (u, stands)) = c.requires.state in
    let b = begins c.args.self.now anchored c.args.sid u stands c.state.result.words.now c.alphabet_len.result c.state.ensures
    (c.alphabet_len.ensures.value ∙ ap (λ (p : ContiguousView). alphabet_len p.classes) c.self.view_is) in
    (b.format, b.as_packed, b.words, λ none. c.requires.matches (sym b.same ∙ none))

pub returns : goal.returns
returns g c =
    let (anchored, (u, stands)) = c.requires.state in
    let b = begins c.args.self.now anchored c.args.sid u stands c.state.result.words.now c.alphabet_len.result c.state.ensures
    (c.alphabet_len.ensures.value ∙ ap (λ (p : ContiguousView). alphabet_len p.classes) c.self.view_is) in
    c.match_len.ensures b.format b.as_packed b.words (λ none. c.requires.matches (sym b.same ∙ none))
    ∙ ap (λ (ms : List ℕ). length ms) b.same
