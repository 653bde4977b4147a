use Rattle.ac_util.proofs.Prelude.{◌-◌, inr, refl, sym, ◌∙◌, arith, Some, get_or, slice_get_within}
use Rattle.ac_automaton.proofs.Committing.{holds-made, holds-match, read-index}
use Rattle.ac_automaton.proofs.TrieStates.{number-state}
use Rattle.ac_automaton.proofs.nfa.noncontiguous.commits.Making.held.Goals as goal

pub take_listed-requires : goal.take_listed-requires
take_listed-requires g c =
    let at = c.requires.at in
    record { state = (at.view, Some at.string, at.lists.ordered, number-state at.lists.may.all c.args.sid _ at.named) }

pub returns-in-Some : goal.returns-in-Some
returns-in-Some g c = λ at.
    let matches = c.in-Some.ensures at.view (Some at.string) at.lists.ordered (number-state at.lists.may.all c.args.sid _ at.named) in
    record { has = rw c.must.ensures.value (holds-match at.lists.may at.made at.string at.named _ _ matches.2); state = refl; none = inr (λ none. let some = matches.2 in cc) }

pub index-requires : goal.index-requires
index-requires g c =
    let at = c.requires.at in
    let read = read-index at.lists.may at.made c.args.sid at.string at.named c.index-place.result.now
    (rw c.as_usize.ensures.value at c.index-place.ensures) in
    let has = at.made.placed c.args.sid (λ none. c.if-place-eq0.false (sym read ∙ none)) in
    let place = get_or c.args.self.now.index.items c.args.sid 0 - 1 in
    let within = slice_get_within c.args.self.now.commits.items place has.commit has.there in
    let len = c.args.self.now.commits.ok.0 in
    omega (arith, read)

pub returns-then-place-eq0 : goal.returns-then-place-eq0
returns-then-place-eq0 g c = λ at.
    let none = c.in_default.ensures at.view (Some at.string) at.lists.ordered (number-state at.lists.may.all c.args.sid _ at.named) in
    let read = read-index at.lists.may at.made c.args.sid at.string at.named c.index-place.result.now
    (rw c.as_usize.ensures.value at c.index-place.ensures) in
    record { empty = read ∙ c.if-place-eq0.true; matchless = none }

pub returns : goal.returns
returns g c = λ at.
    let read = read-index at.lists.may at.made c.args.sid at.string at.named c.index-place.result.now
    (rw c.as_usize.ensures.value at c.index-place.ensures) in
    holds-made at.lists.may at.made at.string at.named c.index.result.now (λ none. c.if-place-eq0.false (sym read ∙ none))
    (rw read c.index.ensures)
