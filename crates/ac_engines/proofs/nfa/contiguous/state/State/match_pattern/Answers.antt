use Rattle.ac_util.proofs.Prelude.{◌≡◌, ◌∙◌, ℕ, ap, arith, slice_index_or}
use Rattle.ac_engines.proofs.MatchWords.{has-some, reads}
use Rattle.ac_engines.proofs.nfa.contiguous.state.State.match_pattern.Goals as goal

pub bounds-words-0 : goal.bounds-words-0
bounds-words-0 c =
    let (format, s, begins, low) = c.requires in
    let some = has-some s.matches c.args.index low in
    (reads s.matches begins.rest c.match_words-words.result.now (c.match_words-words.ensures format s begins some) some
    begins.few_matches).some

-- several matches stand after their number
pub bounds-words-index : goal.bounds-words-index
bounds-words-index c =
    let (format, s, begins, low) = c.requires in
    let some = has-some s.matches c.args.index low in
    (reads s.matches begins.rest c.match_words-words.result.now (c.match_words-words.ensures format s begins some) some
    begins.few_matches).within c.if-words-ge-ONE_MATCH.false c.args.index low

pub returns-else-words-ge-ONE_MATCH : goal.returns-else-words-ge-ONE_MATCH
returns-else-words-ge-ONE_MATCH c = λ format s h low.
    let some = has-some s.matches c.args.index low in
    (reads s.matches h.rest c.match_words-words.result.now (c.match_words-words.ensures format s h some) some
    h.few_matches).each c.if-words-ge-ONE_MATCH.false c.args.index low

-- a match that is the only one is the first word without its top bit
pub returns-then-words-ge-ONE_MATCH : goal.returns-then-words-ge-ONE_MATCH
returns-then-words-ge-ONE_MATCH c = λ format s h low.
    let some = has-some s.matches c.args.index low in
    let words = reads s.matches h.rest c.match_words-words.result.now (c.match_words-words.ensures format s h some) some
    h.few_matches in
    let one = words.one c.if-words-ge-ONE_MATCH.true in
    words.first c.if-words-ge-ONE_MATCH.true
    ∙ ap (λ (k : ℕ). slice_index_or s.matches k 0) (let zero : 0 ≡ c.args.index = omega (arith, one, low) in zero)
