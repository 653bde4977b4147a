use Rattle.ac_util.proofs.Prelude.{sym}
use Rattle.ac_engines.proofs.MatchWords.{reads}
use Rattle.ac_engines.proofs.nfa.contiguous.state.State.match_len.Goals as goal

pub bounds-match_words-0 : goal.bounds-match_words-0
bounds-match_words-0 c =
    let (format, s, begins, some) = c.requires in
    (reads s.matches begins.rest c.match_words.result.now (c.match_words.ensures format s begins some) some begins.few_matches).some

-- the first word is the only match
pub returns-then-first-ge-ONE_MATCH : goal.returns-then-first-ge-ONE_MATCH
returns-then-first-ge-ONE_MATCH c = λ format s h some.
    sym ((reads s.matches h.rest c.match_words.result.now (c.match_words.ensures format s h some) some h.few_matches).one
    c.if-first-ge-ONE_MATCH.true)

-- or the number of matches
pub returns-else-first-ge-ONE_MATCH : goal.returns-else-first-ge-ONE_MATCH
returns-else-first-ge-ONE_MATCH c = λ format s h some.
    (reads s.matches h.rest c.match_words.result.now (c.match_words.ensures format s h some) some h.few_matches).several
    c.if-first-ge-ONE_MATCH.false
