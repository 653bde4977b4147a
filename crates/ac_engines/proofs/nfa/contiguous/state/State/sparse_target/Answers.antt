use Rattle.ac_util.proofs.Prelude.{refl, ◌+◌, ◌*◌, List, ℕ, Some, ap, sym, ◌∙◌, arith, slice_index_or, get_or_append_left, length-append}
use Rattle.ac_engines.specs.Prelude.{FAIL, target_by}
use Rattle.ac_engines.proofs.ClassWords.{none-left, target-named, place-found, place-missed, place-within, targets_of}
use Rattle.ac_engines.proofs.PackedWords.{named-none, named-some, splits-at}
use Rattle.ac_engines.proofs.nfa.contiguous.state.State.sparse_target.Goals as goal

-- two words stand before the class words
pub slice_bounds-split_at-count : goal.slice_bounds-split_at-count
slice_bounds-split_at-count c =
    let (classes, s, begins, counts) = c.requires in
    (splits-at c.args.self.words.now classes s c.args.transitions _ begins counts refl).long

pub slice_bounds-split_at-start : goal.slice_bounds-split_at-start
slice_bounds-split_at-start c =
    let (classes, s, begins, counts) = c.requires in
    (splits-at c.args.self.words.now classes s c.args.transitions _ begins counts refl).long

-- the class words are there
pub split_at-requires : goal.split_at-requires
split_at-requires c =
    let (classes, s, begins, counts) = c.requires in
    (splits-at c.args.self.words.now classes s c.args.transitions c.div_ceil.result begins counts c.div_ceil.ensures).enough

-- a class that is found has a target
pub bounds-targets-index : goal.bounds-targets-index
bounds-targets-index c =
    let (classes, s, begins, counts) = c.requires in
    let split = splits-at c.args.self.words.now classes s c.args.transitions c.div_ceil.result begins counts c.div_ceil.ensures in
    let within = place-within s.edges c.split_at.result.0.now (c.split_at.ensures.front ∙ split.front) c.args.class
    c.loop-index.index c.place_in-place.result split.small c.loop-index-test.true c.place_in-place.ensures
    c.if-place-lt-CLASSES_A_WORD.true in
    rw (c.split_at.ensures.back ∙ split.back, length-append (targets_of s.edges) split.more) (omega (arith, within))

-- it leads there
pub returns-then-place-lt-CLASSES_A_WORD : goal.returns-then-place-lt-CLASSES_A_WORD
returns-then-place-lt-CLASSES_A_WORD c = λ classes s h are counts.
    let split = splits-at c.args.self.words.now classes s c.args.transitions c.div_ceil.result h counts c.div_ceil.ensures in
    let front = c.split_at.ensures.front ∙ split.front in
    let at = 4 * c.loop-index.index + c.place_in-place.result in
    let within = place-within s.edges c.split_at.result.0.now front c.args.class c.loop-index.index c.place_in-place.result
    split.small c.loop-index-test.true c.place_in-place.ensures c.if-place-lt-CLASSES_A_WORD.true in
    let target = c.loop-index.invariant classes s h counts
    ∙ place-found s.edges c.split_at.result.0.now front c.args.class c.loop-index.index c.place_in-place.result
    split.small c.loop-index-test.true c.place_in-place.ensures c.if-place-lt-CLASSES_A_WORD.true in
    ap (λ (ns : List ℕ). Some (slice_index_or ns at 0)) (c.split_at.ensures.back ∙ split.back)
    ∙ ap Some (get_or_append_left (targets_of s.edges) split.more 0 at within ∙ sym target)
    ∙ named-some (target_by FAIL s.edges c.args.class) (λ none. target-named s.edges at are within (sym target ∙ none))

-- a class that isn't in a word is looked for in the next one
pub loop-index-preserved : goal.loop-index-preserved
loop-index-preserved c = λ classes s h are.
    let split = splits-at c.args.self.words.now classes s c.args.transitions c.div_ceil.result h are c.div_ceil.ensures in
    c.loop-index.invariant classes s h are
    ∙ place-missed s.edges c.split_at.result.0.now (c.split_at.ensures.front ∙ split.front) c.args.class
    c.loop-index.index c.place_in-place.result split.small c.loop-index-test.true c.place_in-place.ensures
    c.if-place-lt-CLASSES_A_WORD.false

-- one that is in no word has no transition
pub returns : goal.returns
returns c = λ classes s h are counts.
    let split = splits-at c.args.self.words.now classes s c.args.transitions c.div_ceil.result h counts c.div_ceil.ensures in
    named-none (target_by FAIL s.edges c.args.class)
    (c.loop-index.invariant classes s h counts
    ∙ none-left s.edges c.split_at.result.0.now (c.split_at.ensures.front ∙ split.front) c.args.class
    c.loop-index.index c.loop-index-test.false)
