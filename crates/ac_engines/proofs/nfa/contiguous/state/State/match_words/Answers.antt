use Rattle.ac_util.proofs.Prelude.{List, ℕ, ap, arith, slice_index_or, common_steps}
use Rattle.ac_engines.proofs.PackedWords.{dense-lists, has-failure, low-byte, sparse-lists}
use Rattle.ac_engines.proofs.nfa.contiguous.state.State.match_words.Goals as goal

pub bounds-self-0 : goal.bounds-self-0
bounds-self-0 c =
    let (format, s, begins, some) = c.requires in
    grind (arith, common_steps, has-failure c.args.self.words.now c.args.classes s format begins)

-- the matches of a dense state stand after the targets of all classes
pub slice_bounds-result-count : goal.slice_bounds-result-count
slice_bounds-result-count c =
    let (format, s, begins, some) = c.requires in
    (dense-lists c.args.self.words.now c.args.classes s format begins (low-byte _ _ 255 c.to_le_bytes.ensures c.if-form.true)).within

pub slice_bounds-result-start : goal.slice_bounds-result-start
slice_bounds-result-start c =
    let (format, s, begins, some) = c.requires in
    (dense-lists c.args.self.words.now c.args.classes s format begins (low-byte _ _ 255 c.to_le_bytes.ensures c.if-form.true)).within

pub returns-then-form : goal.returns-then-form
returns-then-form c = λ format s h some.
    (dense-lists c.args.self.words.now c.args.classes s format h (low-byte _ _ 255 c.to_le_bytes.ensures c.if-form.true)).lists

-- and those of a sparse one after the targets of its transitions
pub slice_bounds-result-count-2 : goal.slice_bounds-result-count-2
slice_bounds-result-count-2 c =
    let (format, s, begins, some) = c.requires in
    (sparse-lists c.args.self.words.now c.args.classes s format begins (slice_index_or c.to_le_bytes.result 0 0) c.div_ceil.result
    (ap (λ (ns : List ℕ). slice_index_or ns 0 0) c.to_le_bytes.ensures) c.if-form.false some c.div_ceil.ensures).within

pub slice_bounds-result-start-2 : goal.slice_bounds-result-start-2
slice_bounds-result-start-2 c =
    let (format, s, begins, some) = c.requires in
    (sparse-lists c.args.self.words.now c.args.classes s format begins (slice_index_or c.to_le_bytes.result 0 0) c.div_ceil.result
    (ap (λ (ns : List ℕ). slice_index_or ns 0 0) c.to_le_bytes.ensures) c.if-form.false some c.div_ceil.ensures).within

pub returns : goal.returns
returns c = λ format s h some.
    (sparse-lists c.args.self.words.now c.args.classes s format h (slice_index_or c.to_le_bytes.result 0 0) c.div_ceil.result
    (ap (λ (ns : List ℕ). slice_index_or ns 0 0) c.to_le_bytes.ensures) c.if-form.false some c.div_ceil.ensures).lists
