use Rattle.ac_util.proofs.Prelude.{◌≡◌, ◌+◌, ◌-◌, ◌∙◌, List, ℕ, length, take, drop, refl, ap, sym, arith, slice_index_or, length-map, common_steps}
use Rattle.ac_engines.proofs.PackedWords.{dense-lists, has-failure, is-one, is-sparse, leads-one, low-byte, splits-at}
use Rattle.ac_engines.proofs.Transitions.{dense-transitions, one-transition, sparse-targets, sparse-transitions}
use Rattle.ac_engines.proofs.nfa.contiguous.state.State.transitions.Goals as goal

-- a state has two words at least
pub bounds-self-0 : goal.bounds-self-0
bounds-self-0 c =
    let (format, s, begins) = c.requires in
    grind (arith, common_steps, has-failure c.args.self.words.now c.args.classes s format begins)

pub slice_bounds-split_at-count : goal.slice_bounds-split_at-count
slice_bounds-split_at-count c =
    let (format, s, begins) = c.requires in
    grind (arith, common_steps, has-failure c.args.self.words.now c.args.classes s format begins)

pub slice_bounds-split_at-start : goal.slice_bounds-split_at-start
slice_bounds-split_at-start c =
    let (format, s, begins) = c.requires in
    grind (arith, common_steps, has-failure c.args.self.words.now c.args.classes s format begins)

-- the targets of a dense state are there
pub slice_bounds-result-end : goal.slice_bounds-result-end
slice_bounds-result-end c =
    let (format, s, begins) = c.requires in
    (dense-lists c.args.self.words.now c.args.classes s format begins (low-byte _ _ 255 c.to_le_bytes.ensures c.if-form.true)).within

-- a dense state has a target for each class
pub returns-then-form : goal.returns-then-form
returns-then-form c = λ format s h.
    let count : 2 + c.args.classes - 2 ≡ c.args.classes = omega arith in
    dense-transitions c.args.self.words.now c.args.classes s _ format h (low-byte _ _ 255 c.to_le_bytes.ensures c.if-form.true)
    (ap (λ (n : ℕ). take n (drop 2 c.args.self.words.now)) count)

pub slice_bounds-result-end-then-form-2 : goal.slice_bounds-result-end-then-form-2
slice_bounds-result-end-then-form-2 c =
    let (format, s, begins) = c.requires in
    let one = is-one c.args.self.words.now c.args.classes s format begins (low-byte _ _ 254 c.to_le_bytes.ensures c.if-form-2.true) in
    let long = (leads-one c.args.self.words.now c.args.classes s 0 one).within in
    omega (arith, long)

-- one transition has one target, and its class stands beside the form
pub returns-then-form-2 : goal.returns-then-form-2
returns-then-form-2 c = λ format s h.
    let next_byte = ap (λ (ns : List ℕ). slice_index_or ns 1 0) c.to_le_bytes.ensures in
    one-transition c.args.self.words.now c.args.classes s _ format _ h
    (low-byte _ _ 254 c.to_le_bytes.ensures c.if-form-2.true) next_byte refl

-- a sparse state has its class words and its targets
pub split_at-requires : goal.split_at-requires
split_at-requires c =
    let (format, s, begins) = c.requires in
    let low_byte = ap (λ (ns : List ℕ). slice_index_or ns 0 0) c.to_le_bytes.ensures in
    let sparse = is-sparse c.args.self.words.now c.args.classes s format begins (λ dense. c.if-form.false (low_byte ∙ dense))
    (λ one. c.if-form-2.false (low_byte ∙ one)) in
    (splits-at c.args.self.words.now c.args.classes s _ c.div_ceil.result sparse.begins (low_byte ∙ sparse.counts)
    c.div_ceil.ensures).enough

pub slice_bounds-result-end-2 : goal.slice_bounds-result-end-2
slice_bounds-result-end-2 c =
    let (format, s, begins) = c.requires in
    let low_byte = ap (λ (ns : List ℕ). slice_index_or ns 0 0) c.to_le_bytes.ensures in
    let sparse = is-sparse c.args.self.words.now c.args.classes s format begins (λ dense. c.if-form.false (low_byte ∙ dense))
    (λ one. c.if-form-2.false (low_byte ∙ one)) in
    let counts = low_byte ∙ sparse.counts in
    let are = sparse-targets c.args.self.words.now c.args.classes s _ _ c.div_ceil.result sparse.begins counts
    c.div_ceil.ensures (ap (λ (ns : List ℕ). take (slice_index_or c.to_le_bytes.result 0 0) ns) c.split_at.ensures.back) in
    counts ∙ sym (ap (λ (ns : List ℕ). length ns) are ∙ length-map s.edges (λ e. e.target))

pub returns : goal.returns
returns c = λ format s h.
    let low_byte = ap (λ (ns : List ℕ). slice_index_or ns 0 0) c.to_le_bytes.ensures in
    sparse-transitions c.args.self.words.now c.args.classes s _ format _ c.div_ceil.result c.split_at.result.0 h low_byte
    c.if-form.false c.if-form-2.false c.div_ceil.ensures c.split_at.ensures.front
    (ap (λ (ns : List ℕ). take (slice_index_or c.to_le_bytes.result 0 0) ns) c.split_at.ensures.back)
