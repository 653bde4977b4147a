use Rattle.ac_util.proofs.Prelude.{◌∙◌, List, ℕ, Some, ap, sym, arith, slice_index_or, common_steps}
use Rattle.ac_engines.specs.Prelude.{target_by, named}
use Rattle.ac_engines.proofs.PackedWords.{has-failure, named-none, named-some, leads-at, leads-one, is-dense, is-one, is-sparse}
use Rattle.ac_engines.proofs.nfa.contiguous.state.State.target.Goals as goal

pub bounds-self-0 : goal.bounds-self-0
bounds-self-0 c =
    let (format, classes, s, begins, leads) = c.requires in
    grind (arith, common_steps, has-failure c.args.self.words.now classes s format begins)

-- a dense state has a target for each class
pub bounds-self-class : goal.bounds-self-class
bounds-self-class c =
    let (format, classes, s, begins, leads) = c.requires in
    let low_byte = ap (λ (ns : List ℕ). slice_index_or ns 0 0) c.to_le_bytes.ensures in
    let dense = is-dense c.args.self.words.now classes s format begins (sym low_byte ∙ c.if-form.true) in
    let (named, low) = leads in
    (leads-at c.args.self.words.now classes s c.args.class dense low).within

-- it leads there, unless nowhere
pub returns-then-target-eq-FAIL : goal.returns-then-target-eq-FAIL
returns-then-target-eq-FAIL c = λ format classes s h named low.
    let low_byte = ap (λ (ns : List ℕ). slice_index_or ns 0 0) c.to_le_bytes.ensures in
    let dense = is-dense c.args.self.words.now classes s format h (sym low_byte ∙ c.if-form.true) in
    let leads = leads-at c.args.self.words.now classes s c.args.class dense low in
    named-none _ (sym leads.target ∙ c.if-target-eq-FAIL.true)

pub returns-else-target-eq-FAIL : goal.returns-else-target-eq-FAIL
returns-else-target-eq-FAIL c = λ format classes s h named low.
    let low_byte = ap (λ (ns : List ℕ). slice_index_or ns 0 0) c.to_le_bytes.ensures in
    let dense = is-dense c.args.self.words.now classes s format h (sym low_byte ∙ c.if-form.true) in
    let leads = leads-at c.args.self.words.now classes s c.args.class dense low in
    ap Some leads.target ∙ named-some _ (λ none. c.if-target-eq-FAIL.false (leads.target ∙ none))

-- of a sparse one, the low byte is the number of its transitions
pub sparse_target-requires : goal.sparse_target-requires
sparse_target-requires c =
    let (format, classes, s, begins, leads) = c.requires in
    let low_byte = ap (λ (ns : List ℕ). slice_index_or ns 0 0) c.to_le_bytes.ensures in
    let sparse = is-sparse c.args.self.words.now classes s format begins (λ dense. c.if-form.false (low_byte ∙ dense))
    (λ one. c.if-form-2.true (low_byte ∙ one)) in
    (classes, s, sparse.begins, low_byte ∙ sparse.counts)

pub returns-then-form-2 : goal.returns-then-form-2
returns-then-form-2 c = λ format classes s h are low.
    let low_byte = ap (λ (ns : List ℕ). slice_index_or ns 0 0) c.to_le_bytes.ensures in
    let sparse = is-sparse c.args.self.words.now classes s format h (λ dense. c.if-form.false (low_byte ∙ dense))
    (λ one. c.if-form-2.true (low_byte ∙ one)) in
    c.sparse_target.ensures classes s sparse.begins are (low_byte ∙ sparse.counts)
    ∙ ap (λ (default_target : ℕ). named (target_by default_target s.edges c.args.class)) (sym sparse.begins.fits.1)

-- one transition has one target
pub bounds-self-2 : goal.bounds-self-2
bounds-self-2 c =
    let (format, classes, s, begins, leads) = c.requires in
    let low_byte = ap (λ (ns : List ℕ). slice_index_or ns 0 0) c.to_le_bytes.ensures in
    let one = is-one c.args.self.words.now classes s format begins (sym low_byte ∙ c.if-form-2.false) in
    (leads-one c.args.self.words.now classes s c.args.class one).within

pub returns-then-only-class : goal.returns-then-only-class
returns-then-only-class c = λ format classes s h are low.
    let low_byte = ap (λ (ns : List ℕ). slice_index_or ns 0 0) c.to_le_bytes.ensures in
    let next_byte = ap (λ (ns : List ℕ). slice_index_or ns 1 0) c.to_le_bytes.ensures in
    let one = is-one c.args.self.words.now classes s format h (sym low_byte ∙ c.if-form-2.false) in
    (leads-one c.args.self.words.now classes s c.args.class one).hit (sym next_byte ∙ c.if-only-class.true) are

-- by another class it leads nowhere
pub returns-else-only-class : goal.returns-else-only-class
returns-else-only-class c = λ format classes s h are low.
    let low_byte = ap (λ (ns : List ℕ). slice_index_or ns 0 0) c.to_le_bytes.ensures in
    let next_byte = ap (λ (ns : List ℕ). slice_index_or ns 1 0) c.to_le_bytes.ensures in
    let one = is-one c.args.self.words.now classes s format h (sym low_byte ∙ c.if-form-2.false) in
    (leads-one c.args.self.words.now classes s c.args.class one).fallback (λ same. c.if-only-class.false (next_byte ∙ same))
