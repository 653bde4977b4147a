use Rattle.ac_util.proofs.Prelude.{◌≡◌, ℕ, List, length, None, ap, sym, refl, ◌∙◌, rules}
use Rattle.ac_engines.specs.Prelude.{Both, No, Node, start_refusal, StartKind, Unanchored, Yes, FilledUpTo, Filling, FillsRow, FillsState, HasFilled, HasRow, MayFillRow, row_input}
use Rattle.ac_util.specs.declared.search.Anchored.{Anchored}
use Rattle.ac_util.specs.declared.search.StartKind.TheVariants.{Anchored as AnchoredAlone}
use Rattle.ac_engines.proofs.RowByRow.{both-filled, may-row, one-filled, only-anchored, only-unanchored, second-row}
use Rattle.ac_engines.proofs.dfa.fill.Filler.fill_state.Goals as goal

module _ (f : Filling) (sid : ℕ) (old : List ℕ) (kind : StartKind) (is : f.start_kind ≡ kind) where
  -- the row of a state may be filled where there is its start
  may : (anchored : Anchored) → start_refusal kind anchored ≡ None → (nodes : List Node) (w : List ℕ)
      → HasRow f nodes (length old) sid w → FilledUpTo f nodes (length old) sid old
      → MayFillRow f nodes (length old) sid w anchored old
  may anchored supported nodes w row up = may-row f nodes (length old) sid w row anchored old (rw is supported) up

  -- what was filled in a row, and in no other of the state
  one : (anchored : Anchored) → start_refusal kind anchored ≡ None
      → ((other : Anchored) → start_refusal f.start_kind other ≡ None → other ≡ anchored) → (new : List ℕ)
      → ((w : List ℕ) → FillsRow f sid w anchored old new) → FillsState f sid old new
  one anchored supported only new filled nodes w row up =
      one-filled f nodes (length old) sid w row anchored old new only up (filled w nodes (may anchored supported nodes w row up))

-- the row of unanchored searches is filled, and then the anchored one may be
first : (f : Filling) (sid : ℕ) (old between : List ℕ) → f.start_kind ≡ Both
    → ((w : List ℕ) → FillsRow f sid w No old between)
    → (nodes : List Node) (w : List ℕ) → HasRow f nodes (length old) sid w → FilledUpTo f nodes (length old) sid old
    → HasFilled (row_input f nodes) No w old between × MayFillRow f nodes (length between) sid w Yes between
first f sid old between is filled nodes w row up =
    search (
      rules,
      may,
      one,
      second-row,
      may f sid old Both is No refl nodes w row up,
      may f sid old Both is Yes refl nodes w row up,
    )

pub fill_row-requires : goal.fill_row-requires
fill_row-requires g c =
    let (nodes, w, row, up) = c.requires in
    let kind = sym (ap (λ (f : Filling). f.start_kind) c.self.view_is) ∙ c.in-Unanchored.is in
    (w, (nodes, may c.args.self.now c.args.sid c.args.table.now Unanchored kind No refl nodes w row up))

pub fill_row-requires-in-Anchored : goal.fill_row-requires-in-Anchored
fill_row-requires-in-Anchored g c =
    let (nodes, w, row, up) = c.requires in
    let kind = sym (ap (λ (f : Filling). f.start_kind) c.self.view_is) ∙ c.in-Anchored.is in
    (w, (nodes, may c.args.self.now c.args.sid c.args.table.now AnchoredAlone kind Yes refl nodes w row up))

pub fill_row-requires-in-Both : goal.fill_row-requires-in-Both
fill_row-requires-in-Both g c =
    let (nodes, w, row, up) = c.requires in
    let kind = sym (ap (λ (f : Filling). f.start_kind) c.self.view_is) ∙ c.in-Both.is in
    (w, (nodes, may c.args.self.now c.args.sid c.args.table.now Both kind No refl nodes w row up))

pub fill_row-requires-in-Both-2 : goal.fill_row-requires-in-Both-2
fill_row-requires-in-Both-2 g c =
    let (nodes, w, row, up) = c.requires in
    let kind = sym (ap (λ (f : Filling). f.start_kind) c.self.view_is) ∙ c.in-Both.is in
    (w, (nodes, (first c.args.self.now c.args.sid c.args.table.now _ kind c.fill_row-in-Both.ensures nodes w row up).1))

pub returns-in-Unanchored : goal.returns-in-Unanchored
returns-in-Unanchored g c =
    let kind = sym (ap (λ (f : Filling). f.start_kind) c.self.view_is) ∙ c.in-Unanchored.is in
    one c.args.self.now c.args.sid c.args.table.now Unanchored kind No refl
    (only-unanchored c.args.self.now.start_kind kind) c.fill_row.new.table c.fill_row.ensures

pub returns-in-Anchored : goal.returns-in-Anchored
returns-in-Anchored g c =
    let kind = sym (ap (λ (f : Filling). f.start_kind) c.self.view_is) ∙ c.in-Anchored.is in
    one c.args.self.now c.args.sid c.args.table.now AnchoredAlone kind Yes refl
    (only-anchored c.args.self.now.start_kind kind) c.fill_row-in-Anchored.new.table c.fill_row-in-Anchored.ensures

pub returns-in-Both : goal.returns-in-Both
returns-in-Both g c = λ nodes w row up.
    let kind = sym (ap (λ (f : Filling). f.start_kind) c.self.view_is) ∙ c.in-Both.is in
    let rows = first c.args.self.now c.args.sid c.args.table.now _ kind c.fill_row-in-Both.ensures nodes w row up in
    both-filled c.args.self.now nodes (length c.args.table.now) c.args.sid w row c.args.table.now
    c.fill_row-in-Both.new.table c.fill_row-in-Both-2.new.table kind up rows.0 (c.fill_row-in-Both-2.ensures w nodes rows.1)
