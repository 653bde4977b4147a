use Rattle.ac_util.proofs.Prelude.{length, refl, ap, arith, ◌∙◌, []}
use Rattle.ac_engines.specs.Prelude.{alphabet_len, No, plain_of, Filling}
use Rattle.ac_util.proofs.Reached.{stops}
use Rattle.ac_engines.proofs.Owning.{row-room}
use Rattle.ac_engines.proofs.OneRow.{start-led}
use Rattle.ac_engines.proofs.dfa.fill.Filler.fill_start.Goals as goal

pub lead_all-requires : goal.lead_all-requires
lead_all-requires g c =
    let (nodes, m) = c.requires in
    let size = length c.args.table.now in
    let row = c.number-start.ensures nodes size [] (rw c.must-sid.ensures.value m.row) in
    let room = row-room c.args.self.now nodes size 2 [] m.row No in
    let len = c.alphabet_len.ensures.value in
    let classes = ap (λ (f : Filling). alphabet_len f.classes) c.self.view_is in
    let fits = m.row.may.room in
    record { within = omega arith }

-- all classes led where none leads on, and over them its own transitions were set
pub returns : goal.returns
returns g c = λ nodes m.
    let f = c.args.self.now in
    let size = length c.args.table.now in
    let row = c.number-start.ensures nodes size [] (rw c.must-sid.ensures.value m.row) in
    let len = c.alphabet_len.ensures.value ∙ ap (λ (f : Filling). alphabet_len f.classes) c.self.view_is in
    let set = c.set_own.ensures nodes []
    (rw (c.lead_all.ensures.same_length, c.must-sid.ensures.value) m.row) in
    start-led f nodes size 2 [] m.row (stops f.trie.built.kind (plain_of f.trie.built) []) c.number-start.result
    c.default_target.result c.alphabet_len.result c.args.table.now c.lead_all.new.table c.set_own.new.table refl refl row
    c.default_target.ensures len c.lead_all.ensures.same_length (λ k from to. m.blank k to) c.lead_all.ensures.filled c.lead_all.ensures.beside set
