use Rattle.ac_util.proofs.Prelude.{◌≡◌, ◌∙◌, ℕ, ◌≤◌, Err, List, ap, sym, subst, arith, rules, common_steps}
use Rattle.ac_engines.specs.Prelude.{ANCHORED_START, START, HasCommits, common_of, Trie, automaton_of, AreRenumbered, Memory, GREATEST, Node, all_words, AreReady, contiguous_of, ContiguousSettings, ContiguousView, IsContiguous, MayPack, packed_of, Packer, PackPlan, places_of}
use Rattle.ac_engines.proofs.EngineCommits.{contiguous-commits, StandsPacked}
use Rattle.ac_engines.proofs.PackedBuilding.{memory-answers, packed-same, read-number, starts-placed}
use Rattle.ac_engines.proofs.nfa.contiguous.builder.Builder.build_from_noncontiguous.Goals as goal

-- each state has a place
pub pack-requires-clause-ready : goal.pack-requires-clause-ready
pack-requires-clause-ready g c =
    let (nodes, may) = c.new-plan.ensures.may in
    (nodes, record { may = may; places = rw c.deref.ensures.value (c.in-Ok.ensures.places nodes may) })

pub index-requires : goal.index-requires
index-requires g c =
    let (nodes, may) = c.new-plan.ensures.may in
    search (rules, starts-placed c.new-plan.result nodes c.in-Ok.numbers.list.items may (c.in-Ok.ensures.places nodes may))

pub index-requires-2 : goal.index-requires-2
index-requires-2 g c =
    let (nodes, may) = c.new-plan.ensures.may in
    search (rules, starts-placed c.new-plan.result nodes c.in-Ok.numbers.list.items may (c.in-Ok.ensures.places nodes may))

-- the words stand for the nodes
pub invariant_of-result : goal.invariant_of-result
invariant_of-result g c =
    let (nodes, packable) = c.new-plan.ensures.may in
    let plan = c.new-plan.ensures.value in
    let numbers = c.deref.ensures.value in
    let placed = starts-placed c.new-plan.result nodes c.in-Ok.numbers.list.items packable
    (c.in-Ok.ensures.places nodes packable) in
    let common : c.in_ok-clone-2.field-0 ≡ common_of c.args.nfa.now.built c.args.nfa.now.wants_prefilter =
    c.in_ok-clone-2.ensures.cases ∙ c.common.ensures in
    let view = contiguous_of c.in_ok-clone-2.field-0 c.self.inside.dense_depth c.classes_for-classes.result
    c.in_ok-words.words.items c.index.result.now c.index-2.result.now c.front_end-match_end.result in
    let packer : Packer = record { plan = c.new-plan.result; numbers = c.deref.result.now } in
    let same : (ns : List Node) → MayPack c.new-plan.result ns
    → view ≡ packed_of c.new-plan.result ns c.deref.result.now c.in_ok-words.words.items = λ ns may.
    packed-same c.new-plan.result ns c.deref.result.now c.in_ok-words.words.items
    c.in_ok-clone-2.field-0 c.self.inside.dense_depth c.classes_for-classes.result c.index.result.now
    c.index-2.result.now c.front_end-match_end.result
    (common ∙ ap (λ (q : PackPlan). common_of q.trie.built q.trie.wants_prefilter) (sym plan))
    may.are_nodes.is_trie.both
    (ap (λ (q : PackPlan). q.dense_depth) (sym plan)) (ap (λ (q : PackPlan). q.classes) (sym plan))
    (read-number c.in-Ok.numbers.list.items c.deref.result.now START c.index.result.now
    (omega (arith, placed)) (sym numbers) c.index.ensures)
    (read-number c.in-Ok.numbers.list.items c.deref.result.now ANCHORED_START c.index-2.result.now
    placed (sym numbers) c.index-2.ensures)
    (c.front_end-match_end.ensures ns may) in
    let stands : (ns : List Node) → MayPack c.new-plan.result ns → StandsPacked packer view ns = λ ns may.
    let ready : AreReady packer ns = record { may = may; places = rw numbers (c.in-Ok.ensures.places ns may) } in
    record {
      ready = ready;
      is = subst (λ (p : ContiguousView). IsContiguous p (places_of c.new-plan.result ns c.deref.result.now))
          (sym (same ns may)) (c.in_ok-words.ensures.packed ns ready);
    } in
    record {
      is_contiguous = (places_of c.new-plan.result nodes c.deref.result.now, (stands nodes packable).is);
      committed = contiguous-commits packer view (ap (λ (p : ContiguousView). p.built) (same nodes packable)) nodes packable.are_nodes
          (λ ns are. stands ns (record {
            are_nodes = are;
            classes = packable.classes;
            apart = packable.apart;
            few = packable.few;
            short = packable.short;
          })) _ _
          (subst (λ (ns : List ℕ). AreRenumbered ns c.commits.result.now c.in_ok-commits.commits.value)
          (c.deref-2.ensures.value ∙ sym numbers) c.in_ok-commits.ensures)
          (subst (λ (trie : Trie). HasCommits (automaton_of trie) c.commits.result.now)
          (ap (λ (q : PackPlan). q.trie) (sym plan)) c.commits.ensures);
    }

-- where memory is refused there are no more words than numbers
pub returns-in_err-commits : goal.returns-in_err-commits
returns-in_err-commits g c =
    let small : all_words c.new-plan.result ≤ GREATEST = grind (arith, common_steps, c.in_ok-len.ensures, c.in-Ok.ensures.all) in
    let is : c.from_residual-in_err-commits.result ≡ Err Memory = search rules in
    memory-answers c.args.self.now c.args.nfa.now c.new-plan.result c.self.inside.dense_depth c.self.inside.byte_classes
    c.classes_for-classes.result c.new-plan.ensures.value c.classes_for-classes.ensures.value
    (ap (λ (s : ContiguousSettings). s.dense_depth) c.self.view_is)
    (ap (λ (s : ContiguousSettings). s.byte_classes) c.self.view_is) small _ is

pub returns-in_err-clone-2 : goal.returns-in_err-clone-2
returns-in_err-clone-2 g c =
    let small : all_words c.new-plan.result ≤ GREATEST = grind (arith, common_steps, c.in_ok-len.ensures, c.in-Ok.ensures.all) in
    let is : c.from_residual-in_err-clone-2.result ≡ Err Memory = search rules in
    memory-answers c.args.self.now c.args.nfa.now c.new-plan.result c.self.inside.dense_depth c.self.inside.byte_classes
    c.classes_for-classes.result c.new-plan.ensures.value c.classes_for-classes.ensures.value
    (ap (λ (s : ContiguousSettings). s.dense_depth) c.self.view_is)
    (ap (λ (s : ContiguousSettings). s.byte_classes) c.self.view_is) small _ is
