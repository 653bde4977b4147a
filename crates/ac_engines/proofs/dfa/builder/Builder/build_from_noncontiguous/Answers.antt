use Rattle.ac_util.proofs.Prelude.{◌≡◌, ◌∙◌, ℕ, List, refl, subst}
use Rattle.ac_engines.specs.Prelude.{common_of, AreNodes, Node, AreRenumbered, first_row_in}
use Rattle.ac_engines.proofs.Assembled.{are-table, has-matches-among, may-fill, planned}
use Rattle.ac_engines.proofs.EngineCommits.{dfa-commits}
use Rattle.ac_engines.proofs.dfa.builder.Builder.build_from_noncontiguous.Goals as goal

-- the rows that were laid out can be filled
pub filled_table-requires : goal.filled_table-requires
filled_table-requires g c =
    let (nodes, are_nodes) = c.len_for.ensures.numbered in
    let (long, fits) = c.in_ok-len.ensures.len in
    let plan = planned c.args.nfa.now c.self.inside.start_kind c.self.inside.byte_classes _ _ _ _
    c.classes_for-classes.ensures.value c.stride2-stride2.ensures.value c.stride.ensures long fits in
    record {
      may = (
        nodes,
        rw (plan.width_is, c.deref.ensures.value, plan.len_is) (may-fill c.args.nfa.now c.self.inside.start_kind _ _ _ nodes _ _ _ _
            plan.has are_nodes (c.in_ok-layout.ensures nodes are_nodes) plan.few),
      );
    }

-- the rows stand for the nodes
pub invariant_of-result : goal.invariant_of-result
invariant_of-result g c =
    let (nodes, are_nodes) = c.len_for.ensures.numbered in
    let (long, fits) = c.in_ok-len.ensures.len in
    let plan = planned c.args.nfa.now c.self.inside.start_kind c.self.inside.byte_classes _ _ _ _
    c.classes_for-classes.ensures.value c.stride2-stride2.ensures.value c.stride.ensures long fits in
    let layout = c.in_ok-layout.layout in
    let laid = c.in_ok-layout.ensures nodes are_nodes in
    let may = λ (ns : List Node) (are : AreNodes c.args.nfa.now ns).
    may-fill c.args.nfa.now c.self.inside.start_kind c.classes_for-classes.result c.stride2-stride2.result
    layout.numbers.items ns _ layout.lists layout.first_match layout.match_end plan.has are (c.in_ok-layout.ensures ns are) plan.few in
    let filled = rw (plan.width_is, c.deref.ensures.value, plan.len_is) at c.in_ok-table.ensures.filled in
    let is = λ (ns : List Node) (are : AreNodes c.args.nfa.now ns).
    are-table
    c.args.nfa.now c.self.inside.start_kind c.classes_for-classes.result c.stride2-stride2.result
    layout.numbers.items ns _ (may ns are) c.in_ok-table.table.items layout.lists layout.first_match layout.match_end
    (filled ns (may ns are)) (c.in_ok-layout.ensures ns are) in
    let common : c.in_ok-clone-3.field-0 ≡ common_of c.args.nfa.now.built c.args.nfa.now.wants_prefilter =
    c.in_ok-clone-3.ensures.cases ∙ c.common.ensures in
    rw common (record {
      is_dfa = (first_row_in nodes layout.numbers.items, is nodes are_nodes);
      few = c.stride2-stride2.ensures.small;
      start = c.start_of.ensures;
      anchored_start = c.start_of-2.ensures;
      among = has-matches-among c.args.nfa.now
          c.self.inside.start_kind c.classes_for-classes.result c.stride2-stride2.result layout.numbers.items nodes _
          (may nodes are_nodes) c.in_ok-table.table.items layout.lists layout.first_match layout.match_end
          (filled nodes (may nodes are_nodes)) laid;
      committed = dfa-commits _ _ _ refl nodes are_nodes (λ ns are. record { may = may ns are; is = is ns are }) _ _
          (subst (λ (numbers : List ℕ). AreRenumbered numbers c.commits.result.now c.in_ok-commits.commits.value)
          c.deref-2.ensures.value c.in_ok-commits.ensures)
          c.commits.ensures;
    })
