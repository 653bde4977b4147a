-- What a state lists along its output links are the matches of its node.
use Rattle.ac_util.proofs.Prelude.{◌≡◌, ◌≢◌, ℕ, zero, suc, ◌+◌, ◌-◌, ◌≤◌, ◌<◌, List, [], ◌∷◌, ◌++◌, length, get_or, drop, refl, ap, sym, ◌∙◌, arith, None, rules, drop-append-add, drop-append-le, get_or-drop, get_or-take, get_or_default, common_steps}
use Rattle.ac_automaton.specs.Prelude.{Node, all_matches, DEAD, HasState, listed_within, TrieView, Represents, State, state_at, state_patterns}
use Rattle.ac_automaton.proofs.Follows.{represented}

-- what is left of a list from one of its elements on begins with that element
drop-here : (xs : List ℕ) (k : ℕ) → k < length xs → drop k xs ≡ get_or xs k 0 ∷ drop (k + 1) xs
drop-here [] k h = absurd (omega arith)
drop-here (x ∷ xs) zero h = refl
drop-here (x ∷ xs) (suc k) h = search (rules, drop-here xs k (omega arith))

module _ (g : TrieView) (states : List State) where
  -- the first state stands for the dead node alone
  dead_first : (s : ℕ) (v : Node) → HasState g states s v → s ≡ DEAD → v ≡ None
  dead_first s v h first = let dead = h.meant.dead in let named = rw first at h.named in cc

  module _ (s : ℕ) (v : Node) (t : State) (h : HasState g states s v) (r : Represents g s v t) where
    -- the matches of the node are the state's patterns, and those of the node that its output link leads to
    pub all-listed : all_matches g v ≡ state_patterns g.order t ++ all_matches g r.links.linked
    all-listed = r.links.finds ∙ ap (λ (ns : List ℕ). ns ++ all_matches g r.links.linked) (sym r.patterns)

    -- a state stands for the node that the output link leads to
    pub linked-state : HasState g states t.output_link r.links.linked
    linked-state = grind (arith, common_steps)

    -- the state has as many patterns as its range says
    pub length-state_patterns : length (state_patterns g.order t) ≡ t.patterns_end - t.patterns
    length-state_patterns = grind (arith, common_steps)

    -- nothing is found through an output link to the dead state
    pub none-linked : t.output_link ≡ DEAD → all_matches g r.links.linked ≡ []
    none-linked first = ap (all_matches g) (dead_first t.output_link r.links.linked linked-state first)

    -- how many the node finds
    pub length-listed : length (all_matches g v) ≡ (t.patterns_end - t.patterns) + length
        (all_matches g r.links.linked)
    length-listed = grind (arith, common_steps)

    -- from one of its own on
    pub patterns-from : (k : ℕ) → k < t.patterns_end - t.patterns
        → drop k (all_matches g v) ≡ get_or g.order (t.patterns + k) 0 ∷ drop (k + 1) (all_matches g v)
    patterns-from k inside = search (rules, drop-append-le, drop-here, get_or-drop, get_or-take, length-state_patterns)

    -- and from one of the others on
    pub linked-from : (k : ℕ) → t.patterns_end - t.patterns ≤ k
        → drop k (all_matches g v) ≡ drop (k - (t.patterns_end - t.patterns)) (all_matches g r.links.linked)
    linked-from k past = search (rules, all-listed, drop-append-add, length-state_patterns)

  -- along the output links, of which there are no more than the state's number says, the state lists the
  -- matches of its node
  pub listed_within-matches : (n s : ℕ) (v : Node) → HasState g states s v → s ≤ n
      → listed_within g.order states n s ≡ all_matches g v
  listed_within-matches zero s v h few = sym (ap (all_matches g) (dead_first s v h (omega arith)))
  listed_within-matches (suc n) s v h few =
      let t = state_at states s in
      let r = h.meant.each s v h.there h.named in
      let back = r.links.back in
      ap (λ (ns : List ℕ). state_patterns g.order t ++ ns)
      (listed_within-matches n t.output_link r.links.linked (linked-state s v t h r) (omega arith))
      ∙ sym (all-listed s v t h r)

  -- the walk along the output links is at a state, and has counted what is listed before it
  pub record Counting (u : Node) (at count : ℕ) : Type 0 where
    pub node : Node
    pub state : HasState g states at node
    pub counted : length (all_matches g u) ≡ count + length (all_matches g node)

  -- the walk is at a state, in whose list the matches stand that are sought
  pub record Seeking (u : Node) (index at left : ℕ) : Type 0 where
    pub node : Node
    pub state : HasState g states at node
    pub same : drop index (all_matches g u) ≡ drop left (all_matches g node)

  module _ (u : Node) (s : ℕ) (t : State) (is : t ≡ get_or states s t) where
    -- one state more is counted
    pub counting-on : (count : ℕ) → Counting u s count → Counting u t.output_link
        (count + (t.patterns_end - t.patterns))
    counting-on count o = search (rules, represented g states s o.node t o.state is, length-listed)

    -- and where the output link is to the dead state, that was all
    pub counting-end : (count : ℕ) → Counting u s count → t.output_link ≡ DEAD
        → count + (t.patterns_end - t.patterns) ≡ length (all_matches g u)
    counting-end count o last = grind (arith, common_steps, represented g states s o.node t o.state is)

    module _ (index left : ℕ) (o : Seeking u index s left) where
      -- the first of them is one of the state's own
      pub seeking-here : (x : ℕ) → left < t.patterns_end - t.patterns → x ≡ get_or g.order (t.patterns + left) x
          → drop index (all_matches g u) ≡ x ∷ drop (left + 1) (all_matches g o.node)
      seeking-here x inside found =
          let r = represented g states s o.node t o.state is in
          let within = r.within in
          o.same ∙ patterns-from s o.node t o.state r left inside
          ∙ ap (λ (n : ℕ). n ∷ drop (left + 1) (all_matches g o.node))
          (get_or_default g.order (t.patterns + left) 0 x (omega arith) ∙ sym found)

      -- or they are looked for through the output link
      pub seeking-on : t.patterns_end - t.patterns ≤ left → Seeking u index t.output_link
          (left - (t.patterns_end - t.patterns))
      seeking-on past = grind (arith, common_steps, represented g states s o.node t o.state is, linked-from)

      -- and where that is to the dead state there are no more
      pub seeking-end : t.patterns_end - t.patterns ≤ left → t.output_link ≡ DEAD
          → drop index (all_matches g u) ≡ []
      seeking-end past last = grind (arith, common_steps, represented g states s o.node t o.state is)

      -- any other output link leads to a smaller number
      pub seeking-back : t.output_link ≢ DEAD → t.output_link < s
      seeking-back linked = search (rules, represented g states s o.node t o.state is)
