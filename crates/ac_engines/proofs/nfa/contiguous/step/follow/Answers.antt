use Rattle.ac_util.proofs.Prelude.{◌≡◌, ℕ, ◌<◌, List, length, refl, Some, None, ap, sym, subst, ◌∙◌, arith, rules, false≢true}
use Rattle.ac_engines.specs.Prelude.{alphabet_len, class_at, Counts, No, Node, Yes, step_of, BeginsWith, ContiguousView, FAIL, IsContiguousState, named, node_format, packed_at, target_by}
use Rattle.ac_util.specs.declared.search.Anchored.{Anchored}
use Rattle.ac_util.proofs.ClassLists.{class_at-below}
use Rattle.ac_engines.proofs.Follow.{WalkHasEnded, WalkGoesOnward, onward-start, ends-anchored, ends-target, begins-at, goes-on, stands-small, stands-within}
use Rattle.ac_engines.proofs.PackedSteps.{are-named, target_of}
use Rattle.ac_engines.proofs.PackedWords.{none-named, some-named}
use Rattle.ac_engines.proofs.nfa.contiguous.step.follow.Goals as goal
use Rattle.ac_engines.proofs.nfa.contiguous.step.follow.Goals.{After-look}

pub loop-next-init : goal.loop-next-init
loop-next-init c = search (rules, onward-start)

pub at-state-requires : goal.at-state-requires
at-state-requires c =
    let (p, b, u, same, byte, class, h) = c.requires.state in
    let o = c.loop-next.invariant p b u same byte class h in
    let within = stands-within p c.args.anchored c.loop-next.at o.node o.stands in
    let long = ap (λ (ws : List ℕ). length ws) same in
    omega arith

-- the class is one of those that there are
below : (p : ContiguousView) (anchored : Anchored) (s b class : ℕ) (u : Node) → IsContiguousState p anchored s u → b < 256
    → class ≡ class_at p.classes b → class < alphabet_len p.classes
below p anchored s b class u h byte is = let small = class_at-below p.classes h.is_contiguous.classes b byte in omega arith

pub look-requires : goal.look-requires
look-requires c =
    let (p, b, u, same, byte, class, h) = c.requires.state in
    let o = c.loop-next.invariant p b u same byte class h in (
      node_format p.built p.dense_depth o.node,
      alphabet_len p.classes,
      packed_at p o.stands.at c.args.anchored o.node,
      begins-at p c.args.anchored c.loop-next.at o.node o.stands c.args.words.now c.at-state.result.words.now same
          c.at-state.ensures,
      (
        are-named p o.stands.at o.stands.is_contiguous c.args.anchored o.node,
        below p c.args.anchored c.args.from b c.args.class u h byte class,
      ),
    )

module _ (c : After-look) (p : ContiguousView) (b : ℕ) (u : Node) (same : p.words ≡ c.args.words.now) (byte : b < 256)
    (class : c.args.class ≡ class_at p.classes b) (h : IsContiguousState p c.args.anchored c.args.from u) where
  abbrev here : WalkGoesOnward p c.args.anchored b u c.args.looks.now c.loop-next.looks c.loop-next.at
  here = c.loop-next.invariant p b u same byte class h

  -- the words that were read are those of the walk's state
  abbrev begins : BeginsWith c.at-state.result.words.now (node_format p.built p.dense_depth here.node) (alphabet_len p.classes)
      (packed_at p here.stands.at c.args.anchored here.node)
  begins =
      begins-at p c.args.anchored c.loop-next.at here.node here.stands c.args.words.now c.at-state.result.words.now same
      c.at-state.ensures

  -- what was read is where the class leads, if anywhere
  target-is : c.look.result ≡ named (target_of p here.stands.at c.args.anchored here.node b)
  target-is =
      c.look.ensures.target (node_format p.built p.dense_depth here.node) (alphabet_len p.classes)
      (packed_at p here.stands.at c.args.anchored here.node) begins
      (are-named p here.stands.at here.stands.is_contiguous c.args.anchored here.node)
      (below p c.args.anchored c.args.from b c.args.class u h byte class)
      ∙ ap (λ (class : ℕ). named (target_by (packed_at p here.stands.at c.args.anchored here.node).default_target
      (packed_at p here.stands.at c.args.anchored here.node).edges class)) class

  -- at a target the walk ends
  at-target : (next : ℕ) → c.look.result ≡ Some next → WalkHasEnded p c.args.anchored b u c.args.looks.now c.look.new.looks next
  at-target next some =
      let is = some-named (target_of p here.stands.at c.args.anchored here.node b) next (sym target-is ∙ some) in
      ends-target p c.args.anchored b u c.args.looks.now c.loop-next.looks c.look.new.looks c.loop-next.at here
      c.look.ensures.counted next byte is.0 is.1

  -- where there is none, it is at the number of no state
  at-none : c.look.result ≡ None → target_of p here.stands.at c.args.anchored here.node b ≡ FAIL
  at-none none = none-named (target_of p here.stands.at c.args.anchored here.node b) (sym target-is ∙ none)

  -- or at the dead state, if it is anchored
  at-dead : c.look.result ≡ None → c.args.anchored ≡ Yes
      → WalkHasEnded p c.args.anchored b u c.args.looks.now c.look.new.looks 0
  at-dead none is-yes =
      ends-anchored p c.args.anchored b u c.args.looks.now c.loop-next.looks c.look.new.looks c.loop-next.at here
      c.look.ensures.counted byte (at-none none) is-yes

pub must-requires : goal.must-requires
must-requires c =
    let (p, b, u, same, byte, class, h) = c.requires.state in
    let e = at-target (goal.at.must-requires c).After-look p b u same byte class h c.in-Some.next c.in-Some.is in
    record { small = stands-small p c.args.anchored c.in-Some.next _ e.steps }

pub returns-in-Some-clause-steps : goal.returns-in-Some-clause-steps
returns-in-Some-clause-steps c = λ p b u same byte class h.
    let d = (goal.at.returns-in-Some-clause-steps c).After-look in
    let e = at-target d p b u same byte class h c.in-Some.next c.in-Some.is in
    subst (λ (s : ℕ). IsContiguousState p c.args.anchored s (step_of p.built c.args.anchored u b)) (sym c.must.ensures.value) e.steps

pub returns-in-Some-clause-looks : goal.returns-in-Some-clause-looks
returns-in-Some-clause-looks c = λ p b u same byte class h.
    let d = (goal.at.returns-in-Some-clause-looks c).After-look in
    (at-target d p b u same byte class h c.in-Some.next c.in-Some.is).looks

pub returns-then-is_anchored-clause-steps : goal.returns-then-is_anchored-clause-steps
returns-then-is_anchored-clause-steps c = λ p b u same byte class h.
    let d = (goal.at.returns-then-is_anchored-clause-steps c).After-look in
    let none : c.look.result ≡ None = simp c.in_default.is in
    let is-yes : c.args.anchored ≡ Yes = c.if-is_anchored.ensures.0 refl in
    let e = at-dead d p b u same byte class h none is-yes in
    subst (λ (s : ℕ). IsContiguousState p c.args.anchored s (step_of p.built c.args.anchored u b))
    (sym c.must-then-is_anchored.ensures.value) e.steps

pub returns-then-is_anchored-clause-looks : goal.returns-then-is_anchored-clause-looks
returns-then-is_anchored-clause-looks c = λ p b u same byte class h.
    let d = (goal.at.returns-then-is_anchored-clause-looks c).After-look in
    let none : c.look.result ≡ None = simp c.in_default.is in
    let is-yes : c.args.anchored ≡ Yes = c.if-is_anchored.ensures.0 refl in
    (at-dead d p b u same byte class h none is-yes).looks

pub fail-at-requires : goal.fail-at-requires
fail-at-requires c =
    let (p, b, u, same, byte, class, h) = c.requires.state in
    let d = (goal.at.fail-at-requires c).After-look in
    let o = here d p b u same byte class h in (
      node_format p.built p.dense_depth o.node,
      alphabet_len p.classes,
      packed_at p o.stands.at c.args.anchored o.node,
      begins d p b u same byte class h,
      tt,
    )

pub loop-next-smaller : goal.loop-next-smaller
loop-next-smaller c =
    let (p, b, u, same, byte, class, h) = c.requires.state in
    let o = c.loop-next.invariant p b u same byte class h in
    let counted = ap (λ (k : Counts). k.looks) o.counted in
    let short = o.short in
    let more = ap (λ (k : Counts). k.looks) c.look.ensures.counted in
    omega arith

-- a search that isn't anchored is unanchored
not-yes : (anchored : Anchored) → (anchored ≡ Yes → ⊥) → anchored ≡ No
not-yes No other = refl
not-yes Yes other = absurd (other refl)

-- else it goes on
pub loop-next-preserved : goal.loop-next-preserved
loop-next-preserved c = λ p b u same byte class h.
    let d = (goal.at.loop-next-preserved c).After-look in
    let o = here d p b u same byte class h in
    let none : c.look.result ≡ None = simp c.in_default.is in
    let is-no = not-yes c.args.anchored (λ is-yes. false≢true (c.if-is_anchored.ensures.1 is-yes)) in
    let failure =
    c.fail-at.ensures (node_format p.built p.dense_depth o.node) (alphabet_len p.classes) (packed_at p o.stands.at c.args.anchored o.node)
    (begins d p b u same byte class h) in
    goes-on p c.args.anchored b u c.args.looks.now c.loop-next.looks c.look.new.looks c.loop-next.at o c.look.ensures.counted
    c.fail-at.result byte (at-none d p b u same byte class h none) is-no failure
