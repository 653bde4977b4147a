use Rattle.ac_util.proofs.Prelude.{◌≡◌, ◌∙◌, ◌⊎◌, ◌-◌, ◌<◌, ◌≤◌, true, false, ℕ, [], ap, subst, refl, arith, inl, inr, common_steps, length, length-drop, drop, take, take_all}
use Rattle.ac_search.specs.PieceReplacements.{PieceReplacing, due_bytes}
use Rattle.ac_search.specs.Windows.{HasMadeRoom}
use Rattle.ac_search.proofs.PieceReplacerSteps.{fits-more, kept-shown, long-left, replacing-on, replacing-past, takes-on, takes-past}
use Rattle.ac_search.proofs.ahocorasick.piece_replacer.PieceReplacer.take_some.Given.{Over}
use Rattle.ac_search.proofs.ahocorasick.piece_replacer.PieceReplacer.take_some.Goals.{After-next-found, Joined-taken-gt0, then-taken-gt0, else-taken-gt0}
use Rattle.ac_search.proofs.ahocorasick.piece_replacer.PieceReplacer.take_some.Goals as goal

pub make_room-requires-clause-within : goal.make_room-requires-clause-within
make_room-requires-clause-within g c = rw (c.settled-from.ensures) (kept-shown c.self.invariant)

-- once the search has gone on
module _ (g : Over) (c : After-next-found g) where
  -- nothing is due
  clear : due_bytes c.self.inside.finder.bytes c.self.inside.texts c.self.inside.due ≡ []
  clear = ap (λ (v : PieceReplacing). v.due) c.self.view_is ∙ c.requires

  moved : HasMadeRoom c.self.inside.window c.self.inside.finder.kept c.make_room.new.self
  moved = subst (λ (n : ℕ). HasMadeRoom c.self.inside.window n c.make_room.new.self) c.settled-from.ensures c.make_room.ensures.moved

  -- and what is left of the piece is the end of it
  left-is : (n : ℕ) → take (length c.args.piece.now.now - n) (drop n c.args.piece.now.now) ≡ drop n c.args.piece.now.now
  left-is n = take_all _ _ (let l = length-drop n c.args.piece.now.now in omega arith)

pub overflow_sub-taken : goal.overflow_sub-taken
overflow_sub-taken g c =
    long-left c.self.invariant (clear g c) (moved g c) _ _ _ c.min-most.ensures c.room.ensures c.next-found.ensures

pub push-requires : goal.push-requires
push-requires g c =
    let d = (goal.at.push-requires g c).After-next-found in
    fits-more c.self.invariant (clear g d) (moved g d) _ _ _ c.min-most.ensures c.room.ensures c.next-found.ensures

pub invariant_of-self : goal.invariant_of-self
invariant_of-self g c =
    let d = (goal.at.invariant_of-self g c).After-next-found in
    replacing-past c.self.invariant (clear g d) (moved g d) _ _ _ c.min-most.ensures c.room.ensures c.in-Some.ensures c.in-Some.found
    c.in-Some.ensures.gives refl _ _ _ c.settled-from.ensures c.start.ensures (c.as_usize.ensures.value ∙ c.pattern.ensures) _ c.push.ensures

pub returns-in-Some-clause-takes : goal.returns-in-Some-clause-takes
returns-in-Some-clause-takes g c =
    let d = (goal.at.returns-in-Some-clause-takes g c).After-next-found in
    takes-past c.self.invariant (clear g d) (moved g d) _ _ _ c.min-most.ensures c.room.ensures c.in-Some.ensures c.in-Some.found
    c.in-Some.ensures.gives refl _ _ _ c.settled-from.ensures c.start.ensures (c.as_usize.ensures.value ∙ c.pattern.ensures)
    c.args.self.now c.self.view_is _ (left-is g d (c.min-most.result - length c.next-found.new.piece.now))

pub invariant_of-self-in-None : goal.invariant_of-self-in-None
invariant_of-self-in-None g c =
    let d = (goal.at.invariant_of-self-in-None g c).After-next-found in
    replacing-on c.self.invariant (clear g d) (moved g d) _ _ _ c.min-most.ensures c.room.ensures c.in-None.ensures c.in-None.ensures.gives
    _ _ c.settled-from.ensures c.settled-to.ensures _ c.push.ensures

-- without a match it goes on where bytes were taken, or more is settled
module _ (g : Over) (c : Joined-taken-gt0 g) where
  abbrev count : ℕ
  count = c.min-most.result - length c.next-found.new.piece.now

  when : c.if-taken-gt0.result ≡ true → (0 < count) ⊎ (c.self.inside.finder.kept < c.next-found.new.self.kept)
  when is = elim c.if-taken-gt0.branch [
    | then-taken-gt0 w ↦ inl w.if-taken-gt0.true
    | else-taken-gt0 w ↦ inr (grind (arith, common_steps))
  ]

  unless : c.if-taken-gt0.result ≡ false → (count ≡ 0) × (c.next-found.new.self.kept ≤ c.self.inside.finder.kept)
  unless is = elim c.if-taken-gt0.branch [
    | then-taken-gt0 w ↦ grind (arith, common_steps)
    | else-taken-gt0 w ↦ grind (arith, common_steps)
  ]

  -- there is room for more, or all that the window shows is still needed
  has-room : (length c.make_room.new.self.bytes < c.make_room.new.self.size) ⊎ (c.make_room.new.self.front ≡ c.self.inside.finder.kept)
  has-room =
      subst (λ (n : ℕ). (length c.make_room.new.self.bytes < c.make_room.new.self.size) ⊎ (c.make_room.new.self.front ≡ n))
      c.settled-from.ensures c.make_room.ensures.room

pub returns-after-taken-gt0-clause-takes : goal.returns-after-taken-gt0-clause-takes
returns-after-taken-gt0-clause-takes g c =
    let d = (goal.at.returns-after-taken-gt0-clause-takes g c).After-next-found in
    takes-on c.self.invariant (clear g d) (moved g d) _ _ _ c.min-most.ensures c.room.ensures c.in-None.ensures c.in-None.ensures.gives
    (has-room g c) c.if-taken-gt0.result (when g c) (unless g c) refl _ _ c.settled-from.ensures c.settled-to.ensures c.args.self.now
    c.self.view_is _ (left-is g d (c.min-most.result - length c.next-found.new.piece.now))

pub returns-in-Some-clause-so_far : goal.returns-in-Some-clause-so_far
returns-in-Some-clause-so_far g c =
    let d = (goal.at.returns-in-Some-clause-so_far g c).After-next-found in
    (replacing-past c.self.invariant (clear g d) (moved g d) _ _ _ c.min-most.ensures c.room.ensures c.in-Some.ensures c.in-Some.found
    c.in-Some.ensures.gives refl _ _ _ c.settled-from.ensures c.start.ensures (c.as_usize.ensures.value ∙ c.pattern.ensures) _
    c.push.ensures).so_far

pub returns-after-taken-gt0-clause-so_far : goal.returns-after-taken-gt0-clause-so_far
returns-after-taken-gt0-clause-so_far g c =
    let d = (goal.at.returns-after-taken-gt0-clause-so_far g c).After-next-found in
    (replacing-on c.self.invariant (clear g d) (moved g d) _ _ _ c.min-most.ensures c.room.ensures c.in-None.ensures c.in-None.ensures.gives
    _ _ c.settled-from.ensures c.settled-to.ensures _ c.push.ensures).so_far
