use Rattle.ac_util.proofs.Prelude.{◌≡◌, ℕ, ◌+◌, ◌-◌, ◌++◌, List, [], length, take, drop, None, Some, refl, ap, sym, subst, ◌∙◌, arith}
use Rattle.std.proofs.lemmas.List.{take_rest}
use Rattle.ac_automaton.specs.Prelude.{AutomatonView, CommitsView, GivesAt, IsFed, Node, No, SettlesBy, TakesFrom, in_hand, inside_of, matches_of, most_of, pending, streaming_by, ChainMatch, ChainRest}
use Rattle.ac_automaton.proofs.Pieces.{count}
use Rattle.ac_automaton.proofs.PieceSteps.{fed-as, fed-given, fed-held, fed-known, fits, settled, takes-as, takes-given, takes-known, takes-none, within}
use Rattle.ac_automaton.proofs.StreamKnown.{may-take-known}
use Rattle.ac_automaton.proofs.StreamNext.{core-is}
use Rattle.ac_automaton.proofs.automaton.pieces.PieceFinder.next.Given.{Over}
use Rattle.ac_automaton.proofs.automaton.pieces.PieceFinder.next.Goals.{After-chains, After-with-self-inside, In-Some, In-Some-given_settled, In_default-given_settled}
use Rattle.ac_automaton.proofs.automaton.pieces.PieceFinder.next.Goals as goal

-- what the search is, by the core that it shares
module _ (g : Over) (c : After-chains g) where
  abbrev a : AutomatonView
  a = g.A.Automaton.seen c.core-core.result.automaton.now

  abbrev commits : CommitsView
  commits = c.core-core.result.commits.now

  fed : IsFed a commits (inside_of c.core-core.result.start c.core-core.result.stops c.self.inside.reserve c.self.inside.history.bytes
      c.self.inside.state c.self.inside.read c.self.inside.rest c.self.inside.begun.value) c.self.inside.byte
      (streaming_by a.built c.self.inside.history.bytes c.self.inside.given.number 0 c.self.inside.kept c.self.inside.phase 0)
  fed =
      fed-as g.A.Automaton.seen (sym c.core-core.ensures.automaton) (sym c.core-core.ensures.commits) (sym c.core-core.ensures.start)
      (sym c.core-core.ensures.stops) refl c.self.invariant

pub take_next-requires : goal.take_next-requires
take_next-requires g c =
    let d = (goal.at.take_next-requires g c).After-chains in
    rw (c.chains.ensures) (record { may = may-take-known (a g d) (fed g d).streams (fed g d).unfailed })

-- the next match of a chain is given
takes : (g : Over) (c : In-Some g) → (r : ChainRest) × (c.self.inside.rest ≡ Some r)
    × TakesFrom (g.A.Automaton.seen c.core-core.result.automaton.now).built c.core-core.result.commits.now.chains r c.in-Some.found
    c.take_next.new.rest
takes g c =
    subst (λ (cs : List (List ChainMatch)). (r : ChainRest) × (c.self.inside.rest ≡ Some r)
    × TakesFrom (g.A.Automaton.seen c.core-core.result.automaton.now).built cs r c.in-Some.found c.take_next.new.rest)
    c.chains.ensures c.in-Some.ensures

pub invariant_of-self : goal.invariant_of-self
invariant_of-self g c =
    let d = (goal.at.invariant_of-self g c).After-chains in
    fed-as g.A.Automaton.seen c.core-core.ensures.automaton c.core-core.ensures.commits c.core-core.ensures.start c.core-core.ensures.stops
    refl (fed-known (a g d) (commits g d) (fed g d) c.in-Some.found c.take_next.new.rest (takes g (goal.at.invariant_of-self g c).In-Some)
    c.of-self-inside.result.value c.end-self-inside.result c.after-self-inside.result.number (c.of-self-inside.ensures ∙ c.end.ensures)
    c.end-self-inside.ensures c.after-self-inside.ensures)

pub returns-in-Some : goal.returns-in-Some
returns-in-Some g c =
    let d = (goal.at.returns-in-Some g c).After-chains in
    takes-as g.A.Automaton.seen c.core-core.ensures.automaton c.self.view_is refl refl refl
    (takes-known (a g d) (commits g d) (fed g d) c.in-Some.found c.take_next.new.rest (takes g (goal.at.returns-in-Some g c).In-Some)
    c.of-self-inside.result.value c.end-self-inside.result c.after-self-inside.result.number (c.of-self-inside.ensures ∙ c.end.ensures)
    c.end-self-inside.ensures c.after-self-inside.ensures c.args.piece.now.now)

pub given_settled-requires-clause-core : goal.given_settled-requires-clause-core
given_settled-requires-clause-core g c =
    let d = (goal.at.given_settled-requires-clause-core g c).After-chains in
    core-is (fed g d).streams refl (fed g d).commits

-- or none was left, and the piece was read
module _ (g : Over) (c : After-with-self-inside g) where
  abbrev piece : List ℕ
  piece = c.args.piece.now.now

  most-is : c.most_of-most.result ≡ most_of c.self.inside.phase (c.self.inside.read + in_hand c.self.inside.byte) (length piece)
  most-is =
      c.most_of-most.ensures
      ∙ ap (λ (n : ℕ). most_of c.self.inside.phase (c.self.inside.read + n) (length piece)) c.in_hand-held.ensures

  left : pending (g.A.Automaton.seen c.core-core.result.automaton.now).built c.core-core.result.commits.now.chains c.self.inside.rest ≡ []
  left =
      subst (λ (cs : List (List ChainMatch)). pending (g.A.Automaton.seen c.core-core.result.automaton.now).built cs c.self.inside.rest ≡ [])
      c.chains.ensures c.in_default.ensures.1

  lists : (u : Node) → (g.A.Automaton.seen c.core-core.result.automaton.now).stands No c.read_after-byte.new.cursor.state u
      → (g.A.Automaton.seen c.core-core.result.automaton.now).listed c.read_after-byte.new.cursor.state
      ≡ matches_of (g.A.Automaton.seen c.core-core.result.automaton.now).built No u
  lists = g.met.A.Automaton.lists c.core-core.result.automaton.now No c.read_after-byte.new.cursor.state

  abbrev here : After-chains g
  here = (goal.at.After-with-self-inside g c).After-chains

  abbrev counted : ℕ
  counted = count (a g here) (commits g here) (fed g here) piece c.most_of-most.result most-is c.read_after-byte.ensures

  abbrev taken : ℕ
  taken = c.read_after-byte.new.cursor.at + c.in_hand.result - c.in_hand-held.result

  count-is : counted ≡ taken
  count-is = let now = c.in_hand.ensures in let before = c.in_hand-held.ensures in omega arith

  bytes-are : c.self.inside.history.bytes ++ take counted piece ≡ c.with-self-inside.result.bytes
  bytes-are =
      ap (λ (n : ℕ). c.self.inside.history.bytes ++ take n piece) count-is ∙ sym c.with-self-inside.ensures

  left-is : drop counted piece ≡ take (length piece - taken) (drop taken piece)
  left-is = ap (λ (n : ℕ). drop n piece) count-is ∙ sym (take_rest piece taken)

-- what is settled of that is given
module _ (g : Over) (c : In-Some-given_settled g) where
  abbrev read : After-with-self-inside g
  read = (goal.at.In-Some-given_settled g c).After-with-self-inside

  pub is : SettlesBy c.core-core.result.stops c.read_after-byte.result c.self.inside.phase
      × GivesAt (g.A.Automaton.seen c.core-core.result.automaton.now) c.core-core.result.commits.now.chains c.core-core.result.start
      c.core-core.result.stops c.read_after-byte.new.cursor.state (Some c.in-Some-given_settled.given)
  is = c.in-Some-given_settled.ensures

pub overflow_sub-end : goal.overflow_sub-end
overflow_sub-end g c =
    let d = (goal.at.overflow_sub-end g c).In-Some-given_settled in let r = read g d in
    within _ _ (fed g (here g r)) (piece g r) c.most_of-most.result (most-is g r) c.read_after-byte.ensures (left g r) (lists g r)
    c.in-Some-given_settled.given (is g d)

pub match_ending-requires-clause-numbered : goal.match_ending-requires-clause-numbered
match_ending-requires-clause-numbered g c =
    let d = (goal.at.match_ending-requires-clause-numbered g c).In-Some-given_settled in let r = read g d in
    (settled _ _ (fed g (here g r)) (piece g r) c.most_of-most.result (most-is g r) c.read_after-byte.ensures (left g r) (lists g r)
    c.in-Some-given_settled.given (is g d)).numbered

pub match_ending-requires-clause-within : goal.match_ending-requires-clause-within
match_ending-requires-clause-within g c =
    let d = (goal.at.match_ending-requires-clause-within g c).In-Some-given_settled in let r = read g d in
    fits _ _ (fed g (here g r)) (piece g r) c.most_of-most.result (most-is g r) c.read_after-byte.ensures (left g r) (lists g r)
    c.in-Some-given_settled.given (is g d)

pub invariant_of-self-2 : goal.invariant_of-self-2
invariant_of-self-2 g c =
    let d = (goal.at.invariant_of-self-2 g c).In-Some-given_settled in let r = read g d in
    fed-as g.A.Automaton.seen c.core-core.ensures.automaton c.core-core.ensures.commits c.core-core.ensures.start c.core-core.ensures.stops
    (bytes-are g r)
    (fed-given (a g (here g r)) (commits g (here g r)) (fed g (here g r)) (piece g r) c.most_of-most.result (most-is g r)
    c.read_after-byte.ensures (left g r) (lists g r) c.in-Some-given_settled.given (is g d) c.chain_rest-self-inside.result
    c.chain_rest-self-inside.ensures c.of-self-inside-2.result.value c.after-self-inside-2.result.number c.of-self-inside-2.ensures
    c.after-self-inside-2.ensures)

pub returns : goal.returns
returns g c =
    let d = (goal.at.returns g c).In-Some-given_settled in let r = read g d in
    takes-as g.A.Automaton.seen c.core-core.ensures.automaton c.self.view_is (bytes-are g r) (left-is g r) refl
    (takes-given (a g (here g r)) (commits g (here g r)) (fed g (here g r)) (piece g r) c.most_of-most.result (most-is g r)
    c.read_after-byte.ensures (left g r) (lists g r) c.in-Some-given_settled.given (is g d) c.chain_rest-self-inside.result
    c.chain_rest-self-inside.ensures c.of-self-inside-2.result.value c.after-self-inside-2.result.number c.of-self-inside-2.ensures
    c.after-self-inside-2.ensures c.match_ending.result c.match_ending.ensures)

-- or nothing is
module _ (g : Over) (c : In_default-given_settled g) where
  abbrev read' : After-with-self-inside g
  read' = (goal.at.In_default-given_settled g c).After-with-self-inside

  pub nothing : SettlesBy c.core-core.result.stops c.read_after-byte.result c.self.inside.phase
      → GivesAt (g.A.Automaton.seen c.core-core.result.automaton.now) c.core-core.result.commits.now.chains c.core-core.result.start
      c.core-core.result.stops c.read_after-byte.new.cursor.state None
  nothing = c.in_default-given_settled.ensures

pub invariant_of-self-in_default-given_settled : goal.invariant_of-self-in_default-given_settled
invariant_of-self-in_default-given_settled g c =
    let d = (goal.at.invariant_of-self-in_default-given_settled g c).In_default-given_settled in let r = read' g d in
    fed-as g.A.Automaton.seen c.core-core.ensures.automaton c.core-core.ensures.commits c.core-core.ensures.start c.core-core.ensures.stops
    (bytes-are g r)
    (fed-held (a g (here g r)) (commits g (here g r)) (fed g (here g r)) (piece g r) c.most_of-most.result (most-is g r)
    c.read_after-byte.ensures (left g r) (lists g r) (nothing g d) c.settled_from-self-inside.result c.settled_from-self-inside.ensures
    c.take_next.new.rest c.in_default.ensures.0)

pub returns-in_default-given_settled : goal.returns-in_default-given_settled
returns-in_default-given_settled g c =
    let d = (goal.at.returns-in_default-given_settled g c).In_default-given_settled in let r = read' g d in
    takes-as g.A.Automaton.seen c.core-core.ensures.automaton c.self.view_is (bytes-are g r) (left-is g r) refl
    (takes-none (a g (here g r)) (commits g (here g r)) (fed g (here g r)) (piece g r) c.most_of-most.result (most-is g r)
    c.read_after-byte.ensures (left g r) (lists g r) (nothing g d) c.settled_from-self-inside.result c.settled_from-self-inside.ensures
    c.take_next.new.rest c.in_default.ensures.0)
