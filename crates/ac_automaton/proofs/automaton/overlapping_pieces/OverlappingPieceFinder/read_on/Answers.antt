use Rattle.ac_util.proofs.Prelude.{◌≡◌, ◌++◌, ◌-◌, ◌+◌, List, ℕ, length, take, drop, subst, sym}
use Rattle.std.proofs.lemmas.List.{take_rest}
use Rattle.ac_automaton.specs.Prelude.{AutomatonView, IsPieceListing, matches_of, No, Node, PieceListing, Reached, ReadsThrough, TakesToItem, listed_taken, piece_listing, scan_of}
use Rattle.ac_automaton.proofs.OverlappingPieces.{lives, stands-on, takes-nothing, takes-on}
use Rattle.ac_automaton.proofs.automaton.overlapping_pieces.OverlappingPieceFinder.read_on.Given.{Over}
use Rattle.ac_automaton.proofs.automaton.overlapping_pieces.OverlappingPieceFinder.read_on.Goals.{After-with-self-inside}
use Rattle.ac_automaton.proofs.automaton.overlapping_pieces.OverlappingPieceFinder.read_on.Goals as goal

pub returns-then-most-eq0 : goal.returns-then-most-eq0
returns-then-most-eq0 g c =
    subst (λ (v : PieceListing). TakesToItem v c.args.piece.now.now v c.args.piece.now.now) c.self.view_is
    (takes-nothing (g.A.Automaton.seen c.self.inside.shared.automaton.value) c.self.invariant c.args.piece.now.now
    c.min-most.result c.min-most.ensures c.if-most-eq0.true)

pub read_through-requires : goal.read_through-requires
read_through-requires g c = record {
  alive = rw (c.core.ensures.automaton) (lives (g.A.Automaton.seen c.self.inside.shared.automaton.value) c.self.invariant);
}

-- some of the piece was read
module _ (g : Over) (c : After-with-self-inside g) where
  abbrev a : AutomatonView
  a = g.A.Automaton.seen c.self.inside.shared.automaton.value

  abbrev piece : List ℕ
  piece = c.args.piece.now.now

  reads : ReadsThrough (scan_of a No c.self.inside.shared.stops) (take c.min-most.result piece)
      (record { state = c.self.inside.reached.state; at = 0 }) c.read_through.new.cursor c.read_through.result
  reads = rw (c.core.ensures.automaton, c.core.ensures.stops) at c.read_through.ensures

  given : c.self.inside.given.number
      ≡ length (listed_taken (piece_listing a.built c.self.inside.history.bytes c.self.inside.given.number))
  given = subst (λ (v : PieceListing). v.given ≡ length (listed_taken v)) (sym c.self.view_is) c.requires.given

  lists : (u : Node) → a.stands No c.read_through.new.cursor.state u
      → a.listed c.read_through.new.cursor.state ≡ matches_of a.built No u
  lists = g.met.A.Automaton.lists c.self.inside.shared.automaton.value No c.read_through.new.cursor.state

  -- how it stood, what was taken, and how it stands
  abbrev old : PieceListing
  old = piece_listing a.built c.self.inside.history.bytes c.self.inside.given.number

  abbrev count : ℕ
  count = c.read_through.new.cursor.at

  abbrev new : List ℕ → PieceListing
  new bytes = piece_listing a.built bytes c.self.inside.given.number

  abbrev next : Reached
  next = record {
    state = c.read_through.new.cursor.state;
    at = c.self.inside.reached.at + count;
    rest = record { state = c.read_through.new.cursor.state; index = 0 };
  }

  stands : IsPieceListing a c.self.inside.shared.stops next (new (c.self.inside.history.bytes ++ take count piece))
  stands =
      stands-on a c.self.invariant piece c.min-most.result c.min-most.ensures reads c.if-most-eq0.false given lists

  takes : TakesToItem old piece (new (c.self.inside.history.bytes ++ take count piece)) (drop count piece)
  takes = takes-on a c.self.invariant piece c.min-most.result c.min-most.ensures reads c.if-most-eq0.false given lists

pub invariant_of-self : goal.invariant_of-self
invariant_of-self g c =
    let d = (goal.at.invariant_of-self g c).After-with-self-inside in
    subst (λ (r : Reached). IsPieceListing (a g d) c.self.inside.shared.stops r (new g d c.with-self-inside.result.bytes))
    (sym c.new-self-inside.ensures)
    (subst (λ (bs : List ℕ). IsPieceListing (a g d) c.self.inside.shared.stops (next g d) (new g d bs))
    (sym c.with-self-inside.ensures) (stands g d))

pub returns : goal.returns
returns g c =
    let d = (goal.at.returns g c).After-with-self-inside in
    let left = take (length (piece g d) - count g d) (drop (count g d) (piece g d)) in
    subst (λ (v : PieceListing). TakesToItem v (piece g d) (new g d c.with-self-inside.result.bytes) left) c.self.view_is
    (subst (λ (bs : List ℕ). TakesToItem (old g d) (piece g d) (new g d bs) left) (sym c.with-self-inside.ensures)
    (subst (TakesToItem (old g d) (piece g d) (new g d (c.self.inside.history.bytes ++ take (count g d) (piece g d))))
    (sym (take_rest (piece g d) (count g d))) (takes g d)))
