use Rattle.ac_util.proofs.Prelude.{◌≡◌, ◌≢◌, ◌∙◌, List, [], length, Some, refl, take, ap, sym, subst, false≢true, length-take-le}
use Rattle.ac_automaton.specs.Prelude.{No, Node, AutomatonView, Failed, Inside, IsStreaming, matches_of, Streaming, streaming_by, pending, TakesFrom, ChainMatch, ChainRest}
use Rattle.ac_automaton.proofs.StreamFilling.{buffer-same}
use Rattle.ac_automaton.proofs.StreamKnown.{gives-known, may-take-known, streams-known}
use Rattle.ac_automaton.proofs.StreamNext.{core-is, holds-so, settles-so}
use Rattle.ac_automaton.proofs.StreamReads.{gives-given, gives-nothing, HoldsBack, IsReadOn, Settles, streams-given, streams-nothing}
use Rattle.ac_automaton.proofs.automaton.stream.StreamFinder.next_read.Given.{Over}
use Rattle.ac_automaton.proofs.automaton.stream.StreamFinder.next_read.Goals.{After-chains-chains, After-read_through-byte, In-Some, In-Some-given_settled, In_default-given_settled, in-Failed, in_default}
use Rattle.ac_automaton.proofs.automaton.stream.StreamFinder.next_read.Goals as goal

-- what the search is
module _ (g : Over) (c : After-chains-chains g) where
  abbrev a : AutomatonView
  a = g.A.Automaton.seen c.self.inside.core.automaton.now

  abbrev chains : List (List ChainMatch)
  chains = c.self.inside.core.commits.now.chains

  abbrev seen : Streaming
  seen =
      let s = c.self.inside in
      streaming_by a.built s.history.bytes s.given.number s.front s.kept s.phase (length s.buffer.items)

  abbrev inside : Inside
  inside = record {
    start = c.self.inside.core.start;
    stops = c.self.inside.core.stops;
    reserve = c.self.inside.reserve;
    buffer = c.self.inside.buffer.items;
    filled = c.self.inside.filled;
    state = c.self.inside.state;
    at = c.self.inside.at;
    rest = c.self.inside.rest;
    begun = c.self.inside.begun.value;
  }

  inv : IsStreaming (a.stands No) chains inside seen
  inv = c.self.invariant.streams

  unfailed : seen.phase ≢ Failed
  unfailed = elim c.match-matches.branch [
    | in-Failed w ↦ absurd (false≢true (sym c.if-matches.false ∙ w.matches-is))
    | in_default w ↦ w.in_default.not-Failed
  ]

pub take_next-requires : goal.take_next-requires
take_next-requires g c =
    let d = (goal.at.take_next-requires g c).After-chains-chains in
    rw (c.chains-chains.ensures) (record { may = may-take-known (a g d) (inv g d) (unfailed g d) })

-- the next match of a chain is given
takes : (g : Over) (c : In-Some g) → (r : ChainRest) × (c.self.inside.rest ≡ Some r)
    × TakesFrom (g.A.Automaton.seen c.self.inside.core.automaton.now).built c.self.inside.core.commits.now.chains r c.in-Some.found
    c.take_next.new.rest
takes g c =
    subst (λ (cs : List (List ChainMatch)). (r : ChainRest) × (c.self.inside.rest ≡ Some r)
    × TakesFrom (g.A.Automaton.seen c.self.inside.core.automaton.now).built cs r c.in-Some.found c.take_next.new.rest)
    c.chains-chains.ensures c.in-Some.ensures

pub invariant_of-self : goal.invariant_of-self
invariant_of-self g c =
    let d = (goal.at.invariant_of-self g c).After-chains-chains in
    record {
      commits = c.self.invariant.commits;
      streams = streams-known (a g d) (inv g d) (unfailed g d) c.in-Some.found c.take_next.new.rest
          (takes g (goal.at.invariant_of-self g c).In-Some) c.of-self-inside.result.value c.end-self-inside.result
          c.after-self-inside.result.number (c.of-self-inside.ensures ∙ c.end.ensures) c.end-self-inside.ensures c.after-self-inside.ensures;
      buffered = buffer-same c.self.invariant.buffered refl refl refl refl refl;
    }

pub returns-in-Some : goal.returns-in-Some
returns-in-Some g c =
    let d = (goal.at.returns-in-Some g c).After-chains-chains in
    rw (← c.self.view_is) (gives-known (a g d) (inv g d) (unfailed g d) c.in-Some.found c.take_next.new.rest
    (takes g (goal.at.returns-in-Some g c).In-Some) c.of-self-inside.result.value c.end-self-inside.result c.after-self-inside.result.number
    (c.of-self-inside.ensures ∙ c.end.ensures) c.end-self-inside.ensures c.after-self-inside.ensures)

-- or none was left, and it has read on in the bytes that are filled
module _ (g : Over) (c : After-read_through-byte g) where
  reads-on : IsReadOn (g.A.Automaton.seen c.self.inside.core.automaton.now) c.self.inside.core.commits.now.chains
      (inside g (goal.at.After-read_through-byte g c).After-chains-chains) c.read_through-byte.new.cursor c.read_through-byte.result
  reads-on =
      let shows = ap (take c.self.inside.filled) c.deref.ensures.value in
      record {
        left =
            subst (λ (cs : List (List ChainMatch)). pending (g.A.Automaton.seen c.self.inside.core.automaton.now).built cs c.self.inside.rest ≡ [])
            c.chains-chains.ensures c.in_default-take_next.ensures.1;
        shown = take c.self.inside.filled c.deref.result.now;
        shows = shows;
        reads = c.read_through-byte.ensures;
        long = ap length shows ∙ length-take-le c.self.inside.filled c.self.inside.buffer.items c.self.invariant.streams.filled;
      }

  lists-there : (u : Node) → (g.A.Automaton.seen c.self.inside.core.automaton.now).stands No c.read_through-byte.new.cursor.state u
      → (g.A.Automaton.seen c.self.inside.core.automaton.now).listed c.read_through-byte.new.cursor.state
      ≡ matches_of (g.A.Automaton.seen c.self.inside.core.automaton.now).built No u
  lists-there = g.met.A.Automaton.lists c.self.inside.core.automaton.now No c.read_through-byte.new.cursor.state

pub given_settled-requires-clause-core : goal.given_settled-requires-clause-core
given_settled-requires-clause-core g c =
    core-is (inv g (goal.at.given_settled-requires-clause-core g c).After-chains-chains) refl c.self.invariant.commits

-- what is settled is given
settles-now : (g : Over) (c : In-Some-given_settled g)
    → Settles (g.A.Automaton.seen c.self.inside.core.automaton.now) c.self.inside.core.commits.now.chains
    (inside g (goal.at.In-Some-given_settled g c).After-chains-chains) (seen g (goal.at.In-Some-given_settled g c).After-chains-chains)
    c.read_through-byte.new.cursor c.in-Some-given_settled.given
settles-now g c =
    let e = (goal.at.In-Some-given_settled g c).After-read_through-byte in
    settles-so (g.A.Automaton.seen c.self.inside.core.automaton.now) c.self.invariant.streams (reads-on g e) (lists-there g e)
    c.in-Some-given_settled.given c.in-Some-given_settled.ensures

pub overflow_sub-end : goal.overflow_sub-end
overflow_sub-end g c = (settles-now g (goal.at.overflow_sub-end g c).In-Some-given_settled).rest

pub match_ending-requires-clause-numbered : goal.match_ending-requires-clause-numbered
match_ending-requires-clause-numbered g c =
    (settles-now g (goal.at.match_ending-requires-clause-numbered g c).In-Some-given_settled).numbered

pub match_ending-requires-clause-within : goal.match_ending-requires-clause-within
match_ending-requires-clause-within g c =
    (settles-now g (goal.at.match_ending-requires-clause-within g c).In-Some-given_settled).fits

pub invariant_of-self-2 : goal.invariant_of-self-2
invariant_of-self-2 g c =
    let at = goal.at.invariant_of-self-2 g c in let d = at.After-chains-chains in
    record {
      commits = c.self.invariant.commits;
      streams = streams-given c.self.invariant.streams (unfailed g d) (settles-now g at.In-Some-given_settled)
          c.chain_rest-self-inside.result c.chain_rest-self-inside.ensures c.of-self-inside-2.result.value c.after-self-inside-2.result.number
          c.of-self-inside-2.ensures c.after-self-inside-2.ensures;
      buffered = buffer-same c.self.invariant.buffered refl refl refl refl refl;
    }

pub returns : goal.returns
returns g c =
    let at = goal.at.returns g c in let d = at.After-chains-chains in
    rw (← c.self.view_is) (gives-given c.self.invariant.streams (unfailed g d) (settles-now g at.In-Some-given_settled)
    c.match_ending.result c.after-self-inside-2.result.number c.match_ending.ensures c.after-self-inside-2.ensures)

-- or nothing is
holds-now : (g : Over) (c : In_default-given_settled g)
    → HoldsBack (g.A.Automaton.seen c.self.inside.core.automaton.now) c.self.inside.core.commits.now.chains
    (inside g (goal.at.In_default-given_settled g c).After-chains-chains) (seen g (goal.at.In_default-given_settled g c).After-chains-chains)
    c.self.invariant.streams c.read_through-byte.new.cursor
holds-now g c =
    let e = (goal.at.In_default-given_settled g c).After-read_through-byte in
    holds-so (g.A.Automaton.seen c.self.inside.core.automaton.now) c.self.invariant.streams (reads-on g e) (lists-there g e)
    c.in_default-given_settled.ensures

pub invariant_of-self-in_default-given_settled : goal.invariant_of-self-in_default-given_settled
invariant_of-self-in_default-given_settled g c =
    let at = goal.at.invariant_of-self-in_default-given_settled g c in
    record {
      commits = c.self.invariant.commits;
      streams = streams-nothing c.self.invariant.streams (holds-now g at.In_default-given_settled) c.settled_from-self-inside.result
          c.settled_from-self-inside.ensures c.take_next.new.rest c.in_default-take_next.ensures.0;
      buffered = buffer-same c.self.invariant.buffered refl refl refl refl refl;
    }

pub returns-in_default-given_settled : goal.returns-in_default-given_settled
returns-in_default-given_settled g c =
    let at = goal.at.returns-in_default-given_settled g c in
    rw (← c.self.view_is) (gives-nothing c.self.invariant.streams (holds-now g at.In_default-given_settled)
    c.settled_from-self-inside.result c.settled_from-self-inside.ensures)
