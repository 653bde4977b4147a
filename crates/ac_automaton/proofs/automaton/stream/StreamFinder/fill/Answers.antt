use Rattle.ac_util.proofs.Prelude.{◌≡◌, ◌∙◌, ◌+◌, ◌-◌, ◌≤◌, ◌≢◌, ◌++◌, ℕ, List, length, length-append, length-drop, take, drop, sym, ap, subst, arith, length-take-le, refl}
use Rattle.ac_automaton.specs.Prelude.{buffer_len, stream_result, Streaming, matches_so_far, Failed, Open}
use Rattle.ac_util.proofs.Devices.{not-blank, not-idle}
use Rattle.ac_automaton.proofs.Places.{written-whole}
use Rattle.ac_automaton.proofs.StreamFilling.{buffer-open, closed-as, filled-as, given-stays, streams-filled}
use Rattle.ac_automaton.proofs.automaton.stream.StreamFinder.fill.Given.{Over}
use Rattle.ac_automaton.proofs.automaton.stream.StreamFinder.fill.Goals.{After-read_after}
use Rattle.ac_automaton.proofs.automaton.stream.StreamFinder.fill.Goals as goal

-- once a read was made
module _ (g : Over) (c : After-read_after g) where
  abbrev buffer : List ℕ
  buffer = take c.self.inside.buffer.len (c.read_after.new.buffer ++ drop (length c.read_after.new.buffer) c.self.inside.buffer.items)

  opens : c.self.inside.phase ≡ Open
  opens = ap (λ (v : Streaming). v.phase) c.self.view_is ∙ ap (λ (v : Streaming). v.phase) c.make_room.ensures.same ∙ c.requires.goes_on

  long : length c.read_after.new.buffer ≡ c.self.inside.buffer.len
  long = c.read_after.ensures.long ∙ c.deref_mut.ensures.len

  whole : buffer ≡ c.read_after.new.buffer
  whole = written-whole c.read_after.new.buffer c.self.inside.buffer.items c.self.inside.buffer.len long

  as_long : length buffer ≡ length c.self.inside.buffer.items
  as_long = ap length whole ∙ long ∙ c.self.inside.buffer.ok.0

  keeps : take c.self.inside.filled buffer ≡ take c.self.inside.filled c.self.inside.buffer.items
  keeps = ap (take c.self.inside.filled) whole ∙ c.read_after.ensures.keeps ∙ ap (take c.self.inside.filled) c.deref_mut.ensures.value

-- and the bytes that came were added
pub invariant_of-self-then-self-n : goal.invariant_of-self-then-self-n
invariant_of-self-then-self-n g c =
    let d = (goal.at.invariant_of-self-then-self-n g c).After-read_after in
    let at = c.self.inside.filled in
    let n = c.in-Ok.n in
    let took = c.in-Ok.ensures.by in
    record {
      commits = c.self.invariant.commits;
      streams = streams-filled _ _ _ _ c.self.invariant.streams (opens g d) (buffer g d) (as_long g d) (keeps g d) n
          (take n (drop at c.read_after.new.buffer)) (ap (λ (b : List ℕ). take n (drop at b)) (sym (whole g d)))
          (subst (λ (b : List ℕ). n ≤ length (drop at b)) (sym (whole g d)) took.within)
          (let w = took.within in let d = length-drop at c.read_after.new.buffer in omega (arith, c.if-self-n.true)) _
          (c.with-self-inside.ensures
          ∙ ap (λ (w : List ℕ). c.self.inside.history.bytes ++ w)
          (ap (λ (k : ℕ). take k (drop at c.deref.result.now)) (let e : at + n - at ≡ n = omega arith in e)
          ∙ ap (λ (b : List ℕ). take n (drop at b)) (c.deref.ensures.value ∙ whole g d)));
      buffered = buffer-open (as_long g d) refl refl (opens g d) c.self.invariant.buffered;
    }

pub returns-in-Ok : goal.returns-in-Ok
returns-in-Ok g c =
    let d = (goal.at.returns-in-Ok g c).After-read_after in
    let took = c.in-Ok.ensures.by in
    let at = c.self.inside.filled in
    let n = c.in-Ok.n in
    let into = drop at c.read_after.new.buffer in
    let more = take n into in
    let size = length-take-le n into took.within in
    let none : length more ≢ 0 = (λ e. absurd (omega (arith, c.in-Ok.n-test))) in
    let added : c.with-self-inside.result.bytes ≡ c.self.inside.history.bytes ++ more =
    c.with-self-inside.ensures
    ∙ ap (λ (w : List ℕ). c.self.inside.history.bytes ++ w)
    (ap (λ (k : ℕ). take k (drop at c.deref.result.now)) (let e : at + n - at ≡ n = omega arith in e)
    ∙ ap (λ (b : List ℕ). take n (drop at b)) (c.deref.ensures.value ∙ whole g d)) in
    let e = c.self.view_is ∙ c.make_room.ensures.same in
    record {
      more = more;
      some = omega arith;
      room = (let w = took.within in let cut = length-drop at c.read_after.new.buffer in
          let same = as_long g d in let is = ap (length {A = ℕ}) (whole g d) in
          let size' = c.self.invariant.buffered.long ∙ ap (λ (v : Streaming). buffer_len v.built.patterns) e in omega arith);
      reads = record {
        moved = took.moved;
        failed = took.failed;
        empties = (let e = took.empties in let i = not-idle n (length into)
            (λ e. absurd (omega (arith, c.in-Ok.n-test))) in omega arith);
        blanks = (let e = took.blanks in let i = not-blank (length into) (let w = took.within in
            λ none. absurd (omega (arith, c.in-Ok.n-test))) in omega arith);
      };
      same = filled-as c.args.self.now c.make_room.new.self _ c.self.view_is c.make_room.ensures.same _
          (as_long g d) _ more added;
      small = (let l = ap length added ∙ length-append c.self.inside.history.bytes more in
          let k = c.self.invariant.streams.counted in let w = took.within in
          let d = length-drop at c.read_after.new.buffer in omega (arith, c.if-self-n.true));
      given = ap (λ (k : ℕ). take k (stream_result (g.A.Automaton.seen c.self.inside.core.automaton.now).built c.with-self-inside.result.bytes))
          (sym (ap (λ (v : Streaming). v.given) e))
          ∙ ap (λ (w : List ℕ). take c.self.inside.given.number
          (stream_result (g.A.Automaton.seen c.self.inside.core.automaton.now).built w)) added
          ∙ given-stays _ _ _ _ c.self.invariant.streams more (λ ended. absurd (let no' = sym (opens g d) ∙ ended in cc))
          ∙ ap (λ (v : Streaming). take v.given (matches_so_far v)) e;
    }

-- or more bytes than usize counts
pub returns-in-Ok-2 : goal.returns-in-Ok-2
returns-in-Ok-2 g c =
    let took = c.in-Ok.ensures.by in
    let at = c.self.inside.filled in
    let n = c.in-Ok.n in
    let into = drop at c.read_after.new.buffer in
    let size = length-take-le n into took.within in
    record {
      reads = record {
        lost = take n into;
        too_many = (let k = c.self.invariant.streams.counted in
            let e = ap (λ (v : Streaming). length v.bytes) (c.self.view_is ∙ c.make_room.ensures.same) in
            let w = took.within in let d = length-drop at c.read_after.new.buffer in omega (arith, c.if-self-n.false));
        moved = took.moved;
        failed = took.failed;
        empties = (let e = took.empties in let i = not-idle n (length into)
            (λ e. absurd (omega (arith, c.in-Ok.n-test))) in omega arith);
        blanks = (let e = took.blanks in let i = not-blank (length into) (let w = took.within in
            λ none. absurd (omega (arith, c.in-Ok.n-test))) in omega arith);
      };
      same = closed-as c.args.self.now c.make_room.new.self _ c.self.view_is c.make_room.ensures.same _
          (as_long g (goal.at.returns-in-Ok-2 g c).After-read_after) Failed c.close-in-Ok-2.ensures;
    }
