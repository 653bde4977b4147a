use Rattle.ac_util.proofs.Prelude.{ap, refl, ◌∙◌, arith}
use Rattle.ac_automaton.specs.Prelude.{Taped, Counts}
use Rattle.ac_automaton.proofs.automaton.scan.Scanner.read_byte.Goals as goal

pub returns-clause-bytes : goal.returns-clause-bytes
returns-clause-bytes g c = ap (λ (t : Taped). t.bytes) c.read-byte.ensures.place

pub next_state-next-requires : goal.next_state-next-requires
next_state-next-requires g c = let v = c.requires.may.alive in record { state = (_, v.1) }

-- the byte was read, and followed
pub returns-clause-tries : goal.returns-clause-tries
returns-clause-tries g c =
    let place = ap (λ (t : Taped). t.place) c.read-byte.ensures.place in
    let unread = c.requires.may.unread in
    record {
      is = c.read-byte.ensures.byte;
      leads = c.next_state-next.ensures.steps;
      forward = omega arith;
      within = omega arith;
      whole = omega arith;
      told = λ _. refl;
      reads = (let r = ap (λ (n : Counts). n.reads) c.read-byte.ensures.counted in
          let v = c.requires.may.alive in
          let l = ap (λ (n : Counts). n.reads) (c.next_state-next.ensures.looks _ v.1) in omega arith);
      calls = (let r = ap (λ (n : Counts). n.calls) c.read-byte.ensures.counted in
          let v = c.requires.may.alive in
          ap (λ (n : Counts). n.calls) (c.next_state-next.ensures.looks _ v.1) ∙ r);
      looks = λ u there.
          let r = ap (λ (n : Counts). n.looks) c.read-byte.ensures.counted in
          let l = ap (λ (n : Counts). n.looks) (c.next_state-next.ensures.looks u there) in omega arith;
    }
