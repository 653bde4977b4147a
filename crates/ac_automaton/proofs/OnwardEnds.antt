-- Where a walk stops reading that reads each byte once, and what it has given then.
use Rattle.ac_util.proofs.Prelude.{◌≡◌, ℕ, ◌+◌, ◌-◌, ◌*◌, ◌≤◌, false, List, [], Option, None, Some, MatchOption}
use Rattle.ac_automaton.specs.Prelude.{from, may_skip, No, Occurrence, pick, Search, ChainMatch, ChainRest, AutomatonView, Cursor, scan_of, step_of, Work, pending, HasCounted, IsCounted, IsOnward, IsRestBefore, StandsBy, in_hand, tried}

-- it reads on no further: the byte in hand leads to the dead node, or the span is read to its end
pub record HasStopped (a : AutomatonView) (q : Search) (start : ℕ) (cursor : Cursor) (byte : Option ℕ) (work : Work) : Type 0 where
  pub node : List ℕ
  pub stands : StandsBy a q start [] cursor byte node
  pub over : MatchOption byte (cursor.at ≡ q.high) (λ b. step_of a.built No (Some node) b ≡ None)
  pub counted : HasCounted a q start cursor byte node (tried (scan_of a No false) node byte) work.counts
  pub unread : work.place ≤ cursor.at + in_hand byte
  pub begun : start ≤ q.low

-- it has given the pick of its search, and goes on after it; or there is none, and it has read the span
pub record HasGiven (a : AutomatonView) (chains : List (List ChainMatch)) (q : Search) (start : ℕ) (found : Option Occurrence)
    (rest : Option ChainRest) (cursor : Cursor) (byte : Option ℕ) (work : Work) : Type 0 where
  pub answer : found ≡ pick a.built.kind q
  pub place : work.place ≤ q.high
  pub looks : work.counts.looks ≤ a.most * work.counts.reads + (q.low - start)
  pub goes : MatchOption found
      (IsCounted a.most (may_skip a.wants_prefilter q) start q.high 0 (q.low - start) work.counts)
      (λ m. IsRestBefore chains m.end rest
      × IsOnward a (from q m.end) start (pending a.built chains rest) cursor byte work)
