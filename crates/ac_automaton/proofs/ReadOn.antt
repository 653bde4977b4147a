-- A scan of a text: where its automaton stands with one byte more, what it has read and looked at, and that
-- each look is paid for.
use Rattle.ac_util.proofs.Prelude.{◌≡◌, ℕ, ◌+◌, ◌-◌, ◌*◌, ◌<◌, ◌≤◌, [], length, slice_index, inl, inr, ap, subst, ◌∙◌, arith, Bool, Some, rules, cases_lt, common_steps}
use Rattle.ac_automaton.specs.Prelude.{Counts, credit, may_skip, Search, FitsIn, Grows, HasRead, IsAlive, IsAt, most_looks, node, Scan, ScansTo, ScanText, search_through, step_of, Work}
use Rattle.ac_util.proofs.Failures.{depth-reached}
use Rattle.ac_util.proofs.OneLonger.{step-longer}
use Rattle.ac_util.proofs.Spans.{text_length}

-- what holds as far as n and one place on holds as far as there
pub below_next : (n : ℕ) (P : ℕ → Type 0) → ((k : ℕ) → k < n → P k) → P n → (k : ℕ) → k < n + 1 → P k
below_next n P before now k up = elim (cases_lt k n) [ inl l ↦ before k l | inr l ↦ subst P (omega arith) now ]

-- what has grown twice has grown
pub grows-trans : {a b c : Counts} → Grows a b → Grows b c → Grows a c
grows-trans first second = grind (arith, common_steps)

-- so has what stays as it is
pub grows-same : (counts : Counts) → Grows counts counts
grows-same counts = grind (arith, common_steps)

-- a search that has read nothing
pub read-nothing : (most : ℕ) (skips : Bool) (start end : ℕ) (work : Work)
    → work.place ≤ start → HasRead most skips start end work work
read-nothing most skips start end work unread = grind (arith, common_steps)

-- two payments one after another
paid-twice : (m a b c x y z r t v : ℕ) → a ≤ b → b ≤ c → y + t ≤ x + r + m * (b - a) → z + v ≤ y + t + m * (c - b)
    → z + v ≤ x + r + m * (c - a)
paid-twice m a b c x y z r t v low high one two = grind (arith, common_steps)

module _ (s : Scan) (t : ScanText) where
  abbrev q : Search
  q = search_through s t

  abbrev most : ℕ
  most = most_looks s.anchored s.most

  -- where the text starts nothing was read: the automaton stands at its start
  pub node-start : (at : ℕ) → at ≡ t.start → node s t at ≡ Some []
  node-start at there = grind (arith, common_steps)

  -- one byte more leads from the node reached to the next one
  pub node-step : (at byte : ℕ) → t.start ≤ at → at < length t.bytes → byte ≡ slice_index t.bytes at
      → step_of s.built s.anchored (node s t at) byte ≡ node s t (at + 1)
  node-step at byte ordered room read =
      ap (step_of s.built s.anchored (node s t at)) read ∙ step-longer s.built.kind (record q { high = at }) ordered room

  -- the node fits into what was read
  pub node-fits : (state at : ℕ) → IsAt s t state at → FitsIn s.anchored (node s t at) t.start at
  node-fits state at is_at = grind (arith, common_steps, depth-reached, text_length)

  -- where the text starts the automaton stands in a state for its start
  pub at-start : {state : ℕ} (at : ℕ) → s.stands state (Some []) → at ≡ t.start → at ≤ length t.bytes
      → IsAt s t state at
  at-start {state} at there start room = search (rules, node-start)

  -- where it isn't dead
  pub alive-start : {state : ℕ} (at : ℕ) → s.stands state (Some []) → at ≡ t.start → at ≤ length t.bytes
      → IsAlive s t (record { state = state; at = at })
  alive-start at there start room = grind (arith, common_steps, at-start at there start room)

  -- a scan that has done nothing
  pub scans-nothing : {at : ℕ} {work : Work} → work.place ≤ at → ScansTo s t at work at work
  scans-nothing unread = grind (arith, common_steps)

  -- what a search of the text has read that began at its start
  pub read-scanned : {at : ℕ} {work new_work : Work}
      → ScansTo s t t.start work at new_work → at ≤ t.end
      → HasRead most (may_skip s.wants_prefilter q) t.start t.end work new_work
  read-scanned {at} {work} {new_work} scans up = grind (arith, common_steps)

module _ {s : Scan} {t : ScanText} where
  -- one scan after another is one scan
  pub scans-on : {from between to : ℕ} {work work_between new_work : Work}
      → ScansTo s t from work between work_between
      → ScansTo s t between work_between to new_work → ScansTo s t from work to new_work
  scans-on {from} {between} {to} {work} {work_between} {new_work} one two =
      grind (
        arith,
        common_steps,
        paid-twice (most_looks s.anchored s.most) work.counts.reads work_between.counts.reads new_work.counts.reads work.counts.looks
            work_between.counts.looks new_work.counts.looks (credit (most_looks s.anchored s.most) (node s t from)) (credit (most_looks s.anchored s.most)
            (node s t between)) (credit (most_looks s.anchored s.most) (node s t to)) (one.grows.reads) (two.grows.reads) one.paid two.paid,
      )
