-- How a scan reads on from one point to another: by which bytes, and what it has counted.
use Rattle.std.specs.Prelude.{◌≡◌, ◌⊎◌, ◌≢◌, ℕ, zero, suc, ◌+◌, ◌-◌, ◌*◌, ◌<◌, ◌≤◌, false, true, List, [], length, max, slice_index, Option, None, Some, IfSome, option_map}
use Rattle.ac_automaton.specs.Util.{Counts, credit, may_skip, Node, Taped}
use Rattle.ac_automaton.specs.Automata.{AutomatonView, IsLiveState, looks_of, matches_of, step_of}
use Rattle.ac_automaton.specs.declared.automaton.scan.Cursor.{Cursor}
use Rattle.ac_automaton.specs.declared.automaton.scan.Dead.{Dead}
use Rattle.ac_automaton.specs.declared.automaton.scan.Scanner.{Scanner}
use Rattle.ac_automaton.specs.declared.automaton.skip.ToStart.{ToStart}
use Rattle.ac_automaton.specs.declared.automaton.skip.ToStart.TheVariants.{Stopped, There}
use Rattle.ac_automaton.specs.Scans.{Grows, IsAlive, most_looks, PassesNoMatch, Scan, scanner, ScannerView, ScanText, search_of, Work, work_of}

-- how many bytes are in hand
abbrev pub in_hand : Option ℕ → ℕ
in_hand None = 0
in_hand (Some byte) = 1

-- a point of a scan: the bytes of its tape, and where it stands in them; the byte that it has read there and not followed; and
-- what it has done
pub record Point : Type 0 where
  pub bytes : List ℕ
  pub cursor : Cursor
  pub hand : Option ℕ
  pub work : Work

abbrev pub point : Cursor → Option ℕ → Taped → Counts → Point
point cursor hand tape counts = record { bytes = tape.bytes; cursor = cursor; hand = hand; work = work_of tape counts }

-- up to where the bytes were read
abbrev pub read_to : Point → ℕ
read_to p = p.cursor.at + in_hand p.hand

-- the node to which so many bytes lead from another one, from an offset on
unfoldable pub led : Scan → List ℕ → Node → ℕ → ℕ → Node
led s bytes u from zero = u
led s bytes u from (suc n) = step_of s.built s.anchored (led s bytes u from n) (slice_index bytes (from + n))

-- a scan may read on up to an end: it isn't dead, what it has in hand is the byte there, and its tape has lent nothing further on
pub record MayRead (s : Scan) (end : ℕ) (p : Point) : Type 0 where
  pub alive : IsLiveState s.stands p.cursor.state
  pub hand : IfSome p.hand (λ b. (p.cursor.at < end) × (b ≡ slice_index p.bytes p.cursor.at))
  pub unread : p.work.place ≤ read_to p
  pub inside : end ≤ length p.bytes

-- from one point to another it has read no byte twice, and each unless it called the prefilter, which it did at most once for
-- each, and not at all where it may not skip; and it has counted that
pub record HasScanned (s : Scan) (p q : Point) : Type 0 where
  pub onward : p.cursor.at ≤ q.cursor.at
  pub further : read_to p ≤ read_to q
  pub grows : Grows p.work.counts q.work.counts
  pub forward : p.work.place ≤ q.work.place
  pub unread : q.work.place ≤ read_to q
  pub told : p.work.place < q.work.place → p.work.counts.reads < q.work.counts.reads
  pub whole : q.work.counts.calls ≡ p.work.counts.calls → read_to q ≤ max (read_to p) q.work.place
  pub counted : q.work.counts.calls ≡ p.work.counts.calls
      → p.work.counts.reads + (read_to q - read_to p) ≤ q.work.counts.reads
  pub reads : q.work.counts.reads ≤ p.work.counts.reads + (q.work.place - read_to p)
  pub calls : q.work.counts.calls ≤ p.work.counts.calls + (read_to q - read_to p)
  pub quiet : may_skip s.wants_prefilter (search_of s.built s.anchored [] 0 0) ≡ false → q.work.counts.calls ≡ p.work.counts.calls

-- what a scan at a node may still look: what its length is worth, and what the byte in hand brings
abbrev pub worth : Scan → List ℕ → Option ℕ → ℕ
worth s v hand = credit (most_looks s.anchored s.most) (Some v) + most_looks s.anchored s.most * in_hand hand

-- how many looks it takes to try the byte in hand
abbrev pub tried : Scan → List ℕ → Option ℕ → ℕ
tried s v None = 0
tried s v (Some byte) = looks_of s.most s.built s.anchored (Some v) byte

-- a scan that stood at the node v has come to another, and if it stops at a match it has passed over none; each look is paid
-- by the bytes read and by what the nodes are worth, but for those by which the byte in hand was tried: that leads to the dead node
pub record Comes (s : Scan) (p : Point) (v : List ℕ) (q : Point) : Type 0 where
  pub node : List ℕ
  pub there : s.stands q.cursor.state (Some node)
  pub leads : led s p.bytes (Some v) p.cursor.at (q.cursor.at - p.cursor.at) ≡ Some node
  pub none : s.stops ≡ true → (n : ℕ) → 0 < n → n < read_to q - p.cursor.at
      → matches_of s.built s.anchored (led s p.bytes (Some v) p.cursor.at n) ≡ []
  pub paid : q.work.counts.looks + worth s node q.hand
      ≤ p.work.counts.looks + worth s v p.hand
      + most_looks s.anchored s.most * (q.work.counts.reads - p.work.counts.reads) + tried s node q.hand
  pub dead : IfSome q.hand (λ b. step_of s.built s.anchored (Some node) b ≡ None)

-- a scan has read on within an end, from whichever node its state stood for
pub record ReadsOn (s : Scan) (end : ℕ) (p q : Point) : Type 0 where
  pub bytes : q.bytes ≡ p.bytes
  pub within : p.cursor.at ≤ end → q.cursor.at ≤ end
  pub scans : HasScanned s p q
  pub hand : IfSome q.hand (λ b. (q.cursor.at < end) × (b ≡ slice_index p.bytes q.cursor.at))
  pub comes : (v : List ℕ) → s.stands p.cursor.state (Some v) → Comes s p v q

-- a scan is to stop at a state: it stops at a match, and the state has some
abbrev pub StopsAt : Scan → ℕ → Type 0
StopsAt s state = (s.stops ≡ true) × (s.listed state ≢ [])

-- it has read as far as it reads: to such a byte, to the end, or to a state where it is to stop
abbrev pub ReadsEnough : Scan → ℕ → Point → Type 0
ReadsEnough s end q = q.hand ≡ None → (end ≤ q.cursor.at) ⊎ StopsAt s q.cursor.state

-- a scan has read on as far as it reads
pub record HasReadOn (s : Scan) (end : ℕ) (p q : Point) : Type 0 where
  pub on : ReadsOn s end p q
  pub enough : ReadsEnough s end q

-- a scan on its way: it isn't to stop where it has come to
pub record IsReading (s : Scan) (end : ℕ) (p q : Point) : Type 0 where
  pub on : ReadsOn s end p q
  pub quiet : p.cursor.at < q.cursor.at → StopsAt s q.cursor.state → ⊥

-- a byte was tried at a point: the one in hand, or the next one, which was read; it leads to a state
pub record Tries (s : Scan) (p : Point) (byte next : ℕ) (work : Work) : Type 0 where
  pub is : byte ≡ slice_index p.bytes p.cursor.at
  pub leads : (u : Node) → s.stands p.cursor.state u → s.stands next (step_of s.built s.anchored u byte)
  pub forward : p.work.place ≤ work.place
  pub within : work.place ≤ p.cursor.at + 1
  pub whole : p.cursor.at + 1 ≤ max (read_to p) work.place
  pub told : p.work.place < work.place → p.hand ≡ None
  pub reads : work.counts.reads + in_hand p.hand ≡ p.work.counts.reads + 1
  pub calls : work.counts.calls ≡ p.work.counts.calls
  pub looks : (u : Node) → s.stands p.cursor.state u
      → work.counts.looks ≡ p.work.counts.looks + looks_of s.most s.built s.anchored u byte

-- the byte that a scan has in hand where it came to one that leads to the dead state
abbrev pub hand_of : Option Dead → Option ℕ
hand_of dead = option_map (λ (d : Dead). d.byte) dead

-- a scan has read on within an end: by a byte at least, where one is left, or to one that leads to the dead state, which it answers
pub record ReadsFurther (s : Scan) (end : ℕ) (p : Point) (dead : Option Dead) (q : Point) : Type 0 where
  pub on : ReadsOn s end p q
  pub moved : p.cursor.at < end → q.hand ≡ None → p.cursor.at < q.cursor.at
  pub gone : IfSome dead (λ d. (d.next.at ≡ q.cursor.at + 1) × s.stands d.next.state None)

-- and as far as it reads
pub record ReadsToStop (s : Scan) (end : ℕ) (p : Point) (dead : Option Dead) (q : Point) : Type 0 where
  pub further : ReadsFurther s end p dead q
  pub enough : ReadsEnough s end q

-- a state is the start, whatever it stands for
abbrev pub IsAtStart : Scan → ℕ → Type 0
IsAtStart s state = (u : Node) → s.stands state u → u ≡ Some []

-- what is in hand where a scan was to come to its start
abbrev pub hand_at : ToStart → Option ℕ
hand_at There = None
hand_at (Stopped dead) = hand_of dead

-- it has come there with a byte left, by states at which it isn't to stop
pub record ComesToStart (s : Scan) (end : ℕ) (p q : Point) : Type 0 where
  pub reading : IsReading s end p q
  pub before : q.cursor.at < end
  pub at_start : IsAtStart s q.cursor.state

-- that; or it has read as far as it reads
abbrev pub ReadsToStart : Scan → ℕ → Point → ToStart → Point → Type 0
ReadsToStart s end p There q = ComesToStart s end p q
ReadsToStart s end p (Stopped dead) q = ReadsToStop s end p dead q

-- a cursor that has followed the byte which leads to the dead state, if one was read
abbrev pub entered : Option Dead → Cursor → Cursor
entered None cursor = cursor
entered (Some dead) cursor = dead.next

-- a point with nothing in hand
abbrev pub at : Cursor → Taped → Counts → Point
at cursor tape counts = point cursor None tape counts

-- a scanner has read on within its span, by a byte at least: whichever text has led to where it began, it has passed over no match
pub record Advances (v : ScannerView) (p q : Point) : Type 0 where
  pub bytes : q.bytes ≡ p.bytes
  pub moved : p.cursor.at < q.cursor.at
  pub within : q.cursor.at ≤ v.span.end
  pub passes : (t : ScanText) → t.bytes ≡ p.bytes → IsAlive v.scan t p.cursor
      → PassesNoMatch v.scan t p.cursor.at p.work q.cursor q.work

-- a scanner reads within its span
module _ {A M : Type 0} (seen : A → AutomatonView) (s : Scanner A M) where
  -- it may read on
  abbrev pub MayScan : Point → Type 0
  MayScan p = MayRead (scanner seen s).scan s.span.end p

  -- it reads on by a piece, and answers the byte that leads to the dead state
  abbrev pub Moves : Point → Option Dead → Point → Type 0
  Moves p dead q = ReadsFurther (scanner seen s).scan s.span.end p dead (record q { hand = hand_of dead })

  -- it reads on as far as it reads
  abbrev pub Scans : Point → Option Dead → Point → Type 0
  Scans p dead q = ReadsToStop (scanner seen s).scan s.span.end p dead (record q { hand = hand_of dead })

  -- or to its start
  abbrev pub Seeks : Point → ToStart → Point → Type 0
  Seeks p stop q = ReadsToStart (scanner seen s).scan s.span.end p stop (record q { hand = hand_at stop })
