-- Bytes with which no pattern begins don't lead away from the start, where nothing is found either if no pattern is
-- empty.
use Rattle.ac_util.proofs.Prelude.{rules, ◌≡◌, ℕ, zero, suc, ◌+◌, ◌-◌, ◌<◌, ◌≤◌, Bool, true, false, List, [], ◌∷◌, map, refl, ap, sym, ◌∙◌, subst, arith, Option, Some, None, nat_eq, slice_index, list_any, starts_with, or_right, false≢true, false_from_ne_true}
use Rattle.ac_automaton.specs.Prelude.{Anchored, begins_with, begins_with_pattern, BeginWith, Built, Counts, is_empty, is_one_of, may_skip, No, Node, one_more_call, pattern_of, plain, plain_byte, matches_of, plain_of, Scan, search_of, SkipsTo, step_of, Comes, HasScanned, in_hand, IsAtStart, led, MayRead, Point, read_to, ReadsFurther, ReadsOn, worth, Dead}
use Rattle.std.specs.Option.{is_some}
use Rattle.memchr.specs.Find.{Nowhere, Passes}
use Rattle.ac_util.proofs.Found.{matches-nil}
use Rattle.ac_util.proofs.NodeCount.{any_passes}
use Rattle.ac_util.proofs.Participants.{equal_to-none_begins}
use Rattle.ac_util.proofs.Reached.{step-nil}
use Rattle.ac_automaton.proofs.Led.{led-byte, led-none}
use Rattle.ac_automaton.proofs.ReadingOn.{comes-then, nothing-scanned}
use Rattle.ac_automaton.proofs.ReadOn.{grows-trans}

-- where a plain pattern begins with a plain byte, some pattern begins with the byte
begins-from_plain : (ignores_case : Bool) (b : ℕ) (patterns : List (List ℕ)) (n : ℕ)
    → starts_with nat_eq (pattern_of (map (plain ignores_case) patterns) n) (plain_byte ignores_case b ∷ []) ≡ true
    → list_any (begins_with ignores_case b) patterns ≡ true
begins-from_plain ignores_case b [] n h = absurd (false≢true h)
begins-from_plain ignores_case b ([] ∷ ps) zero h = absurd (false≢true h)
begins-from_plain ignores_case b ((c ∷ p) ∷ ps) zero h = search rules
begins-from_plain ignores_case b (q ∷ ps) (suc n) h =
    or_right (begins_with ignores_case b q) (list_any (begins_with ignores_case b) ps) (begins-from_plain ignores_case b ps n h)

-- no pattern begins with nothing, where none is empty
begins-not_empty : (ignores_case : Bool) (patterns : List (List ℕ)) → list_any is_empty patterns ≡ false
    → begins_with_pattern (map (plain ignores_case) patterns) [] ≡ false
begins-not_empty ignores_case [] h = refl
begins-not_empty ignores_case ([] ∷ ps) h = absurd (false≢true (sym h))
begins-not_empty ignores_case ((c ∷ p) ∷ ps) h = begins-not_empty ignores_case ps h

module _ (built : Built) (some : list_any is_empty built.patterns ≡ false) where
  no_empty : begins_with_pattern (plain_of built) [] ≡ false
  no_empty = begins-not_empty built.ignores_case built.patterns some

  -- at the start nothing is found
  pub matches-start : matches_of built No (Some []) ≡ []
  matches-start =
      matches-nil built.kind (plain_of built) ∙ equal_to-none_begins built.kind (plain_of built) [] no_empty

  -- a byte with which no pattern begins leads back to it
  pub step-stays : (b : ℕ) → list_any (begins_with built.ignores_case b) built.patterns ≡ false
      → step_of built No (Some []) b ≡ Some []
  step-stays b none = search (rules, any_passes, begins-from_plain, false≢true, no_empty, step-nil)

-- at the start of an unanchored scan no match is found, if no pattern is empty
pub none-there : (s : Scan) → s.anchored ≡ No → list_any is_empty s.built.patterns ≡ false → {u : Node} → u ≡ Some []
    → matches_of s.built s.anchored u ≡ []
none-there s free some start = search (rules, matches-start)

-- a scan at its start calls its prefilter, which leads it to a place over bytes with which no pattern begins
module _ {s : Scan} {first : List ℕ} (by : SkipsTo s first) {end : ℕ} {p : Point} (may : MayRead s end p) (empty : p.hand ≡ None)
    (at-start : IsAtStart s p.cursor.state) {to : ℕ} (onward : p.cursor.at ≤ to) (up : to ≤ end)
    (none : Nowhere (Passes (is_one_of first) p.bytes) p.cursor.at to) {counts : Counts} (called : counts ≡ one_more_call p.work.counts)
  where
    begin : BeginWith first s.built.ignores_case s.built.patterns
    begin = by.skips.serves

    -- the point to which it has led
    abbrev pub skipped : Point
    skipped = record {
      bytes = p.bytes;
      cursor = record { state = p.cursor.state; at = to };
      hand = None;
      work = record { place = p.work.place; counts = counts };
    }

    -- over such bytes it stays at its start
    led-start : (n : ℕ) → p.cursor.at + n ≤ to → led s p.bytes (Some []) p.cursor.at n ≡ Some []
    led-start zero below = led-none s p.bytes (Some []) p.cursor.at 0 refl
    led-start (suc n) below =
        let byte = slice_index p.bytes (p.cursor.at + n) in
        let other = false_from_ne_true (list_any (begins_with s.built.ignores_case byte) s.built.patterns)
        (λ f. none (p.cursor.at + n) (omega arith) (omega arith) (begin.begins byte f)) in
        ap (led s p.bytes (Some []) p.cursor.at) (let e : suc n ≡ n + 1 = omega arith in e)
        ∙ led-byte s p.bytes (Some []) p.cursor.at n byte refl
        ∙ ap (λ (u : Node). step_of s.built s.anchored u byte) (led-start n (omega arith))
        ∙ ap (λ (a : Anchored). step_of s.built a (Some []) byte) by.unanchored
        ∙ step-stays s.built begin.some byte other

    node-is : (v : List ℕ) → s.stands p.cursor.state (Some v) → v ≡ []
    node-is v there = let same = at-start (Some v) there in cc

    calls : counts.calls ≡ p.work.counts.calls + 1
    calls = ap (λ (c : Counts). c.calls) called

    reads : counts.reads ≡ p.work.counts.reads
    reads = ap (λ (c : Counts). c.reads) called

    looks : counts.looks ≡ p.work.counts.looks
    looks = ap (λ (c : Counts). c.looks) called

    hand-none : in_hand p.hand ≡ 0
    hand-none = ap in_hand empty

    -- so has it come there
    comes-skipped : (v : List ℕ) → s.stands p.cursor.state (Some v) → Comes s p v skipped
    comes-skipped v there =
        subst (λ (u : List ℕ). s.stands p.cursor.state (Some u) → Comes s p u skipped) (sym (node-is v there)) (λ start. record {
          node = [];
          there = start;
          leads = led-start (to - p.cursor.at) (omega arith);
          none = λ t n some less.
              none-there s by.unanchored begin.some (led-start n (omega arith));
          paid = (let h = hand-none in let l = looks in let w = ap (worth s []) empty in omega arith);
          dead = tt;
        }) there

    may-skip : may_skip s.wants_prefilter (search_of s.built s.anchored [] 0 0) ≡ true
    may-skip = ap (λ (a : Anchored). may_skip s.wants_prefilter (search_of s.built a [] 0 0)) by.unanchored ∙ ap is_some by.skips.built_so

    module _ {q : Point} (two : HasScanned s skipped q) (moved : p.cursor.at < read_to q) (uncalled : q.work.counts.calls ≡ counts.calls) where
      scanned-skipped : HasScanned s p q
      scanned-skipped =
          let h = hand-none in let k = calls in let r = reads in let l = looks in let o = two.onward in let f = two.further in
          record {
            onward = omega arith;
            further = omega arith;
            grows = grows-trans (record { reads = omega arith; looks = omega arith; calls = omega arith }) two.grows;
            forward = two.forward;
            unread = two.unread;
            told = λ moves. (let t = two.told moves in omega arith);
            whole = λ same. absurd (omega arith);
            counted = λ same. absurd (omega arith);
            reads = (let n = two.reads in omega arith);
            calls = omega arith;
            quiet = λ not. absurd (false≢true (sym not ∙ may-skip));
          }

    -- where that is before the end it may read on there
    pub may-skipped : to < end → MayRead s end skipped
    may-skipped before = record {
      alive = may.alive;
      hand = tt;
      unread = (let u = may.unread in let h = hand-none in omega arith);
      inside = may.inside;
    }

    -- what it reads there it has read from where it was
    reads-skipped : {q : Point} → ReadsOn s end skipped q → to < read_to q → q.work.counts.calls ≡ counts.calls → ReadsOn s end p q
    reads-skipped {q} two moved uncalled = record {
      bytes = two.bytes;
      within = λ h. two.within up;
      scans = scanned-skipped two.scans (omega arith) uncalled;
      hand = two.hand;
      comes = λ v there.
          let one = comes-skipped v there in
          let r = reads in let g = two.scans.grows.reads in
          comes-then one refl refl (two.comes one.node one.there) onward two.scans.onward (omega arith) g
          (λ t m. none-there s by.unanchored begin.some (ap (λ (u : List ℕ). Some u) (node-is one.node one.there)));
    }

    pub piece-skipped : {dead : Option Dead} {q : Point} → ReadsFurther s end skipped dead q → to < end → to < read_to q
        → q.work.counts.calls ≡ counts.calls → ReadsFurther s end p dead q
    piece-skipped two before moved uncalled = record {
      on = reads-skipped two.on moved uncalled;
      moved = λ h none. let m = two.moved before none in omega arith;
      gone = two.gone;
    }

    -- or it has come to the end
    pub skipped-end : p.cursor.at < to → ReadsFurther s end p None skipped
    skipped-end moved =
        let h = hand-none in let u = may.unread in
        record {
          on = record {
            bytes = refl;
            within = λ w. up;
            scans = scanned-skipped (nothing-scanned (omega arith)) (omega arith) refl;
            hand = tt;
            comes = comes-skipped;
          };
          moved = λ before n. moved;
          gone = tt;
        }
