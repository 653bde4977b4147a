-- A search goes on: by the next match of its chain, by what it has read, or by what its prefilter finds.
use Rattle.ac_util.proofs.Prelude.{◌≡◌, ◌⊎◌, ◌≤◌, ◌<◌, ◌+◌, ◌-◌, ℕ, zero, suc, Bool, false, true, List, [], length, slice_index, slice_get, option_map, ap, sym, ◌∙◌, subst, refl, arith, inl, inr, Option, None, Some, false≢true, length-map}
use Rattle.ac_automaton.specs.Prelude.{Built, Counts, depth, IsNeedleMatch, MatchKind, No, Node, Occurrence, pattern_of, plain as plain-of, Search, Taped, text, usize_max, end_after, StandsAfter, Lists, AutomatonView, Cursor, MovesApart, plain_of, Scan, search_of, Work, work_of, end_of, FitsBefore, Leaves, GivesAt, GoesBy, IsSearchBy, MayGo, pending, PicksBy, point_of, scan_by, Spot, spot, IsOnward, IsOnwardIn, IsRestBefore, reached_by, hand_of, HasReadOn, in_hand, led, MayRead, Point, ReadsOn, ReadsToStop, Grows, scan_of, ChainMatch, Core, Given, Position, Dead}
use Rattle.ac_util.proofs.Failures.{depth-reached}
use Rattle.ac_util.proofs.Spans.{text_length}
use Rattle.ac_automaton.proofs.OnwardEnds.{HasGiven, HasStopped}
use Rattle.ac_automaton.proofs.Heads.{head-fits, plain_length}
use Rattle.ac_automaton.proofs.Looks.{step-short}
use Rattle.ac_automaton.proofs.OnwardGives.{given-none, given-some, gives-past}
use Rattle.ac_automaton.proofs.OnwardTakes.{may-take, takes-next}
use Rattle.ac_automaton.proofs.OnwardNeedle.{needle-after, needle-gives}
use Rattle.ac_automaton.proofs.OnwardReads.{may-onward, onward-on, onward-stops}
use Rattle.ac_automaton.proofs.ReadingOn.{reads-then}
use Rattle.ac_automaton.proofs.ReadOn.{grows-same}

-- bytes lead to a node that is longer by no more than they are
led-short : (s : Scan) (bytes : List ℕ) (u : Node) (from n : ℕ) → depth (led s bytes u from n) ≤ depth u + n
unfolding led
led-short s bytes u from zero = omega arith
led-short s bytes u from (suc n) =
    let l = led-short s bytes u from n in let m = step-short s.built s.anchored (led s bytes u from n) (slice_index bytes (from + n)) in omega arith

-- a scan that has read on stands for a node that is no longer than what it has read, if it did before
pub fits-on : {s : Scan} {end : ℕ} {p q : Point} → FitsBefore s p.cursor → ReadsOn s end p q → FitsBefore s q.cursor
fits-on {s} {end} {p} {q} fits on =
    let c = on.comes fits.node fits.there in let l = led-short s p.bytes (Some fits.node) p.cursor.at (q.cursor.at - p.cursor.at) in
    let e = ap depth c.leads in let short = fits.short in let up = on.scans.onward in
    record { node = c.node; there = c.there; short = omega arith }

-- what is given of a state is by one of the patterns, which lies in what was read
pub given-fits : (a : AutomatonView) (chains : List (List ChainMatch)) (start state at : ℕ) (stops : Bool) (node : List ℕ) (given : Given)
    → a.stands No state (Some node) → Lists a.built No (Some node) (a.listed state) → length node ≤ at
    → GivesAt a chains start stops state (Some given)
    → (given.pattern < length a.built.patterns) × (length (pattern_of a.built.patterns given.pattern) ≤ at - given.rest)
given-fits a chains start state at true node given there lists short is = by (slice_get (a.listed state) 0) refl is
  where
    by : (first : Option ℕ) → slice_get (a.listed state) 0 ≡ first
        → Some given ≡ option_map (λ (p : ℕ). record { pattern = p; rest = 0; next = start; chain = None }) first
        → (given.pattern < length a.built.patterns) × (length (pattern_of a.built.patterns given.pattern) ≤ at - given.rest)
    by None e gives = absurd (cc)
    by (Some p) e gives =
        let fits = head-fits a.built (a.listed state) 0 at No (Some node) p lists
        (record { ordered = omega arith; short = omega arith; whole = λ yes some. absurd (cc) }) e in
        let same : given ≡ record { pattern = p; rest = 0; next = start; chain = None } = cc in
        rw (same) (fits.numbered, fits.short)
given-fits a chains start state at false node given there lists short is =
    let g = is node there in let long = g.gives.picked.as_long in let plain = plain_length a.built g.picked.pattern in
    let n = g.gives.picked.stands.prefixes.numbered in let l = length-map a.built.patterns (plain-of a.built.ignores_case) in
    let e = ap (λ (k : ℕ). length (pattern_of a.built.patterns k)) g.number in let same = g.number in let r = g.rest in
    (omega arith, omega arith)

-- a scan with nothing in hand has read as far as it reads
pub stops-read : {s : Scan} {end : ℕ} {bytes new_bytes : List ℕ} {cursor new_cursor : Cursor} {work new_work : Work} {hand new_hand : Option ℕ}
    {dead : Option Dead} → hand ≡ None → new_hand ≡ hand_of dead
    → ReadsToStop s end (record { bytes = bytes; cursor = cursor; hand = None; work = work }) dead
    (record { bytes = new_bytes; cursor = new_cursor; hand = hand_of dead; work = new_work })
    → HasReadOn s end (record { bytes = bytes; cursor = cursor; hand = hand; work = work })
    (record { bytes = new_bytes; cursor = new_cursor; hand = new_hand; work = new_work })
stops-read none is stops = rw (none, is) (record { on = stops.further.on; enough = stops.enough })

-- a walk stands at a node that is no longer than what it has read
stands-short : (kind : MatchKind) (patterns : List (List ℕ)) {q : Search} {ms : List Occurrence} {v : List ℕ} {at : ℕ}
    → StandsAfter kind patterns q ms v at → q.high ≤ length q.haystack → length v ≤ at
stands-short kind patterns {q} {ms} {v} {at} stands inside =
    let short = depth-reached kind patterns (text (record q { low = end_after q.low ms; high = at })) in let e = ap depth stands.stands in
    let w = stands.within in let i = stands.inside in
    let long = text_length (record q { low = end_after q.low ms; high = at }) w (omega arith) in omega arith

module _ {A M : Type 0} (seen : A → AutomatonView) (k : Core A M) (past : k.stops ≡ false) where
  -- it has read on as far as it reads from where it was
  pub read-on : {end : ℕ} {p q r : Point} → ReadsOn (scan_by seen k) end p q → q.hand ≡ None
      → ((u : Node) → (seen k.automaton.now).stands No q.cursor.state u
      → Lists (seen k.automaton.now).built No u ((seen k.automaton.now).listed q.cursor.state))
      → HasReadOn (scan_by seen k) end q r → HasReadOn (scan_by seen k) end p r
  read-on on empty lists read = record {
    on = reads-then on empty read.on lists (λ moved stops. false≢true (sym past ∙ stops.0));
    enough = read.enough;
  }

  -- what it gives once it has read on, it gives from where it was
  pub reads-next : {p q : Spot} → ReadsOn (scan_by seen k) p.here.end (point_of p) (point_of q) → q.here.byte ≡ None → q.here.end ≡ p.here.end
      → ((u : Node) → (seen k.automaton.now).stands No q.here.cursor.state u
      → Lists (seen k.automaton.now).built No u ((seen k.automaton.now).listed q.here.cursor.state))
      → {found : Option Occurrence} {new : Spot} → PicksBy seen k q found new
      → PicksBy seen k p found new
  reads-next {p} {q} on empty same lists {found} {new} (inl read) = inl (record {
    stop = read.stop;
    bytes = read.bytes;
    read = read-on on empty lists (subst (λ (n : ℕ). HasReadOn (scan_by seen k) n (point_of q)
        (point_of (record { here = read.stop; bytes = read.bytes; work = new.work }))) same read.read);
    gives = read.gives;
  })
  reads-next {p} {q} on empty same lists {found} {new} (inr finds) = inr (record {
    needle = finds.needle;
    skips = finds.skips;
    bytes = finds.bytes;
    cursor = finds.cursor;
    work = finds.work;
    read = reads-then on empty (subst (λ (n : ℕ). ReadsOn (scan_by seen k) n (point_of q)
        (record { bytes = finds.bytes; cursor = finds.cursor; hand = None; work = finds.work })) same finds.read) lists
        (λ moved stops. false≢true (sym past ∙ stops.0));
    at_start = finds.at_start;
    before = (let b = finds.before in omega arith);
    called = finds.called;
    found_so = subst (λ (n : ℕ). IsNeedleMatch finds.needle finds.bytes finds.cursor.at n found) same finds.found_so;
    there = subst (λ (n : ℕ). new.here.cursor ≡ record { state = finds.cursor.state; at = end_of n found }) same finds.there;
    empty = finds.empty;
    none = finds.none;
  })

-- what is given moves nothing
gives-there : (built : Built) (old new : Position) (given : Option Given) (found : Option Occurrence)
    → Leaves built old given found new → reached_by new ≡ reached_by old
gives-there built old new None found gives = ap reached_by gives.1
gives-there built old new (Some given) found gives = ap reached_by gives.1

-- where a search finds its next match it has read on, or stands where it stood, and has read no more bytes than that
module _ {A M : Type 0} {seen : A → AutomatonView} {k : Core A M} where
  pub finds-grow : {p q : Spot} {found : Option Occurrence} → PicksBy seen k p found q → Grows p.work.counts q.work.counts
  finds-grow (inl read) = read.read.on.scans.grows
  finds-grow {p} (inr finds) =
      let g = finds.read.scans.grows in let e = ap (λ (w : Work). w.counts) finds.called in
      let r = ap (λ (n : Counts). n.reads) e in let l = ap (λ (n : Counts). n.looks) e in let c = ap (λ (n : Counts). n.calls) e in
      let a = g.reads in let b = g.looks in let d = g.calls in
      record { reads = omega arith; looks = omega arith; calls = omega arith }

  pub finds-apart : {p q : Spot} {found : Option Occurrence} → PicksBy seen k p found q
      → MovesApart (record { place = reached_by p.here; counts = p.work.counts })
      (record { place = reached_by q.here; counts = q.work.counts })
  finds-apart {p} {q} {found} (inl read) =
      let e = gives-there (seen k.automaton.now).built read.stop q.here read.gives.given found read.gives.gives in let s = read.read.on.scans in
      let f = s.further in let u = s.unread in let r = s.reads in
      record { onward = omega arith; reads = omega arith }
  finds-apart {p} {q} {found} (inr finds) =
      let s = finds.read.scans in let f = s.further in let u = s.unread in let r = s.reads in
      let c = ap (λ (w : Work). w.counts.reads) finds.called in let t = ap (λ (c : Cursor). c.at) finds.there in
      let h = ap in_hand finds.empty in let up = needle-end finds.needle finds.bytes p.here.end finds.found_so finds.before in
      record { onward = omega arith; reads = omega arith }
    where
      needle-end : (needle bytes : List ℕ) (end : ℕ) {at : ℕ} {r : Option Occurrence} → IsNeedleMatch needle bytes at end r → at < end
          → at ≤ end_of end r
      needle-end needle bytes end {r = None} is before = omega arith
      needle-end needle bytes end {r = Some m} is before = needle-after needle bytes end is refl

-- a walk that reads on past its matches
module _ {A M : Type 0} (seen : A → AutomatonView) (k : Core A M) (lawful : IsSearchBy seen k) (past : k.stops ≡ false) (bytes : List ℕ)
    (low end start : ℕ) (inside : end ≤ length bytes) where
  abbrev a : AutomatonView
  a = seen k.automaton.now

  abbrev q : Search
  q = search_of a.built No bytes low end

  -- as it reads
  as-past : {p r : Point} → HasReadOn (scan_by seen k) end p r → HasReadOn (scan_of a No false) end p r
  as-past {p} {r} read = subst (λ (t : Bool). HasReadOn (scan_of a No t) end p r) past read

  as-past-on : {p r : Point} → ReadsOn (scan_by seen k) end p r → ReadsOn (scan_of a No false) end p r
  as-past-on {p} {r} read = subst (λ (t : Bool). ReadsOn (scan_of a No t) end p r) past read

  -- gives what is picked
  pub finds-gives : (one_or_two : (a.most ≡ 1) ⊎ (a.most ≡ 2)) {p r : Spot} {found : Option Occurrence} → p.here.end ≡ end → p.bytes ≡ bytes
      → IsOnward a q start [] p.here.cursor p.here.byte p.work → PicksBy seen k p found r
      → HasGiven a k.commits.now.chains q start found r.here.rest r.here.cursor r.here.byte r.work
  finds-gives one_or_two {p} {r} {found} ends same onward (inl read) = by read.gives.given read.gives.is read.gives.gives
    where
      stopped : HasStopped a q start read.stop.cursor read.stop.byte r.work
      stopped =
          let r = as-past (subst (λ (n : ℕ). HasReadOn (scan_by seen k) n (point_of p)
          (point_of (record { here = read.stop; bytes = read.bytes; work = r.work }))) ends read.read) in
          onward-stops a bytes low end start inside same onward r.on r.enough

      by : (given : Option Given) → GivesAt a k.commits.now.chains k.start k.stops read.stop.cursor.state given
          → Leaves a.built read.stop given found r.here
          → HasGiven a k.commits.now.chains q start found r.here.rest r.here.cursor r.here.byte r.work
      by None is gives =
          rw (gives.0, gives.1) (given-none a (lawful.core.on past) k.commits.now.chains bytes low end start inside stopped
          (gives-past a k.commits.now.chains k.start read.stop.cursor.state k.stops None past is stopped.node stopped.stands.there)
          read.stop.rest read.stop.cursor read.stop.byte)
      by (Some given) is gives =
          rw (gives.0, gives.1) (given-some a (lawful.core.on past) k.commits.now.chains bytes low end start inside stopped given
          (gives-past a k.commits.now.chains k.start read.stop.cursor.state k.stops (Some given) past is stopped.node stopped.stands.there)
          one_or_two _ refl)
  finds-gives one_or_two {p} {r} {found} ends same onward (inr finds) =
      rw (finds.there, finds.empty, finds.none, finds.called, ends) (needle-gives (lawful.core.on past) finds.skips k.commits.now.chains inside refl
      (onward-on a bytes low end start inside same onward (as-past-on (subst (λ (n : ℕ). ReadsOn (scan_by seen k) n (point_of p)
      (record { bytes = finds.bytes; cursor = finds.cursor; hand = None; work = finds.work })) ends finds.read)) refl) finds.at_start
      (let b = finds.before in omega arith) refl found
      (subst (λ (bs : List ℕ). IsNeedleMatch finds.needle bs finds.cursor.at end found) (finds.read.bytes ∙ same)
      (subst (λ (n : ℕ). IsNeedleMatch finds.needle finds.bytes finds.cursor.at n found) ends finds.found_so))
      (end_of end found) (λ m is. ap (end_of end) is))

-- so does one that has some of a chain left
module _ {A M : Type 0} (seen : A → AutomatonView) (k : Core A M) (lawful : IsSearchBy seen k) (past : k.stops ≡ false) (tape : Taped)
    (counts : Counts) (low end start : ℕ) (inside : end ≤ length tape.bytes) (here : Position) (ends : here.end ≡ end)
    (onward : IsOnwardIn (seen k.automaton.now) tape low end start (pending (seen k.automaton.now).built k.commits.now.chains here.rest) here.cursor
    here.byte counts) (sound : IsRestBefore k.commits.now.chains low here.rest) where
  abbrev v : AutomatonView
  v = seen k.automaton.now

  -- and may go on
  pub may-go : end < usize_max → MayGo seen k (spot here tape counts)
  may-go small = record {
    reads = subst (λ (n : ℕ). MayRead (scan_by seen k) n (point_of (spot here tape counts))) (sym ends)
        (subst (λ (t : Bool). MayRead (scan_of v No t) end (point_of (spot here tape counts))) (sym past)
        (may-onward v tape.bytes low end start inside {p = point_of (spot here tape counts)} refl onward));
    fits = record {
      node = onward.node;
      there = onward.stands.there;
      short = stands-short v.built.kind (plain_of v.built) onward.stands.after inside;
    };
    known = may-take v (lawful.core.on past) k.commits.now.chains tape.bytes low end start inside here.rest onward sound small;
  }

  pub goes-given : (v.most ≡ 1) ⊎ (v.most ≡ 2) → {found : Option Occurrence} {r : Spot} → GoesBy seen k (spot here tape counts) found r
      → HasGiven v k.commits.now.chains (search_of v.built No tape.bytes low end) start found r.here.rest r.here.cursor r.here.byte r.work
  goes-given one_or_two {found} {r} (inl known) =
      let given = takes-next v (lawful.core.on past) k.commits.now.chains tape.bytes low end start inside here.rest onward sound (Some known.m)
      r.here.rest known.takes in
      subst (λ (w : Work). HasGiven v k.commits.now.chains (search_of v.built No tape.bytes low end) start found r.here.rest r.here.cursor r.here.byte w) (sym known.still)
      (subst (λ (o : Option Occurrence). HasGiven v k.commits.now.chains (search_of v.built No tape.bytes low end) start o r.here.rest r.here.cursor r.here.byte (work_of tape counts)) (sym known.is)
      (subst (λ (n : Position). HasGiven v k.commits.now.chains (search_of v.built No tape.bytes low end) start (Some known.m) r.here.rest n.cursor n.byte (work_of tape counts)) (sym known.same) given))
  goes-given one_or_two (inr (none, finds)) =
      finds-gives seen k lawful past tape.bytes low end start inside one_or_two ends refl
      (subst (λ (ms : List Occurrence). IsOnwardIn v tape low end start ms here.cursor here.byte counts) none onward) finds

module _ {A M : Type 0} {seen : A → AutomatonView} {k : Core A M} {p q : Spot} {found : Option Occurrence} where
  pub goes-grow : GoesBy seen k p found q → Grows p.work.counts q.work.counts
  goes-grow (inl known) = rw (known.still) (grows-same p.work.counts)
  goes-grow (inr (none, finds)) = finds-grow finds

  pub goes-apart : GoesBy seen k p found q
      → MovesApart (record { place = reached_by p.here; counts = p.work.counts }) (record { place = reached_by q.here; counts = q.work.counts })
  goes-apart (inl known) =
      let r = ap reached_by known.same in let c = ap (λ (w : Work). w.counts.reads) known.still in
      record { onward = omega arith; reads = omega arith }
  goes-apart (inr (none, finds)) = finds-apart finds
