-- A find where a match may be picked anywhere in its span: what it gives is the pick, once it has read as far as it reads or called
-- its prefilter.
use Rattle.ac_util.proofs.Prelude.{◌≡◌, ◌⊎◌, ℕ, ◌+◌, ◌<◌, ◌≤◌, ◌==◌, true, false, nat_lt, List, [], ◌∷◌, length, inl, inr, refl, ap, sym, ◌∙◌, subst, arith, Option, None, Some, IfSome, rules, list_any, cases_Bool, false≢true, ltb-true, common_steps}
use Rattle.ac_automaton.specs.Prelude.{IsPickIn, Counts, is_empty, is_leftmost, IsNeedleMatch, IsPick, MatchKind, may_skip, No, Node, Occurrence, Occurs, one_more_call, participates, pick, plain_patterns, Search, search_over, shortest_len, Span, Yes, Needle, Anchored, Lists, is_free, AutomatonView, Cursor, HasRead, HasReadMatch, HasSearched, in_memory, most_looks, node, plain_of, ReadsTo, Scan, ScansTo, ScanText, search_through, Skips, Work, begun_by, IsSearchBy, PicksBy, scan_by, Spot, IsAtStart, Point, ReadsOn, Core, Position, SkipBudget}
use Rattle.ac_util.proofs.AtStart.{pick-rest}
use Rattle.ac_util.proofs.Marks.{is_empty-length}
use Rattle.ac_util.proofs.Picks.{pick-IsPick}
use Rattle.ac_util.proofs.Shortest.{shortest-empty}
use Rattle.ac_util.proofs.Walks.{pick-Occurs}
use Rattle.ac_automaton.proofs.FindAhead.{found-nothing}
use Rattle.ac_automaton.proofs.FindLoop.{order, up_to, picking_by}
use Rattle.ac_automaton.proofs.OnwardNeedle.{none-in, one-takes_part}
use Rattle.ac_automaton.proofs.PastGives.{ends-there as ends-in}
use Rattle.ac_automaton.proofs.ReadAhead.{scans-there}
use Rattle.ac_automaton.proofs.ReadOn.{read-scanned}
use Rattle.ac_automaton.proofs.Skipping.{none-there}
use Rattle.ac_automaton.proofs.FindReading.{alive, as-kind, comes, is-search, lived, node-is, onward, picked-there, searched-read, stands, starts}

-- where the shortest pattern has a byte none is empty
empty-any : (ps : List (List ℕ)) → list_any is_empty ps ≡ list_any (λ p. length p == 0) ps
empty-any [] = refl
empty-any (p ∷ ps) = rw (is_empty-length p, empty-any ps) refl

pub none-empty : (ps : List (List ℕ)) → nat_lt 0 (shortest_len ps) ≡ true → list_any is_empty ps ≡ false
none-empty ps some = elim (cases_Bool (list_any is_empty ps)) [
  | inl empty ↦ absurd (let none = (shortest-empty ps).1 (sym (empty-any ps) ∙ empty) in let more = ltb-true 0 (shortest_len ps) some in omega arith)
  | inr none ↦ none
]

-- a search that may pick a match anywhere isn't anchored, and has no empty pattern
pub free-unanchored : (anchored : Anchored) (ps : List (List ℕ)) → is_free anchored ps ≡ true → anchored ≡ No
free-unanchored No ps free = refl
free-unanchored Yes ps free = absurd (false≢true free)

pub free-some : (anchored : Anchored) (ps : List (List ℕ)) → is_free anchored ps ≡ true → nat_lt 0 (shortest_len ps) ≡ true
free-some No ps free = free
free-some Yes ps free = absurd (false≢true free)

-- a find of an automaton, which begins at its start
module _ {A M : Type 0} (seen : A → AutomatonView) (k : Core A M) (lawful : IsSearchBy seen k)
    (one_or_two : ((seen k.automaton.now).most ≡ 1) ⊎ ((seen k.automaton.now).most ≡ 2))
    (leftmost : k.stops ≡ false → is_leftmost (seen k.automaton.now).built.kind ≡ true)
    (some : list_any is_empty (seen k.automaton.now).built.patterns ≡ false)
    (lists : (state : ℕ) (u : Node) → (seen k.automaton.now).stands No state u
    → Lists (seen k.automaton.now).built No u ((seen k.automaton.now).listed state))
    (bytes : List ℕ) (span : Span) (ordered : span.start ≤ span.end) (inside : span.end ≤ length bytes) (begun : Work)
    (unread : begun.place ≤ span.start) where
  abbrev a : AutomatonView
  a = seen k.automaton.now

  abbrev s : Scan
  s = scan_by seen k

  abbrev t : ScanText
  t = in_memory bytes span

  abbrev start : Point
  start = record { bytes = bytes; cursor = record { state = k.start; at = span.start }; hand = None; work = begun }

  abbrev picks : MatchKind
  picks = order s k.stops bytes span

  abbrev searches : Search
  searches = search_through s t

  abbrev picked_to : ℕ → Option Occurrence
  picked_to at = pick picks (up_to s k.stops bytes span at)

  -- it has come to its start without a match: then its prefilter answers the pick of the rest of the span
  module _ {needle : List ℕ} (skips : Skips a.wants_prefilter a.built (Needle needle)) {cursor : Cursor} {read_bytes : List ℕ} {work : Work}
      (on : ReadsOn s span.end start (record { bytes = read_bytes; cursor = cursor; hand = None; work = work }))
      (at-start : IsAtStart s cursor.state) (before : cursor.at < span.end) where
    there : node s t cursor.at ≡ Some []
    there = node-is seen k lawful one_or_two leftmost some lists bytes span ordered inside begun unread on ∙ at-start (Some (comes seen k lawful one_or_two leftmost some lists bytes span ordered inside begun unread on).node) (comes seen k lawful one_or_two leftmost some lists bytes span ordered inside begun unread on).there

    none-picked : picked_to cursor.at ≡ None
    none-picked = elim (cases_Bool k.stops) [
      | inl stops ↦ sym (picked-there seen k lawful one_or_two leftmost some lists bytes span ordered inside begun unread on stops) ∙ found-nothing s k.stops bytes span cursor.at (none-there s refl some there)
      | inr past ↦
          (let same : (comes seen k lawful one_or_two leftmost some lists bytes span ordered inside begun unread on).node ≡ [] = (let e = at-start (Some (comes seen k lawful one_or_two leftmost some lists bytes span ordered inside begun unread on).node) (comes seen k lawful one_or_two leftmost some lists bytes span ordered inside begun unread on).there in cc) in
          sym (as-kind seen k lawful one_or_two leftmost some lists bytes span ordered inside begun unread on past)
          ∙ ends-in a (lawful.core.on past) k.commits.now.chains (up_to s k.stops bytes span cursor.at) (is-search seen k lawful one_or_two leftmost some lists bytes span ordered inside begun unread on) refl (comes seen k lawful one_or_two leftmost some lists bytes span ordered inside begun unread on).node
          cursor.at (stands seen k lawful one_or_two leftmost some lists bytes span ordered inside begun unread on) refl
          (subst (λ (u : List ℕ). IsPickIn a.built.kind (plain_of a.built) No u None) (sym same) (none-in a.built (lawful.core.on past))))
    ]

    -- nothing occurs in what was read
    nothing : (m : Occurrence) → ¬ Occurs (up_to s k.stops bytes span cursor.at) m
    nothing =
        subst (IsPick picks (up_to s k.stops bytes span cursor.at)) none-picked (pick-IsPick picks (up_to s k.stops bytes span cursor.at))

    -- each pattern takes part, since there is one
    all : (n : ℕ) → n < length a.built.patterns → participates a.built.kind (plain_patterns searches) n ≡ true
    all n within = search (rules, one-takes_part)

    -- what is picked in the rest of the span is picked
    abbrev rest : Search
    rest = search_over a.built.ignores_case a.built.patterns bytes cursor.at span.end

    picked-rest : {r : Option Occurrence} → pick picks rest ≡ r → r ≡ pick picks searches
    picked-rest is =
        sym is ∙ pick-rest a.built.kind searches refl cursor.at (onward seen k lawful one_or_two leftmost some lists bytes span ordered inside begun unread on) (omega (arith, before)) inside all there nothing picks

    scans : ScansTo s t span.start begun cursor.at work
    scans = scans-there one_or_two refl (alive seen k lawful one_or_two leftmost some lists bytes span ordered inside begun unread) (starts seen k lawful one_or_two leftmost some lists bytes span ordered inside begun unread) refl on.scans (comes seen k lawful one_or_two leftmost some lists bytes span ordered inside begun unread on) (omega (arith, before)) refl

    module _ {counts : Counts} (counted : counts ≡ one_more_call work.counts) where
      abbrev after : Work
      after = record { place = work.place; counts = counts }

      calls : counts.calls ≡ work.counts.calls + 1
      calls = ap (λ (c : Counts). c.calls) counted

      reads : counts.reads ≡ work.counts.reads
      reads = ap (λ (c : Counts). c.reads) counted

      looks : counts.looks ≡ work.counts.looks
      looks = ap (λ (c : Counts). c.looks) counted

      -- it has called once more, so nothing is owed to a find that has not
      called : counts.calls ≡ begun.counts.calls → ⊥
      called same = omega (arith, same, calls, scans.grows.calls)

      has_read : HasRead (most_looks s.anchored s.most) (may_skip s.wants_prefilter searches) span.start span.end begun after
      has_read = search (rules, called, calls, looks, read-scanned, reads)

      ends-rest : (r : Option Occurrence) → pick picks rest ≡ r → IfSome r (ReadsTo span.start begun after)
      ends-rest None answer = tt
      ends-rest (Some m) answer = grind (arith, common_steps, pick-Occurs picks rest m answer)

      says : (r : Option Occurrence) → IfSome r (HasReadMatch span.start begun after)
      says None = tt
      says (Some m) = record { place = λ same. absurd (called same); reads = λ same. absurd (called same) }

      -- the pick of the rest is the match of the needle
      answers : {r : Option Occurrence} → IsNeedleMatch needle bytes cursor.at span.end r → pick picks rest ≡ r
      answers {r} found = search rules

      pub searched-rest : (r : Option Occurrence) → IsNeedleMatch needle bytes cursor.at span.end r
          → HasSearched (picking_by s k.stops) searches r begun after
      searched-rest r found = record {
        answer = picked-rest (answers found);
        read = has_read;
        says = says r;
        stops = λ standard. ends-rest r (answers found);
        dead = λ j low up. lived seen k lawful one_or_two leftmost some lists bytes span ordered inside begun unread on j low (let u = scans.unread in omega arith);
        decided = λ same. absurd (called same);
      }

  picks-there : {budget : SkipBudget} {r : Spot} {found : Option Occurrence}
      → PicksBy seen k (record { here = begun_by k span budget; bytes = bytes; work = begun }) found r
      → HasSearched (picking_by s k.stops) searches found begun r.work
  picks-there (inl read) = searched-read seen k lawful one_or_two leftmost some lists bytes span ordered inside begun unread read.read read.gives
  picks-there {found = found} (inr needle) =
      rw (needle.called) (searched-rest needle.skips needle.read needle.at_start needle.before refl found
      (subst (λ (bs : List ℕ). IsNeedleMatch needle.needle bs needle.cursor.at span.end found) needle.read.bytes needle.found_so))

  -- so what it gives is the pick
  pub finds-pick : {p : Position} {budget : SkipBudget} {r : Spot} {found : Option Occurrence} → p ≡ begun_by k span budget
      → PicksBy seen k (record { here = p; bytes = bytes; work = begun }) found r
      → HasSearched (picking_by s k.stops) searches found begun r.work
  finds-pick {p} {budget} {r} {found} is picks =
      picks-there (subst (λ (h : Position). PicksBy seen k (record { here = h; bytes = bytes; work = begun }) found r) is picks)
