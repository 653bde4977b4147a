-- A listing on its way: it has read on, and has given no item yet.
use Rattle.ac_util.proofs.Prelude.{◌≡◌, ◌⊎◌, ◌<◌, ℕ, [], IsTrue, ◌↔◌, Bool, false, subst, sym, ◌∙◌, inr, Option, Some, None, rules, cases_lt, false≢true, ◌≤◌}
use Rattle.ac_automaton.specs.Prelude.{Counts, Node, Occurrence, Taped, Cursor, due_in, in_memory, IsAlive, Lists, ListsOn, MayAdvance, MayList, NoMatchBetween, node, Reached, Scan, ScannerView, ScansTo, ScanText, search_through, work_of, HasGivenItem, TakesDue, Advances, at}
use Rattle.ac_automaton.proofs.ListLoop.{HasComeOn, come-on, has-moved}
use Rattle.ac_automaton.proofs.ReadOn.{scans-on}

-- the listing has come on to here, and has given no item
pub record HasListedOn (v : ScannerView) (start : Reached) (tape : Taped) (counts : Counts) (reached : Reached)
    (new_tape : Taped) (new_counts : Counts) : Type 0 where
  pub bytes : new_tape.bytes ≡ tape.bytes
  pub on : HasComeOn v.scan tape.bytes v.span start reached
  pub scans : ScansTo v.scan (in_memory tape.bytes v.span) start.at (work_of tape counts) reached.at
      (work_of new_tape new_counts)

-- where no item is given nothing is due, and the listing stays
stays : {s : Scan} {t : ScanText} {reached left : Reached} (found : Option Occurrence) → HasGivenItem s t reached found left
    → found ≡ None → (due_in s.listed (search_through s t) reached ≡ []) × (left ≡ reached)
stays None gave none = gave.due
stays (Some m) gave none = absurd (cc)

-- where an automaton stands once a listing has come to here
abbrev pub cursor_of : Reached → Cursor
cursor_of reached = record { state = reached.state; at = reached.at }

module _ {v : ScannerView} {start : Reached} {tape : Taped} {counts : Counts} (may : MayList v tape start)
    {reached : Reached} {tape_here : Taped} {counts_here : Counts}
    (on : HasListedOn v start tape counts reached tape_here counts_here) {found : Option Occurrence} {left : Reached}
    (takes : TakesDue v reached found left) where
  gave : HasGivenItem v.scan (in_memory tape.bytes v.span) reached found left
  gave = takes tape.bytes on.on.leaves

  -- what is given is the next item, or None at the end
  lists-on : (found ≡ None → (reached.at ≡ v.span.end) ⊎ (node v.scan (in_memory tape.bytes v.span) reached.at ≡ None))
      → ListsOn v start tape counts found left tape_here counts_here
  lists-on over = record {
    bytes = on.bytes;
    moved = has-moved v.scan tape.bytes v.span on.on.leaves start found left may.standard may.inside on.on.as_many gave over;
    scans = subst (λ (k : ℕ). ScansTo v.scan (in_memory tape.bytes v.span) start.at (work_of tape counts) k
        (work_of tape_here counts_here)) (sym gave.at) on.scans;
  }

  pub gives-item : {m : Occurrence} → found ≡ Some m → ListsOn v start tape counts (Some m) left tape_here counts_here
  gives-item {m} is = search (rules, lists-on)

  module _ (none : found ≡ None) where
    -- where none is given the listing stays
    stayed : left ≡ reached
    stayed = (stays found gave none).1

    nothing-due : due_in v.scan.listed (search_through v.scan (in_memory tape.bytes v.span)) reached ≡ []
    nothing-due = (stays found gave none).0

    -- in a state for the node that it has reached
    pub stands-still : v.scan.stands left.state (node v.scan (in_memory tape.bytes v.span) reached.at)
    stands-still = subst (λ (r : Reached). v.scan.stands r.state (node v.scan (in_memory tape.bytes v.span) reached.at)) (sym stayed)
        on.on.leaves.reaches.there

    module _ {test : Bool}
        (says : IsTrue test ↔ ((v.span.end ≤ left.at)
        ⊎ ((node v.scan (in_memory tape.bytes v.span) reached.at) ≡ None))) where
      -- it has none left where nothing is left to read
      pub ends-listing : IsTrue test → ListsOn v start tape counts None left tape_here counts_here
      ends-listing holds = search (rules, gave, lists-on)

      -- and else may read on
      module _ (fails : test ≡ false) where
        alive : IsAlive v.scan (in_memory tape.bytes v.span) (cursor_of reached)
        alive = record { is_at = on.on.leaves.reaches; living = λ dead. false≢true (sym fails ∙ says.1 (inr dead)) }

        before-end : left.at < v.span.end
        before-end = search (rules, cases_lt, false≢true)

        pub may-list-on : MayAdvance v tape_here (cursor_of left)
        may-list-on = search (rules, alive, before-end, gave, stayed)

        -- so it comes to a state whose matches are all due
        pub lists-next : {there : Cursor} {new_tape : Taped} {new_counts : Counts}
            → Advances v (at (cursor_of left) tape_here counts_here) (at there new_tape new_counts)
            → ((u : Node) → v.scan.stands there.state u
            → Lists v.scan.built v.scan.anchored u (v.scan.listed there.state)) → {next : Reached}
            → next ≡ record { state = there.state; at = there.at; rest = record { state = there.state; index = 0 } }
            → HasListedOn v start tape counts next new_tape new_counts
        lists-next {there} {new_tape} {new_counts} advances lists {next} is =
            let passed = advances.passes (in_memory tape.bytes v.span) (sym on.bytes)
            (subst (λ (r : Reached). IsAlive v.scan (in_memory tape.bytes v.span) (cursor_of r)) (sym stayed) alive) in
            let here = subst (λ (k : ℕ). k < there.at) gave.at advances.moved in
            let came = come-on v.scan tape.bytes v.span may.standard may.inside on.on.leaves nothing-due passed.is_at
            (subst (λ (k : ℕ). NoMatchBetween v.scan (in_memory tape.bytes v.span) k there.at) gave.at passed.none)
            advances.within here (lists _ passed.is_at.there) in
            subst (λ (r : Reached). HasListedOn v start tape counts r new_tape new_counts) (sym is) (record {
              bytes = advances.bytes ∙ on.bytes;
              on = record { leaves = came.leaves; as_many = came.as_many ∙ on.on.as_many };
              scans = scans-on on.scans (subst (λ (k : ℕ). ScansTo v.scan (in_memory tape.bytes v.span) k
                  (work_of tape_here counts_here) there.at (work_of new_tape new_counts)) gave.at passed.scans);
            })
