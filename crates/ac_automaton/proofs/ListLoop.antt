-- A listing that reads byte by byte: which item is due where the automaton stands, and what is listed with one byte
-- more.
use Rattle.ac_util.proofs.Prelude.{◌≡◌, ◌⊎◌, ℕ, zero, suc, ◌+◌, ◌-◌, ◌<◌, ◌≤◌, Bool, true, cond, List, [], ◌∷◌, ◌++◌, map, length, length-append, inl, inr, refl, ap, sym, subst, ◌∙◌, arith, Option, Some, None, All, slice_get, rules, take_while, append_assoc, length-map, slice_get_past, common_steps}
use Rattle.ac_automaton.specs.Prelude.{all, ending, item_at, MatchKind, Node, Occurrence, Occurs, pattern_of, place_after, Search, Span, Standard, Cursor, due_in, given_in, HasMoved, in_memory, IsAt, IsListed, IsState, Lists, matches_of, MatchRest, node, node_at, NoMatchBetween, Reached, rest_in, Scan, ScanText, search_through, HasGivenItem}
use Rattle.std.proofs.lemmas.List.Sums.{take_while-cons}
use Rattle.ac_util.proofs.Lists.{IsIn-append_right}
use Rattle.ac_util.proofs.Listing.{all-only}
use Rattle.ac_util.proofs.ListingBeginning.{ListsMore, all-dead, all-longer_by, item-none, item-some}
use Rattle.ac_util.proofs.ListingLonger.{all-empty, all-longer}
use Rattle.ac_automaton.proofs.Due.{counts, listed-due, listed-numbered}
use Rattle.ac_automaton.proofs.ReadOn.{node-fits}
use Rattle.ac_util.proofs.OneLonger.{found_at_end}

-- the element after a list in two lists put together
pub get-beyond : {X : Type 0} (xs ys : List X) (y : X) → slice_get (xs ++ y ∷ ys) (length xs) ≡ Some y
get-beyond [] ys y = refl
get-beyond (x ∷ xs) ys y = get-beyond xs ys y

-- the item of a listing that stands after so many, and the place after it
pub record IsItem (q : Search) (place : ℕ) (m : Occurrence) : Type 0 where
  pub item : item_at q place ≡ Some m
  pub after : place_after q place ≡ place + 1

item-beyond : (q : Search) (before later : List Occurrence) (m : Occurrence) → all q ≡ before ++ m ∷ later
    → IsItem q (length before) m
item-beyond q before later m e = grind (arith, common_steps, get-beyond, item-some)

-- after the last item there is none, and the place stays
pub record IsPast (q : Search) (place : ℕ) : Type 0 where
  pub item : item_at q place ≡ None
  pub after : place_after q place ≡ place

pub past-all : (q : Search) → IsPast q (length (all q))
past-all q = search (rules, item-none, slice_get_past)

module _ (s : Scan) (bytes : List ℕ) (span : Span) where
  -- what is read and searched, and as far as a place
  abbrev t : ScanText
  t = in_memory bytes span

  abbrev pub q : Search
  q = search_through s t

  abbrev pub up_to : ℕ → Search
  up_to at = record q { high = at }

  -- the matches where the automaton has reached a place
  abbrev pub matches_at : ℕ → List ℕ
  matches_at at = matches_of s.built s.anchored (node s t at)

  -- the same by Standard, as the listing goes on
  matches-listed : s.built.kind ≡ Standard → (at : ℕ) → found_at_end Standard (up_to at) ≡ matches_at at
  matches-listed standard at = ap (λ (kind : MatchKind). found_at_end kind (up_to at)) (sym standard)

  -- at the start the matches of the start state are listed
  pub listing-start : s.built.kind ≡ Standard → span.start ≤ length bytes
      → all (up_to span.start) ≡ map (ending (up_to span.start)) (matches_at span.start)
  listing-start standard inside = search (rules, all-empty, matches-listed)

  -- and with one byte more those of the state that it leads to
  pub listing-next : s.built.kind ≡ Standard → (at : ℕ) → span.start ≤ at → at < length bytes
      → all (up_to (at + 1)) ≡ all (up_to at) ++ map (ending (up_to (at + 1))) (matches_at (at + 1))
  listing-next standard at ordered room = grind (arith, common_steps, all-longer (up_to at) ordered room)

  -- where a listing has come to at a place: all matches of its state are left
  abbrev pub arrived : ℕ → ℕ → Reached
  arrived state at = record { state = state; at = at; rest = record { state = state; index = 0 } }

  -- a listing that was just come to a state
  module _ {state at : ℕ} (is_at : IsAt s t state at) (lists : Lists s.built s.anchored (node s t at) (s.listed state)) where
    -- all matches there are due
    pub due-arrived : due_in s.listed q (arrived state at) ≡ matches_at at
    due-arrived =
        listed-due s.built (s.listed state) span.start at s.anchored (node s t at) lists (node-fits s t state at is_at)

    module _ (before : List Occurrence) (listing : all (up_to at) ≡ before ++ map (ending (up_to at)) (matches_at at)) where
      -- so what was listed before was given
      pub given-arrived : given_in s.listed q (arrived state at) ≡ length before
      given-arrived = search (rules, due-arrived, length-append, length-map)

      -- and the matches there are the last items listed
      pub arrives : at ≤ span.end → IsListed s t (arrived state at)
      arrives within = search (rules, due-arrived, listed-numbered)

  module _ {reached : Reached} (on : IsListed s t reached) where
    abbrev here : Search
    here = up_to reached.at

    -- how many items were given
    pub given-count : given_in s.listed q reached ≡ length on.given
    given-count = grind (arith, common_steps)

    -- what is due, by the first match in the rest of the list
    due-first : (n : ℕ) (rest : MatchRest) → rest_in s.listed reached.rest ≡ n ∷ rest_in s.listed rest
        → due_in s.listed q reached
        ≡ cond (counts s.built s.anchored (reached.at - span.start) n) (n ∷ due_in s.listed q (record reached { rest = rest })) []
    due-first n rest e =
        ap (take_while (counts s.built s.anchored (reached.at - span.start))) e
        ∙ take_while-cons (counts s.built s.anchored (reached.at - span.start)) n (rest_in s.listed rest)

    -- what is due first occurs
    pub due-occurs : (n : ℕ) (later : List ℕ) → due_in s.listed q reached ≡ n ∷ later → Occurs here (ending here n)
    due-occurs n later e = search (rules, all-only, IsIn-append_right (ending here n) on.given (map (ending here) (n ∷ later)) (inl refl))

    -- a match that counts is no longer than what was read
    pub due-short : (n : ℕ) (rest : MatchRest) → rest_in s.listed reached.rest ≡ n ∷ rest_in s.listed rest
        → counts s.built s.anchored (reached.at - span.start) n ≡ true
        → length (pattern_of s.built.patterns n) ≤ reached.at
    due-short n rest e counted = search (rules, due-first, due-occurs)

    -- it is given where it counts
    pub gives-first : (n : ℕ) (rest : MatchRest) → rest_in s.listed reached.rest ≡ n ∷ rest_in s.listed rest
        → counts s.built s.anchored (reached.at - span.start) n ≡ true → IsState s.stands rest.state
        → HasGivenItem s t reached (Some (ending here n)) (record reached { rest = rest })
    gives-first n rest e counted state =
        let later = due_in s.listed q (record reached { rest = rest }) in
        let due = due-first n rest e ∙ ap (λ (t : Bool). cond t (n ∷ later) []) counted in
        record {
          state = refl;
          at = refl;
          due = due;
          ending = refl;
          leaves = record {
            reaches = on.reaches;
            within = on.within;
            state = state;
            numbered = λ i k inside.
                subst (λ (ns : List ℕ). All (λ k. k < length s.built.patterns) ns) e on.numbered (suc i) k
                (omega arith);
            given = on.given ++ ending here n ∷ [];
            listing = on.listing ∙ ap (λ (ns : List ℕ). on.given ++ map (ending here) ns) due
                ∙ sym (append_assoc on.given (ending here n ∷ []) (map (ending here) later));
          };
        }

    -- the listing of the whole span goes on after what is listed so far
    goes_on : span.end ≤ length bytes → ListsMore here q
    goes_on legal = search (rules, all-longer_by here (span.end - reached.at) (on.reaches.onward) (omega arith))

    -- the match given is the next item
    pub given-item : span.end ≤ length bytes → (m : Occurrence) (new_reached : Reached)
        → HasGivenItem s t reached (Some m) new_reached → IsItem q (given_in s.listed q reached) m
    given-item legal m new_reached gave = grind (arith, common_steps, given-count, goes_on, item-beyond)

    -- and the place is one further
    pub given-place : (m : Occurrence) (new_reached : Reached)
        → HasGivenItem s t reached (Some m) new_reached
        → given_in s.listed q new_reached ≡ given_in s.listed q reached + 1
    given-place m new_reached gave = grind (arith, common_steps)

    -- where nothing is due all items that end up to there were given
    pub given-all : due_in s.listed q reached ≡ [] → given_in s.listed q reached ≡ length (all here)
    given-all none = let l = ap (length {A = ℕ}) none in omega arith

    -- so at the end of the span, and where the automaton is dead, the listing is at its end
    pub given-past : s.built.kind ≡ Standard → span.end ≤ length bytes → due_in s.listed q reached ≡ []
        → (reached.at ≡ span.end) ⊎ (node s t reached.at ≡ None) → IsPast q (given_in s.listed q reached)
    given-past standard legal none over =
        subst (IsPast q) (sym (given-all none ∙ ap length (sym (whole over)))) (past-all q)
      where
        whole : (reached.at ≡ span.end) ⊎ (node s t reached.at ≡ None) → all q ≡ all here
        whole (inl e) = ap (λ (h : ℕ). all (up_to h)) (sym e)
        whole (inr dead) =
            let order = on.reaches.onward in
            let within = on.within in
            ap (λ (h : ℕ). all (up_to h)) (let e : span.end ≡ reached.at + (span.end - reached.at) = omega arith in e)
            ∙ all-dead here order
            (ap (λ (kind : MatchKind). reached_by kind) (sym standard) ∙ dead)
            (span.end - reached.at) (omega arith)
          where
            reached_by : MatchKind → Node
            reached_by kind = node_at kind q reached.at

    -- a match that was given, or that none is due at the end, is the next item of a listing that had given so many
    pub has-moved : (old : Reached) (found : Option Occurrence) (new_reached : Reached)
        → s.built.kind ≡ Standard → span.end ≤ length bytes
        → given_in s.listed q reached ≡ given_in s.listed q old → HasGivenItem s t reached found new_reached
        → (found ≡ None → (reached.at ≡ span.end) ⊎ (node s t reached.at ≡ None)) → HasMoved s t old found new_reached
    has-moved old None new_reached standard legal as_many gave over = search (rules, given-past)
    has-moved old (Some m) new_reached standard legal as_many gave over = search (rules, given-item, given-place)

  -- a listing has come on: it stands where what is left is still to be given, and has given no item
  pub record HasComeOn (old reached : Reached) : Type 0 where
    pub leaves : IsListed s t reached
    pub as_many : given_in s.listed q reached ≡ given_in s.listed q old

  -- no item ends where no match was passed over, so a listing that has nothing due goes on where its scan has come to
  module _ (standard : s.built.kind ≡ Standard) (legal : span.end ≤ length bytes) {reached : Reached}
      (on : IsListed s t reached) (none : due_in s.listed q reached ≡ []) {cursor : Cursor}
      (is_at : IsAt s t cursor.state cursor.at) (quiet : NoMatchBetween s t reached.at cursor.at)
      (within : cursor.at ≤ span.end) where
    -- all items that end up to a place
    abbrev all_to : ℕ → List Occurrence
    all_to k = all (up_to k)

    all-quiet : (n : ℕ) → reached.at + n < cursor.at → all_to (reached.at + n) ≡ all_to reached.at
    all-quiet zero up = let e : reached.at + 0 ≡ reached.at = omega arith in ap all_to e
    all-quiet (suc n) up = grind (arith, common_steps, listing-next standard (reached.at + n) (omega arith) (omega arith), all-quiet n (omega arith))

    pub come-on : reached.at < cursor.at
        → Lists s.built s.anchored (node s t cursor.at) (s.listed cursor.state)
        → HasComeOn reached (arrived cursor.state cursor.at)
    come-on before lists =
        search (
          rules,
          all-quiet,
          arrives,
          given-arrived,
          listing-next,
          all-quiet (cursor.at - 1 - reached.at) (omega arith),
          listing-next standard (cursor.at - 1) (omega arith) (omega arith),
        )
