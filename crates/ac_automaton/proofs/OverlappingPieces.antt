-- The listing of a text that comes in pieces: what it gives where it stands, and how it goes on in a piece.
use Rattle.ac_util.proofs.Prelude.{◌≡◌, ◌≢◌, ◌⊎◌, ℕ, ◌+◌, ◌-◌, ◌<◌, ◌≤◌, Bool, true, min, List, [], ◌∷◌, ◌++◌, map, length, length-append, length-map, length-take-le, take, drop, drop_all, get_or-append-add, get_or-take, slice_index, Option, Some, None, IfSome, MatchOption, inl, inr, refl, ap, sym, subst, ◌∙◌, arith, append-nil, cases_lt, take-append-drop, nil_from_length}
use Rattle.ac_automaton.specs.Prelude.{all, Arrives, AutomatonView, Cursor, due_in, ending, GivesTaken, HasGivenItem, HasGivenTaken, in_memory, is_leftmost, IsAt, IsListed, IsPieceListing, item_at, matches_of, No, Node, node, NoMatchBetween, Occurrence, Occurs, piece_listing, PieceListing, plain_of, Reached, reached, ReadsThrough, Scan, scan_of, Search, ScanText, search_taken, search_through, Standard, step, step_of, TakesDue, TakesToItem, led, listed_taken, usize_max}
use Rattle.ac_automaton.specs.Automata.{IsLiveState}
use Rattle.ac_automaton.specs.Finds.{between}
use Rattle.ac_util.proofs.Reached.{reached-alive, step-reached}
use Rattle.ac_automaton.proofs.ListLoop.{HasComeOn, come-on, due-arrived, due-occurs, given-all, given-count, given-item, given-place}
use Rattle.ac_automaton.proofs.PieceReads.{led-moved}
use Rattle.ac_automaton.proofs.ReadAhead.{node-led}
use Rattle.ac_automaton.proofs.PastSpan.{given-beyond, listed-beyond, whole_text}

-- by Standard no bytes lead to the dead node
pub never-dead : (a : AutomatonView) → a.built.kind ≡ Standard → (bytes : List ℕ)
    → reached a.built.kind (plain_of a.built) No bytes ≢ None
never-dead a standard bytes = reached-alive a.built.kind (plain_of a.built) (ap is_leftmost standard) bytes

-- and so none does by one byte more
never-steps : (a : AutomatonView) → a.built.kind ≡ Standard → (bytes w : List ℕ)
    → reached a.built.kind (plain_of a.built) No bytes ≡ Some w → (b : ℕ)
    → step a.built.kind (plain_of a.built) No (Some w) b ≢ None
never-steps a standard bytes w is b dead =
    never-dead a standard (bytes ++ b ∷ [])
    (sym (step-reached a.built.kind (plain_of a.built) No bytes b)
    ∙ ap (λ (x : Node). step a.built.kind (plain_of a.built) No x b) is ∙ dead)

-- what isn't the dead node is some other
some-node : (u : Node) → u ≢ None → (v : List ℕ) × (u ≡ Some v)
some-node None living = absurd (living refl)
some-node (Some v) living = (v, refl)

-- the items that end up to where a listing has come are those that were given and those that are due
items-are : (s : Scan) (bytes : List ℕ) {here : Reached} (on : IsListed s (whole_text bytes) here)
    → length (all (record (search_through s (whole_text bytes)) { high = here.at }))
    ≡ length on.given + length (due_in s.listed (search_through s (whole_text bytes)) here)
items-are s bytes {here} on =
    let q : Search = record (search_through s (whole_text bytes)) { high = here.at } in
    let due : List ℕ = due_in s.listed (search_through s (whole_text bytes)) here in
    ap length on.listing ∙ length-append on.given (map (ending q) due)
    ∙ ap (λ (n : ℕ). length on.given + n) (length-map due (ending q))

-- a listing as it stands
module _ (a : AutomatonView) {stops : Bool} {here : Reached} {bytes : List ℕ} {given : ℕ}
    (h : IsPieceListing a stops here (piece_listing a.built bytes given)) where
  abbrev s : Scan
  s = scan_of a No true

  abbrev old : PieceListing
  old = piece_listing a.built bytes given

  -- isn't dead
  pub lives : IsLiveState (a.stands No) here.state
  lives =
      let v = some-node (node s (whole_text bytes) here.at) (never-dead a h.standard _) in
      (v.0, subst (a.stands No here.state) v.1 h.listed.reaches.there)

  -- and may give what is left
  abbrev pub view-here : ℕ → ScanText
  view-here n = in_memory bytes (between 0 n)

  pub may-take : IsListed s (view-here here.at) here
  may-take = subst (λ (n : ℕ). IsListed s (view-here n) here) (sym h.at) h.listed

  module _ {found : Option Occurrence} {left : Reached}
      (takes : TakesDue (record { scan = s; span = between 0 here.at }) here found left) where
    gave : HasGivenItem s (whole_text bytes) here found left
    gave = subst (λ (n : ℕ). HasGivenItem s (view-here n) here found left) h.at (takes bytes may-take)

    -- none is left, and all were given
    pub gives-none : found ≡ None → HasGivenTaken old old
    gives-none none =
        let due = (subst (λ (r : Option Occurrence). MatchOption r
        ((due_in a.listed (search_taken old) here ≡ []) × (left ≡ here))
        (λ m. due_in a.listed (search_taken old) here ≡ m.pattern ∷ due_in a.listed (search_taken old) left)) none gave.due).0 in
        record {
          same = refl;
          all = h.given ∙ given-all s bytes (between 0 (length bytes)) h.listed due
              ∙ ap (λ (n : ℕ). length (all (record (search_taken old) { high = n }))) h.at;
        }

    pub stays-none : found ≡ None → left ≡ here
    stays-none none =
        (subst (λ (r : Option Occurrence). MatchOption r
        ((due_in a.listed (search_taken old) here ≡ []) × (left ≡ here))
        (λ m. due_in a.listed (search_taken old) here ≡ m.pattern ∷ due_in a.listed (search_taken old) left)) none gave.due).1

    -- or the next item was given
    module _ {m : Occurrence} (some : found ≡ Some m) where
      given-so : HasGivenItem s (whole_text bytes) here (Some m) left
      given-so = subst (λ (r : Option Occurrence). HasGivenItem s (whole_text bytes) here r left) some gave

      occurs-so : Occurs (record (search_taken old) { high = here.at }) m
      occurs-so =
          subst (Occurs (record (search_taken old) { high = here.at })) (sym given-so.ending)
          (due-occurs s bytes (between 0 (length bytes)) h.listed m.pattern (due_in a.listed (search_taken old) left)
          given-so.due)

      pub gives-some : {more : ℕ} → more ≡ given + 1 → GivesTaken old m (piece_listing a.built bytes more)
      gives-some {more} one_more =
          let long = occurs-so.as_long in
          record {
            next = ap (item_at (search_taken old)) h.given
                ∙ (given-item s bytes (between 0 (length bytes)) h.listed (omega arith) m left given-so).item;
            same = ap (piece_listing a.built bytes) one_more;
            numbered = occurs-so.numbered;
            ordered = omega arith;
            ends = ap (λ (m : Occurrence). m.end) given-so.ending ∙ h.at;
          }

      pub stands-some : {more : ℕ} → more ≡ given + 1 → IsPieceListing a stops left (piece_listing a.built bytes more)
      stands-some {more} one_more = record {
        standard = h.standard;
        stops = h.stops;
        at = given-so.at ∙ h.at;
        small = h.small;
        listed = given-so.leaves;
        given = one_more ∙ ap (λ (n : ℕ). n + 1) h.given
            ∙ sym (given-place s bytes (between 0 (length bytes)) h.listed m left given-so);
      }

  -- it has read on in a piece, of which it was offered the first bytes
  module _ (piece : List ℕ) (most : ℕ) (most-is : most ≡ min (length piece) (usize_max - here.at)) {there : Cursor}
      {byte : Option ℕ}
      (reads : ReadsThrough (scan_of a No stops) (take most piece) (record { state = here.state; at = 0 }) there byte) where
    abbrev offered : List ℕ
    offered = take most piece

    offered-long : length offered ≡ most
    offered-long = length-take-le most piece (omega arith)

    -- and has followed no more than these
    pub followed-few : there.at ≤ most
    followed-few = let l = offered-long in let w = reads.within (omega arith) in omega arith

    pub followed-piece : there.at ≤ length piece
    followed-piece = let f = followed-few in omega arith

    pub counted : here.at + there.at ≤ usize_max
    counted = let f = followed-few in let e = h.at in let k = h.small in omega arith

    abbrev pub these : List ℕ
    these = bytes ++ take there.at piece

    taken-long : length (take there.at piece) ≡ there.at
    taken-long = length-take-le there.at piece followed-piece

    these-long : length these ≡ here.at + there.at
    these-long = let l = length-append bytes (take there.at piece) in let t = taken-long in let e = h.at in omega arith

    on-longer : IsListed s (whole_text these) here
    on-longer = listed-beyond s bytes (take there.at piece) h.listed

    stood : (v : List ℕ) × (node s (whole_text these) here.at ≡ Some v)
    stood = some-node (node s (whole_text these) here.at) (never-dead a h.standard _)

    reads-so : ReadsThrough s offered (record { state = here.state; at = 0 }) there byte
    reads-so =
        subst (λ (t : Bool). ReadsThrough (scan_of a No t) offered (record { state = here.state; at = 0 }) there byte) h.stops
        reads

    came : Arrives s offered stood.0 (record { state = here.state; at = 0 }) there byte
    came = reads-so.comes stood.0 (subst (a.stands No here.state) stood.1 on-longer.reaches.there)

    -- these bytes stand at the end of all that was taken
    byte-there : (k : ℕ) → k < there.at → slice_index these (here.at + 0 + k) ≡ slice_index offered (0 + k)
    byte-there k before =
        ap (slice_index these) (let e = h.at in let i : here.at + 0 + k ≡ length bytes + k = omega arith in i)
        ∙ get_or-append-add bytes (take there.at piece) k 0
        ∙ get_or-take there.at piece k 0 before
        ∙ sym (get_or-take most piece k 0 (let f = followed-few in omega arith))
        ∙ ap (slice_index offered) (let i : k ≡ 0 + k = omega arith in i)

    -- so they lead to the nodes reached
    leads-to : (n : ℕ) → n ≤ there.at → led s offered (Some stood.0) 0 n ≡ node s (whole_text these) (here.at + n)
    leads-to n few =
        sym (led-moved s offered these here.at (Some stood.0) 0 n (λ k before. byte-there k (omega arith)))
        ∙ ap (λ (i : ℕ). led s these (Some stood.0) i n) (let i : here.at + 0 ≡ here.at = omega arith in i)
        ∙ ap (λ (u : Node). led s these u here.at n) (sym stood.1)
        ∙ node-led s (whole_text these) here.at (omega arith) n (let l = these-long in omega arith)

    at-node : node s (whole_text these) (here.at + there.at) ≡ Some came.node
    at-node =
        sym (leads-to there.at (omega arith))
        ∙ ap (led s offered (Some stood.0) 0) (let i : there.at ≡ there.at - 0 = omega arith in i) ∙ came.leads

    -- no byte leads to the dead node
    none-in-hand : byte ≡ None
    none-in-hand = by byte came.dead
      where
        by : (b : Option ℕ) → IfSome b (λ b. step_of a.built No (Some came.node) b ≡ None) → b ≡ None
        by None dead = refl
        by (Some b) dead = absurd (never-steps a h.standard _ came.node at-node _ dead)

    is-at : IsAt s (whole_text these) there.state (here.at + there.at)
    is-at = record {
      there = subst (a.stands No there.state) (sym at-node) came.there;
      onward = omega arith;
      inside = (let l = these-long in omega arith);
      alive = λ at low before. never-dead a h.standard _;
    }

    quiet : NoMatchBetween s (whole_text these) here.at (here.at + there.at)
    quiet k low high =
        ap (matches_of a.built No)
        (ap (node s (whole_text these)) (let i : k ≡ here.at + (k - here.at) = omega arith in i)
        ∙ sym (leads-to (k - here.at) (omega arith)))
        ∙ came.none refl (k - here.at) (omega arith) (omega arith)

    module _ (some : most ≢ 0) (all-given : given ≡ length (listed_taken old))
        (lists : (u : Node) → a.stands No there.state u → a.listed there.state ≡ matches_of a.built No u) where
      moved : 0 < there.at
      moved =
          let l = offered-long in
          reads-so.moved none-in-hand (elim (cases_lt 0 most) [
            | inl some ↦ omega arith
            | inr none ↦ absurd (some (omega arith))
          ])

      -- nothing was due where it stood
      nothing-due : due_in a.listed (search_through s (whole_text these)) here ≡ []
      nothing-due =
          let e = given-count s bytes (between 0 (length bytes)) h.listed in
          let g = h.given in
          let i = items-are s bytes h.listed in
          let items = ap (λ (n : ℕ). length (all (record (search_taken old) { high = n }))) h.at in
          nil_from_length (due_in a.listed (search_taken old) here) (omega arith)

      abbrev next : Reached
      next = record { state = there.state; at = here.at + there.at; rest = record { state = there.state; index = 0 } }

      comes-on : HasComeOn s these (between 0 (length these)) here next
      comes-on =
          let l = these-long in
          come-on s these (between 0 (length these)) h.standard (omega arith) on-longer nothing-due is-at quiet (omega arith)
          (let m = moved in omega arith) (lists _ is-at.there)

      -- so all matches of the state are due to which it has come
      pub stands-on : IsPieceListing a stops next (piece_listing a.built these given)
      stands-on = record {
        standard = h.standard;
        stops = h.stops;
        at = sym these-long;
        small = (let c = counted in let l = these-long in omega arith);
        listed = comes-on.leaves;
        given = h.given ∙ sym (given-beyond s bytes (take there.at piece) h.listed) ∙ sym comes-on.as_many;
      }

      due-there : due_in a.listed (search_taken (piece_listing a.built these given)) next ≡ a.listed there.state
      due-there =
          due-arrived s these (between 0 (length these)) is-at (lists _ is-at.there) ∙ sym (lists _ is-at.there)

      -- they are items that weren't given
      more-left : a.listed there.state ≢ [] → given < length (listed_taken (piece_listing a.built these given))
      more-left some =
          let d = ap length due-there in
          let new = piece_listing a.built these given in
          let g = stands-on.given in
          let i = items-are s these stands-on.listed in
          let e : length (all (record (search_taken new) { high = here.at + there.at })) ≡ length (listed_taken new) =
          ap (λ (n : ℕ). length (all (record (search_taken new) { high = n }))) (sym these-long) in
          let c = given-count s these (between 0 (length these)) stands-on.listed in
          elim (cases_lt 0 (length (a.listed there.state))) [
            | inl some ↦ omega arith
            | inr none ↦ absurd (some (nil_from_length (a.listed there.state) (omega arith)))
          ]

      enough-so : (drop there.at piece ≡ []) ⊎ (length these ≡ usize_max)
          ⊎ (given < length (listed_taken (piece_listing a.built these given)))
      enough-so = elim (reads-so.enough none-in-hand) [
        | inl over ↦
            let l = offered-long in let f = followed-few in let t = these-long in let e = h.at in let k = h.small in
            elim (cases_lt there.at (length piece)) [
              | inl less ↦ inr (inl (omega arith))
              | inr all ↦ inl (drop_all there.at piece (omega arith))
            ]
        | inr stopped ↦ inr (inr (more-left stopped.1))
      ]

      pub takes-on : TakesToItem old piece (piece_listing a.built these given) (drop there.at piece)
      takes-on = record {
        taken = take there.at piece;
        parted = sym (take-append-drop there.at piece);
        same = refl;
        enough = enough-so;
      }

  -- where nothing is offered nothing is taken
  pub takes-nothing : (piece : List ℕ) (most : ℕ) → most ≡ min (length piece) (usize_max - here.at) → most ≡ 0
      → TakesToItem old piece old piece
  takes-nothing piece most most-is none = record {
    taken = [];
    parted = refl;
    same = ap (λ (bs : List ℕ). piece_listing a.built bs given) (sym (append-nil bytes));
    enough = (let e = h.at in let k = h.small in elim (cases_lt 0 (length piece)) [
      | inl some ↦ inr (inl (omega arith))
      | inr empty ↦ inl (nil_from_length piece (omega arith))
    ]);
  }
