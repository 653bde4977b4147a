-- What a walk gives of a string whatever follows it, one byte more at a time.
use Rattle.ac_util.proofs.Prelude.{◌≡◌, ℕ, ◌+◌, ◌-◌, ◌<◌, ◌≤◌, true, List, [], ◌∷◌, ◌++◌, length, length-append, length-drop, map, drop, refl, ap, sym, ◌∙◌, arith, None, Some, rules, append-nil, append_assoc, drop-append-le, drop-drop, map-append}
use Rattle.ac_util.specs.Prelude.{from, Node, is_leftmost, last_end, matches, MatchKind, No, Occurrence, outward, pattern_of, reached, Search, step, text, walk, IsPickIn, IsSearchFor, Commits, Anything, Nothing}
use Rattle.ac_util.proofs.Advance.{pick-stays}
use Rattle.ac_util.proofs.Found.{matches-reached}
use Rattle.ac_util.proofs.Picks.{same_occurrence}
use Rattle.ac_util.proofs.Reached.{reached-nil, step-reached}
use Rattle.ac_util.proofs.Spans.{text_length}
use Rattle.ac_util.proofs.Standing.{Stands-end}
use Rattle.ac_util.proofs.NodeRests.{IsRest, pick-in_node, reached-rest}
use Rattle.ac_util.proofs.PickedWalks.{search-from, text-from, walk-dead, walk-none, walk-whole}

-- what begins with this byte
abbrev pub Next : ℕ → List ℕ → Type 0
Next b y = (rest : List ℕ) × (y ≡ b ∷ rest)

-- where the last of some matches ends, with others after them
last_end-others : (ms : List Occurrence) (m : Occurrence) (ns : List Occurrence) → last_end (ms ++ m ∷ ns) ≡ last_end (m ∷ ns)
last_end-others [] m ns = refl
last_end-others (n ∷ []) m ns = refl
last_end-others (n ∷ k ∷ ms) m ns = last_end-others (k ∷ ms) m ns

-- matches that are counted from the end of the match before them
last_end-outward : (m : Occurrence) (ns : List Occurrence)
    → last_end (m ∷ map (outward m.end) ns) ≡ m.end + last_end ns
last_end-outward m [] = omega arith
last_end-outward m (n ∷ ns) = on n ns
  where
    on : (n : Occurrence) (ns : List Occurrence) → last_end (map (outward m.end) (n ∷ ns)) ≡ m.end + last_end (n ∷ ns)
    on n [] = refl
    on n (k ∷ ns) = on k ns

-- places that are counted from one place and then from another
pub map-outward : (a b : ℕ) (ms : List Occurrence) → map (outward a) (map (outward b) ms) ≡ map (outward (a + b)) ms
map-outward a b [] = refl
map-outward a b (m ∷ ms) = search (rules, same_occurrence, map-outward a b ms)

module _ (kind : MatchKind) (patterns : List (List ℕ)) (leftmost : is_leftmost kind ≡ true)
    (some : (n : ℕ) → n < length patterns → 0 < length (pattern_of patterns n)) where
  -- nothing is given of the empty string
  pub commits-nil : Commits kind patterns [] Anything [] []
  commits-nil = record {
    gives = λ q y is reads follows. ap (λ (k : ℕ). walk kind (from q k)) (omega arith);
    within = omega arith;
    stands = reached-nil kind patterns No;
  }

  module _ (w : List ℕ) (ms : List Occurrence) (v : List ℕ) where
    -- what is given whatever follows is given where this does
    pub commits-where : (Follows : List ℕ → Type 0) → Commits kind patterns w Anything ms v
        → Commits kind patterns w Follows ms v
    commits-where Follows c = record {
      gives = λ q y is reads follows. c.gives q y is reads tt;
      within = c.within;
      stands = c.stands;
    }

    -- b leads on from the node
    pub commits-on : (b : ℕ) (u : List ℕ) → Commits kind patterns w (Next b) ms v
        → step kind patterns No (Some v) b ≡ Some u → Commits kind patterns (w ++ b ∷ []) Anything ms u
    commits-on b u c leads = record {
      gives = λ q y is reads follows. c.gives q (b ∷ y) is (reads ∙ append_assoc w (b ∷ []) y) (y, refl);
      within = (let l = length-append w (b ∷ []) in let i = c.within in omega arith);
      stands =
          ap (reached kind patterns No) (drop-append-le (last_end ms) w (b ∷ []) c.within)
          ∙ sym (step-reached kind patterns No (drop (last_end ms) w) b)
          ∙ ap (λ (n : Node). step kind patterns No n b) c.stands ∙ leads;
    }

    -- the node has a pick
    module _ (Follows : List ℕ → Type 0) (c : Commits kind patterns w Follows ms v) (m : Occurrence)
        (picked : IsPickIn kind patterns No v (Some m)) where
      -- the pick among what was read
      abbrev pub given-next : Occurrence
      given-next = outward (length w - length v) m

      -- the place of the node in what follows the matches before
      abbrev since : List ℕ
      since = drop (last_end ms) w

      pub since-is : (place : ℕ) × IsRest since v place
      since-is = reached-rest kind patterns since v c.stands

      place-is : last_end ms + since-is.0 ≡ length w - length v
      place-is =
          let d = length-drop (last_end ms) w in let i = c.within in let l = since-is.1.long in omega arith

      -- there the pick is that of the node
      since-picked : IsPickIn kind patterns No since (Some (outward since-is.0 m))
      since-picked = pick-in_node kind patterns leftmost since v since-is.0 since-is.1 c.stands (Some m) picked

      pick-within : m.end ≤ length v
      pick-within =
          let ends = Stands-end patterns No v m.pattern m.start picked.stands in let long = picked.as_long in omega arith

      -- the node is what was read from its place on
      node-is : drop (length w - length v) w ≡ v
      node-is =
          ap (λ (k : ℕ). drop k w) (sym place-is)
          ∙ sym (drop-drop since-is.0 (last_end ms) w) ∙ since-is.1.is

      -- the walk of what follows the matches before begins with it, whatever follows
      abbrev pub IsFinal : Type 0
      IsFinal = (q : Search) (y : List ℕ) → IsSearchFor patterns q → text q ≡ since ++ y → Follows y
          → walk kind q ≡ outward q.low (outward since-is.0 m) ∷ walk kind (from q (q.low + (since-is.0 + m.end)))

      -- then it is given, and what the node's rest gives
      module _ (final : IsFinal) (ns : List Occurrence) (u : List ℕ)
          (rest : Commits kind patterns (drop m.end v) Anything ns u) where
        abbrev pub given-on : List Occurrence
        given-on = ms ++ given-next ∷ map (outward given-next.end) ns

        last-is : last_end given-on ≡ given-next.end + last_end ns
        last-is = last_end-others ms given-next (map (outward given-next.end) ns) ∙ last_end-outward given-next ns

        rest-is : drop (given-next.end + last_end ns) w ≡ drop (last_end ns) (drop m.end v)
        rest-is =
            sym (drop-drop (last_end ns) given-next.end w)
            ∙ ap (drop (last_end ns)) (sym (drop-drop m.end (length w - length v) w) ∙ ap (drop m.end) node-is)

        module _ (q : Search) (y : List ℕ) (is : IsSearchFor patterns q) (reads : text q ≡ w ++ y) (follows : Follows y) where
          -- the search after the matches before, and after the pick
          abbrev second : Search
          second = from q (q.low + last_end ms)

          abbrev third : Search
          third = from second (second.low + (since-is.0 + m.end))

          long : length w + length y ≡ q.high - q.low
          long =
              let all = text_length q is.ordered is.inside in
              let parts = ap length reads ∙ length-append w y in omega arith

          second-is : IsSearchFor patterns second
          second-is =
              search-from kind patterns some q (q.low + last_end ms) is (omega arith)
              (let l = long in let i = c.within in let o = is.ordered in omega arith)

          second-reads : text second ≡ since ++ y
          second-reads =
              text-from kind patterns some q (last_end ms) (let l = long in let i = c.within in let o = is.ordered in omega arith)
              ∙ ap (drop (last_end ms)) reads ∙ drop-append-le (last_end ms) w y c.within

          third-within : second.low + (since-is.0 + m.end) ≤ q.high
          third-within =
              let l = long in let p = pick-within in let s = place-is in let o = is.ordered in
              let n = since-is.1.long in let d = length-drop (last_end ms) w in let i = c.within in omega arith

          third-reads : text third ≡ drop m.end v ++ y
          third-reads =
              text-from kind patterns some second (since-is.0 + m.end) third-within
              ∙ ap (drop (since-is.0 + m.end)) second-reads
              ∙ drop-append-le (since-is.0 + m.end) since y
              (let p = pick-within in let n = since-is.1.long in omega arith)
              ∙ ap (λ (u : List ℕ). u ++ y) (sym (drop-drop m.end since-is.0 since) ∙ ap (drop m.end) since-is.1.is)

          third-walks : walk kind third ≡ map (outward third.low) ns ++ walk kind (from third (third.low + last_end ns))
          third-walks =
              rest.gives third y
              (search-from kind patterns some second third.low second-is (omega arith) third-within) third-reads tt

          -- the matches given so far, the pick, and what follows it
          gives-on : walk kind q ≡ map (outward q.low) given-on ++ walk kind (from q (q.low + last_end given-on))
          gives-on =
              c.gives q y is reads follows
              ∙ ap (λ (os : List Occurrence). map (outward q.low) ms ++ os)
              (final second y second-is second-reads follows
              ∙ ap (λ (os : List Occurrence). outward second.low (outward since-is.0 m) ∷ os) third-walks)
              ∙ sym (append_assoc (map (outward q.low) ms)
              (outward second.low (outward since-is.0 m) ∷ map (outward third.low) ns)
              (walk kind (from third (third.low + last_end ns))))
              ∙ ap (λ (os : List Occurrence). os ++ walk kind (from third (third.low + last_end ns))) (sym all-of)
              ∙ ap (λ (k : ℕ). map (outward q.low) given-on ++ walk kind (from q k)) ends
            where
              ends : third.low + last_end ns ≡ q.low + last_end given-on
              ends = let l = last-is in let p = place-is in omega arith

              pick-is : outward q.low given-next ≡ outward second.low (outward since-is.0 m)
              pick-is =
                  same_occurrence (outward q.low given-next) (outward second.low (outward since-is.0 m)) refl
                  (let p = place-is in omega arith) (let p = place-is in omega arith)

              follow-is : map (outward q.low) (map (outward given-next.end) ns) ≡ map (outward third.low) ns
              follow-is =
                  map-outward q.low given-next.end ns
                  ∙ ap (λ (k : ℕ). map (outward k) ns) (let p = place-is in omega arith)

              all-of : map (outward q.low) given-on
                  ≡ map (outward q.low) ms ++ outward second.low (outward since-is.0 m) ∷ map (outward third.low) ns
              all-of =
                  map-append (outward q.low) ms (given-next ∷ map (outward given-next.end) ns)
                  ∙ ap (λ (os : List Occurrence). map (outward q.low) ms ++ outward q.low given-next ∷ os) follow-is
                  ∙ ap (λ (o : Occurrence). map (outward q.low) ms ++ o ∷ map (outward third.low) ns) pick-is

        pub commits-pick : Commits kind patterns w Follows given-on u
        commits-pick = record {
          gives = λ q y is reads follows. gives-on q y is reads follows;
          within =
              (let l = last-is in let p = pick-within in let i = rest.within in let d = length-drop m.end v in
              let n = since-is.1.long in let s = place-is in let e = length-drop (last_end ms) w in let j = c.within in omega arith);
          stands = ap (λ (k : ℕ). reached kind patterns No (drop k w)) last-is ∙ ap (reached kind patterns No) rest-is ∙ rest.stands;
        }

    module _ (m : Occurrence) (picked : IsPickIn kind patterns No v (Some m)) where
      -- the pick is final where a byte leads to the dead node
      module _ (b : ℕ) (c : Commits kind patterns w (Next b) ms v) (dead : step kind patterns No (Some v) b ≡ None) where
        gone : reached kind patterns No (since (Next b) c m picked ++ b ∷ []) ≡ None
        gone =
            sym (step-reached kind patterns No (since (Next b) c m picked) b)
            ∙ ap (λ (n : Node). step kind patterns No n b) c.stands ∙ dead

        -- b changes nothing about it
        stays : IsPickIn kind patterns No (since (Next b) c m picked ++ b ∷ [])
            (Some (outward (since-is (Next b) c m picked).0 m))
        stays =
            pick-stays kind patterns No (since (Next b) c m picked) b (Some (outward (since-is (Next b) c m picked).0 m))
            (sym (matches-reached kind patterns No (since (Next b) c m picked ++ b ∷ [])) ∙ ap (matches kind patterns No) gone)
            (since-picked (Next b) c m picked)

        pub final-dead : IsFinal (Next b) c m picked
        final-dead q y is reads follows =
            walk-dead kind patterns some q (since (Next b) c m picked ++ b ∷ []) follows.0 is
            (reads ∙ ap (λ (z : List ℕ). since (Next b) c m picked ++ z) follows.1
            ∙ sym (append_assoc (since (Next b) c m picked) (b ∷ []) follows.0))
            (outward (since-is (Next b) c m picked).0 m) gone stays

      -- and where nothing follows
      pub final-last : (c : Commits kind patterns w Nothing ms v) → IsFinal Nothing c m picked
      final-last c q y is reads follows =
          walk-whole kind patterns some q (since Nothing c m picked) is
          (reads ∙ ap (λ (z : List ℕ). since Nothing c m picked ++ z) follows ∙ append-nil (since Nothing c m picked))
          (outward (since-is Nothing c m picked).0 m) (since-picked Nothing c m picked)

    -- where nothing follows and the node has no pick, these are all matches
    pub commits-all : Commits kind patterns w Nothing ms v → IsPickIn kind patterns No v None
        → (q : Search) → IsSearchFor patterns q → text q ≡ w → walk kind q ≡ map (outward q.low) ms
    commits-all c none q is reads =
        c.gives q [] is (reads ∙ sym (append-nil w)) refl
        ∙ ap (λ (os : List Occurrence). map (outward q.low) ms ++ os)
        (walk-none kind patterns some (from q (q.low + last_end ms)) (drop (last_end ms) w)
        (search-from kind patterns some q (q.low + last_end ms) is (omega arith) (let l = long in omega arith))
        (text-from kind patterns some q (last_end ms) (let l = long in omega arith) ∙ ap (drop (last_end ms)) reads)
        (pick-in_node kind patterns leftmost (drop (last_end ms) w) v rest.0 rest.1 c.stands None none))
        ∙ append-nil (map (outward q.low) ms)
      where
        rest : (place : ℕ) × IsRest (drop (last_end ms) w) v place
        rest = reached-rest kind patterns (drop (last_end ms) w) v c.stands

        long : q.low + last_end ms ≤ q.high
        long =
            let all = text_length q is.ordered is.inside in let parts = ap length reads in
            let i = c.within in let o = is.ordered in omega arith
