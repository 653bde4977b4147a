-- A walk that reads on, past the matches that it is about to give: it gives them, and finds the next ones.
use Rattle.ac_util.proofs.Prelude.{◌≡◌, ℕ, subst, ◌+◌, ◌-◌, ◌<◌, ◌≤◌, true, List, [], ◌∷◌, ◌++◌, length, slice_range, slice_index, drop, map, refl, ap, sym, ◌∙◌, arith, Option, None, Some, append_assoc, append-nil, take-append-drop}
use Rattle.ac_util.specs.Prelude.{from, is_leftmost, last_end, matches, MatchKind, No, Node, Occurrence, outward, pattern_of, pick, plain, plain_byte, reached, Search, step, text, walk, IsPickIn, IsSearchFor, Commits, Anything, Nothing, NodeCommits, end_after, StandsAfter}
use Rattle.ac_util.proofs.Advance.{pick-stays}
use Rattle.ac_util.proofs.Commits.{commits-all, commits-pick, final-dead, final-last, IsFinal, map-outward, Next}
use Rattle.ac_util.proofs.Found.{matches-reached}
use Rattle.ac_util.proofs.Living.{dead-begins}
use Rattle.ac_util.proofs.NodeRests.{pick-in_node, reached-rest}
use Rattle.ac_util.proofs.OneLonger.{text-empty}
use Rattle.ac_util.proofs.Participants.{leader}
use Rattle.ac_util.proofs.PickedWalks.{text-from, walk-ends, walk-picks}
use Rattle.ac_util.proofs.Picks.{same_occurrence}
use Rattle.ac_util.proofs.Reached.{reached-nil, step-reached}
use Rattle.ac_util.proofs.Spans.{part, text_length, text_longer}
use Rattle.ac_util.proofs.Walks.{pick-Occurs}

-- where matches end that are counted from the place that they follow
end_after-outward : (low : ℕ) (ms : List Occurrence) → end_after low (map (outward low) ms) ≡ low + last_end ms
end_after-outward low [] = omega arith
end_after-outward low (m ∷ []) = refl
end_after-outward low (m ∷ n ∷ ms) = end_after-outward low (n ∷ ms)

-- the byte of a search at an offset
abbrev pub byte_at : Search → ℕ → ℕ
byte_at q at = plain_byte q.ignores_case (slice_index q.haystack at)

-- the text of a search as far as an offset, and what comes after that
parts : (q : Search) (at : ℕ) → q.low ≤ at → at ≤ q.high → q.high ≤ length q.haystack
    → text q ≡ text (record q { high = at }) ++ drop (at - q.low) (text q)
parts q at low up inside =
    sym (take-append-drop (at - q.low) (text q))
    ∙ ap (λ (w : List ℕ). w ++ drop (at - q.low) (text q))
    (part q (omega arith) inside 0 (at - q.low) (omega arith)
    ∙ ap (λ (k : ℕ). plain q.ignores_case (slice_range q.haystack k (k + (at - q.low)))) zero-more
    ∙ ap (λ (k : ℕ). plain q.ignores_case (slice_range q.haystack q.low k)) up-to)
  where
    zero-more : q.low + 0 ≡ q.low
    zero-more = omega arith

    up-to : q.low + (at - q.low) ≡ at
    up-to = omega arith

-- the byte there comes first of that
parts-next : (q : Search) (at : ℕ) → q.low ≤ at → at < q.high → q.high ≤ length q.haystack
    → text q ≡ text (record q { high = at }) ++ byte_at q at ∷ drop (at + 1 - q.low) (text q)
parts-next q at low before inside =
    parts q (at + 1) (omega arith) (omega arith) inside
    ∙ ap (λ (w : List ℕ). w ++ drop (at + 1 - q.low) (text q)) (text_longer (record q { high = at }) low (omega arith))
    ∙ append_assoc (text (record q { high = at })) (byte_at q at ∷ []) (drop (at + 1 - q.low) (text q))

module _ (kind : MatchKind) (patterns : List (List ℕ)) where
  -- a walk that begins has read nothing
  pub after-start : (q : Search) → IsSearchFor patterns q → StandsAfter kind patterns q [] [] q.low
  after-start q is = record {
    gives = refl;
    within = omega arith;
    inside = is.ordered;
    stands = ap (reached kind patterns No) (text-empty (record q { high = q.low }) refl) ∙ reached-nil kind patterns No;
  }

  -- where a byte leads that is read
  pub step-byte : (q : Search) → q.low ≤ q.high → q.high < length q.haystack
      → step kind patterns No (reached kind patterns No (text q)) (byte_at q q.high)
      ≡ reached kind patterns No (text (record q { high = q.high + 1 }))
  step-byte q ordered room =
      step-reached kind patterns No (text q) (byte_at q q.high) ∙ ap (reached kind patterns No) (sym (text_longer q ordered room))

  -- a byte that leads on leads to where it has read that too
  pub after-byte : (q : Search) (ms : List Occurrence) (v u : List ℕ) (at : ℕ) → IsSearchFor patterns q
      → StandsAfter kind patterns q ms v at → at < q.high → step kind patterns No (Some v) (byte_at q at) ≡ Some u
      → StandsAfter kind patterns q ms u (at + 1)
  after-byte q ms v u at is s before leads = record {
    gives = s.gives;
    within = (let w = s.within in omega arith);
    inside = omega arith;
    stands =
        sym (step-byte (record q { low = end_after q.low ms; high = at }) s.within (let i = is.inside in omega arith))
        ∙ ap (λ (n : Node). step kind patterns No n (byte_at q at)) s.stands ∙ leads;
  }

module _ (kind : MatchKind) (patterns : List (List ℕ)) (leftmost : is_leftmost kind ≡ true)
    (some : (n : ℕ) → n < length patterns → 0 < length (pattern_of patterns n)) where
  -- the first of the matches is the pick, and the walk goes on with the others
  pub record GivesFirst (q : Search) (m : Occurrence) (ms : List Occurrence) (v : List ℕ) (at : ℕ) : Type 0 where
    pub picked : pick kind q ≡ Some m
    pub later : StandsAfter kind patterns (from q m.end) ms v at

  pub after-given : (q : Search) (m : Occurrence) (ms : List Occurrence) (v : List ℕ) (at : ℕ) → IsSearchFor patterns q
      → StandsAfter kind patterns q (m ∷ ms) v at → GivesFirst q m ms v at
  after-given q m ms v at is s = by (pick kind q) refl
    where
      by : (r : Option Occurrence) → pick kind q ≡ r → GivesFirst q m ms v at
      by None e = absurd (let none = walk-ends kind patterns some q is e in let gives = s.gives in cc)
      by (Some n) e =
          let both = sym (walk-picks kind patterns some q n is e) ∙ s.gives in
          let same : n ≡ m = cc in
          let rest : walk kind (from q n.end) ≡ ms ++ walk kind (from q (end_after m.end ms)) = cc in
          record {
            picked = e ∙ ap (λ (o : Occurrence). Some o) same;
            later = record {
              gives = ap (λ (o : Occurrence). walk kind (from q o.end)) (sym same) ∙ rest;
              within = s.within;
              inside = s.inside;
              stands = s.stands;
            };
          }

  -- these matches end no earlier than the walk begins
  pub after-low : (q : Search) (ms : List Occurrence) (v : List ℕ) (at : ℕ) → IsSearchFor patterns q
      → StandsAfter kind patterns q ms v at → q.low ≤ end_after q.low ms
  after-low q [] v at is s = omega arith
  after-low q (m ∷ ms) v at is s =
      let first = after-given q m ms v at is s in
      let o = pick-Occurs kind q m first.picked in
      let low = o.from_low in let long = o.as_long in let high = o.to_high in
      let rest = after-low (from q m.end) ms v at (record { free = is.free; ordered = high; inside = is.inside; same = is.same }) first.later in
      omega arith

  module _ (q : Search) (v : List ℕ) (at : ℕ) (is : IsSearchFor patterns q) (s : StandsAfter kind patterns q [] v at) where
    -- what was read since the match before
    abbrev read : List ℕ
    read = text (record q { high = at })

    read-long : length read ≡ at - q.low
    read-long = text_length (record q { high = at }) s.within (let i = is.inside in let u = s.inside in omega arith)

    -- the node is a suffix of it
    pub node-within : q.low + length v ≤ at
    node-within =
        let rest = reached-rest kind patterns read v s.stands in let long = rest.1.long in let l = read-long in
        let w = s.within in omega arith

    -- it gives nothing yet
    gives-none : (Follows : List ℕ → Type 0) → Commits kind patterns read Follows [] v
    gives-none Follows = record {
      gives = λ p y is reads follows. ap (λ (k : ℕ). walk kind (from p k)) (omega arith);
      within = omega arith;
      stands = s.stands;
    }

    module _ (Follows : List ℕ → Type 0) (y : List ℕ) (reads : text q ≡ read ++ y) (follows : Follows y) where
      -- what then is given
      after-commits : (ms : List Occurrence) (u : List ℕ) → Commits kind patterns read Follows ms u
          → StandsAfter kind patterns q (map (outward q.low) ms) u at
      after-commits ms u c = record {
        gives =
            c.gives q y is reads follows
            ∙ ap (λ (k : ℕ). map (outward q.low) ms ++ walk kind (from q k)) (sym (end_after-outward q.low ms));
        within = (let e = end_after-outward q.low ms in let l = read-long in let w = c.within in let o = s.within in omega arith);
        inside = s.inside;
        stands =
            ap (λ (k : ℕ). reached kind patterns No (text (record q { low = k; high = at }))) (end_after-outward q.low ms)
            ∙ ap (reached kind patterns No)
            (text-from kind patterns some (record q { high = at }) (last_end ms)
            (let l = read-long in let w = c.within in let o = s.within in omega arith))
            ∙ c.stands;
      }

      -- the pick of the node is given, and what comes with it, where that is final
      module _ (m : Occurrence) (ns : List Occurrence) (u : List ℕ) (commit : NodeCommits kind patterns v Anything m ns u)
          (final : IsFinal kind patterns leftmost some read [] v Follows (gives-none Follows) m commit.picked) where
        abbrev first : Occurrence
        first = outward (at - length v) m

        abbrev given : List Occurrence
        given = first ∷ map (outward first.end) ns

        given-is : map (outward q.low)
            (outward (length read - length v) m ∷ map (outward (length read - length v + m.end)) ns) ≡ given
        given-is =
            ap (λ (o : Occurrence). o ∷ map (outward q.low) (map (outward (length read - length v + m.end)) ns))
            (same_occurrence (outward q.low (outward (length read - length v) m)) first refl (places m.start) (places m.end))
            ∙ ap (λ (os : List Occurrence). first ∷ os)
            (map-outward q.low (length read - length v + m.end) ns
            ∙ ap (λ (k : ℕ). map (outward k) ns) (places m.end))
          where
            places : (k : ℕ) → q.low + (length read - length v + k) ≡ at - length v + k
            places k = let l = read-long in let n = node-within in let w = s.within in omega arith

        after-final : StandsAfter kind patterns q given u at
        after-final =
            subst (λ (os : List Occurrence). StandsAfter kind patterns q os u at) given-is
            (after-commits (outward (length read - length v) m ∷ map (outward (length read - length v + m.end)) ns) u
            (commits-pick kind patterns leftmost some read [] v Follows (gives-none Follows) m commit.picked final ns u commit.rest))

    -- the matches that come with the node's pick
    abbrev pub given_by : Occurrence → List Occurrence → List Occurrence
    given_by m ns = outward (at - length v) m ∷ map (outward (at - length v + m.end)) ns

    -- where the byte that comes leads to the dead node
    pub after-dead : at < q.high → step kind patterns No (Some v) (byte_at q at) ≡ None → (m : Occurrence)
        (ns : List Occurrence) (u : List ℕ) → NodeCommits kind patterns v Anything m ns u
        → StandsAfter kind patterns q (given_by m ns) u at
    after-dead before dead m ns u commit =
        after-final (Next (byte_at q at)) (byte_at q at ∷ drop (at + 1 - q.low) (text q))
        (parts-next q at s.within before is.inside) (drop (at + 1 - q.low) (text q), refl) m ns u commit
        (final-dead kind patterns leftmost some read [] v m commit.picked (byte_at q at) (gives-none (Next (byte_at q at))) dead)

    -- there the node has a pick
    pub dead-picks : at < q.high → step kind patterns No (Some v) (byte_at q at) ≡ None → IsPickIn kind patterns No v None → ⊥
    dead-picks before dead none =
        let gone : reached kind patterns No (read ++ byte_at q at ∷ []) ≡ None =
        sym (step-reached kind patterns No read (byte_at q at))
        ∙ ap (λ (n : Node). step kind patterns No n (byte_at q at)) s.stands ∙ dead in
        let nothing = sym (matches-reached kind patterns No (read ++ byte_at q at ∷ [])) ∙ ap (matches kind patterns No) gone in
        let rest = reached-rest kind patterns read v s.stands in
        let still = pick-stays kind patterns No read (byte_at q at) None nothing
        (pick-in_node kind patterns leftmost read v rest.0 rest.1 s.stands None none) in
        let begun = dead-begins kind patterns (read ++ byte_at q at ∷ []) gone in
        let first = leader patterns (drop begun.place (read ++ byte_at q at ∷ [])) begun.begins in
        still first.0 begun.place (record { within = begun.within; prefixes = first.1.prefixes; at_front = λ e. absurd (cc) })

    -- where the span ends
    module _ (over : at ≡ q.high) where
      read-all : text q ≡ read
      read-all = ap (λ (h : ℕ). text (record q { high = h })) (sym over)

      pub after-last : (m : Occurrence) (ns : List Occurrence) (u : List ℕ) → NodeCommits kind patterns v Anything m ns u
          → StandsAfter kind patterns q (given_by m ns) u at
      after-last m ns u commit =
          after-final Nothing [] (read-all ∙ sym (append-nil read)) refl m ns u commit
          (final-last kind patterns leftmost some read [] v m commit.picked (gives-none Nothing))

      -- without a pick of the node the walk has ended
      pub after-none : IsPickIn kind patterns No v None → walk kind q ≡ []
      after-none none = commits-all kind patterns leftmost some read [] v (gives-none Nothing) none q is read-all
