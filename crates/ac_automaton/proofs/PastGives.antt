-- What a leftmost walk gives that has read on past its matches: the pick of its node, or the next match of a chain.
use Rattle.ac_util.proofs.Prelude.{◌≡◌, ◌⊎◌, ℕ, ◌+◌, ◌-◌, ◌<◌, ◌≤◌, true, List, [], ◌∷◌, length, drop, map, slice_get, get_or, refl, ap, sym, ◌∙◌, subst, arith, Option, None, Some, option_map, inl, inr, drop_all, length-map, slice_get_cases}
use Rattle.ac_automaton.specs.Prelude.{outward, step, IsPickIn, IsSearchFor, StandsAfter, Built, from, is_leftmost, MatchKind, No, Occurrence, Occurs, pattern_of, pick, plain, Search, AutomatonView, place_of, plain_of, chain_at, ending_in, reads_on, chain_of, IsGiven, pending, ChainMatch, ChainRest, Given}
use Rattle.ac_util.proofs.Lists.{drop-slice_get}
use Rattle.ac_util.proofs.Onward.{after-dead, after-given, after-last, after-none, byte_at, dead-picks, GivesFirst, given_by, node-within}
use Rattle.ac_util.proofs.PickedWalks.{pick-some, walk-picks}
use Rattle.ac_util.proofs.Picks.{same_occurrence}
use Rattle.ac_util.proofs.Walks.{pick-Occurs}
use Rattle.ac_automaton.proofs.Heads.{plain_length}
use Rattle.ac_automaton.proofs.OnwardLists.{on-leftmost, on-some}

-- the rest of a chain of which nothing was given
pub pending-whole : (built : Built) (chains : List (List ChainMatch)) (base : ℕ) (chain : Option ℕ)
    → pending built chains (option_map (λ (number : ℕ). record { chain = number; index = 0; base = base }) chain)
    ≡ map (outward base) (map (ending_in built) (chain_of chains chain))
pending-whole built chains base None = refl
pending-whole built chains base (Some number) = refl

-- what was to be given of a chain is the match that comes next, and what is to be given after it
module _ (built : Built) (chains : List (List ChainMatch)) (rest : ChainRest) where
  abbrev pub next : ChainRest
  next = record { chain = rest.chain; index = rest.index + 1; base = rest.base }

  abbrev pub pending-first : ChainMatch → Occurrence
  pending-first found = outward rest.base (ending_in built found)

  pub pending-is : (found : ChainMatch) → slice_get (chain_at chains rest.chain) rest.index ≡ Some found
      → pending built chains (Some rest) ≡ pending-first found ∷ pending built chains (Some next)
  pending-is found there =
      ap (λ (ms : List ChainMatch). map (outward rest.base) (map (ending_in built) ms))
      (drop-slice_get (chain_at chains rest.chain) rest.index found there)

  -- or nothing where the chain has no more
  pub pending-nothing : slice_get (chain_at chains rest.chain) rest.index ≡ None → pending built chains (Some rest) ≡ []
  pending-nothing none =
      ap (λ (ms : List ChainMatch). map (outward rest.base) (map (ending_in built) ms))
      (by (slice_get_cases (chain_at chains rest.chain) rest.index).1)
    where
      by : ((x : ChainMatch) × (rest.index < length (chain_at chains rest.chain)) × (slice_get (chain_at chains rest.chain) rest.index ≡ Some x)
          × (get_or (chain_at chains rest.chain) rest.index x ≡ x))
          ⊎ ((length (chain_at chains rest.chain) ≤ rest.index) × (slice_get (chain_at chains rest.chain) rest.index ≡ None))
          → drop rest.index (chain_at chains rest.chain) ≡ []
      by (inl there) = absurd (let some = there.2 in cc)
      by (inr past) = drop_all rest.index (chain_at chains rest.chain) past.0

-- a walk for the patterns of an automaton whose walks read on
module _ (a : AutomatonView) (on : reads_on a.built ≡ true) (chains : List (List ChainMatch)) (q : Search)
    (is : IsSearchFor (plain_of a.built) q) (same : q.patterns ≡ a.built.patterns) (v : List ℕ) (at : ℕ) where
  abbrev kind : MatchKind
  kind = a.built.kind

  abbrev patterns : List (List ℕ)
  patterns = plain_of a.built

  leftmost : is_leftmost kind ≡ true
  leftmost = on-leftmost a.built on

  some : (n : ℕ) → n < length patterns → 0 < length (pattern_of patterns n)
  some = on-some a.built on

  -- what it has read of leads to the node v, and no match is known
  module _ (here : StandsAfter kind patterns q [] v at) where
    -- where nothing is picked in the node nothing is picked at the end
    pub ends-there : at ≡ q.high → IsPickIn kind patterns No v None → pick kind q ≡ None
    ends-there over none = cases (pick kind q) refl
      where
        cases : (r : Option Occurrence) → pick kind q ≡ r → r ≡ None
        cases None e = refl
        cases (Some m) e =
            absurd (let gone = after-none kind patterns leftmost some q v at is here over none in
            let begins = walk-picks kind patterns some q m is e in cc)

    -- and it can't be left by a byte that leads to the dead node
    pub never-dead : at < q.high → step kind patterns No (Some v) (byte_at q at) ≡ None → IsPickIn kind patterns No v None → ⊥
    never-dead before dead none = dead-picks kind patterns leftmost some q v at is here before dead none

    module _ (given : Given) (gives : IsGiven a chains v given) where
      abbrev m : Occurrence
      m = gives.picked

      abbrev ns : List Occurrence
      ns = map (ending_in a.built) (chain_of chains given.chain)

      abbrev base : ℕ
      base = at - given.rest

      fits : at - length v + m.end ≡ base
      fits = let r = gives.rest in let w = node-within kind patterns leftmost some q v at is here in omega arith

      as_long : m.start + length (pattern_of a.built.patterns m.pattern) ≡ m.end
      as_long = let l = gives.gives.picked.as_long in let p = plain_length a.built m.pattern in omega arith

      pub numbered : given.pattern < length a.built.patterns
      numbered =
          let n = gives.gives.picked.stands.prefixes.numbered in let l = length-map a.built.patterns (plain a.built.ignores_case) in
          let e = gives.number in omega arith

      pub has-bytes : m.start < m.end
      has-bytes = let l = gives.gives.picked.as_long in let s = some m.pattern gives.gives.picked.stands.prefixes.numbered in omega arith

      pub rest-within : given.rest ≤ at
      rest-within = let r = gives.rest in let w = node-within kind patterns leftmost some q v at is here in omega arith

      pub pattern-within : length (pattern_of a.built.patterns given.pattern) ≤ base
      pattern-within =
          let f = fits in let l = as_long in let e = ap (λ (n : ℕ). length (pattern_of a.built.patterns n)) gives.number in omega arith

      abbrev first : Occurrence
      first = place_of a.built base given.pattern

      -- it starts in the node
      pub in-node : at ≤ first.start + length v
      in-node =
          let f = fits in let l = as_long in let w = node-within kind patterns leftmost some q v at is here in
          let e = ap (λ (n : ℕ). length (pattern_of a.built.patterns n)) gives.number in omega arith

      first-is : outward (at - length v) m ≡ first
      first-is =
          let f = fits in let l = as_long in let e = ap (λ (n : ℕ). length (pattern_of a.built.patterns n)) gives.number in
          same_occurrence (outward (at - length v) m) first gives.number (omega arith) f

      -- the byte that comes leads to the dead node, or the span ends
      module _ (over : (at ≡ q.high) ⊎ ((at < q.high) × (step kind patterns No (Some v) (byte_at q at) ≡ None))) where
        stands-then : StandsAfter kind patterns q (given_by kind patterns leftmost some q v at is here m ns) gives.node at
        stands-then = elim over [
          | inl end ↦ after-last kind patterns leftmost some q v at is here end m ns gives.node gives.gives
          | inr dead ↦ after-dead kind patterns leftmost some q v at is here dead.0 dead.1 m ns gives.node gives.gives
        ]

        begins : GivesFirst kind patterns leftmost some q (outward (at - length v) m)
            (map (outward (at - length v + m.end)) ns) gives.node at
        begins =
            after-given kind patterns leftmost some q (outward (at - length v) m)
            (map (outward (at - length v + m.end)) ns) gives.node at is stands-then

        -- so it is the pick
        pub picks-first : pick kind q ≡ Some first
        picks-first = begins.picked ∙ ap (λ (o : Occurrence). Some o) first-is

        pub onward : q.low < base
        onward =
            let o = pick-Occurs kind q (outward (at - length v) m) begins.picked in let l = o.from_low in let h = has-bytes in
            let f = fits in omega arith

        -- and the walk goes on at its end, where the chain is to be given
        pub goes-on : (rest : Option ChainRest)
            → rest ≡ option_map (λ (number : ℕ). record { chain = number; index = 0; base = base }) given.chain
            → StandsAfter kind patterns (from q base) (pending a.built chains rest) gives.node at
        goes-on rest rest-is =
            subst (λ (ms : List Occurrence). StandsAfter kind patterns (from q base) ms gives.node at)
            (sym (ap (pending a.built chains) rest-is ∙ pending-whole a.built chains base given.chain))
            (subst (λ (k : ℕ). StandsAfter kind patterns (from q k) (map (outward k) ns) gives.node at) fits begins.later)

  -- it is to give the rest of a chain, of which this is the next match
  module _ (rest : ChainRest) (stands : StandsAfter kind patterns q (pending a.built chains (Some rest)) v at)
      (found : ChainMatch) (there : slice_get (chain_at chains rest.chain) rest.index ≡ Some found) where
    abbrev known : Occurrence
    known = pending-first a.built chains rest found

    abbrev later : List Occurrence
    later = pending a.built chains (Some (next a.built chains rest))

    known-first : GivesFirst kind patterns leftmost some q known later v at
    known-first =
        after-given kind patterns leftmost some q known later v at is
        (subst (λ (ms : List Occurrence). StandsAfter kind patterns q ms v at) (pending-is a.built chains rest found there) stands)

    occurs : Occurs q known
    occurs = pick-Occurs kind q known known-first.picked

    as_long-known : known.start + length (pattern_of a.built.patterns known.pattern) ≡ known.end
    as_long-known = subst (λ (ps : List (List ℕ)). known.start + length (pattern_of ps known.pattern) ≡ known.end) same occurs.as_long

    pub known-numbered : found.pattern < length a.built.patterns
    known-numbered = subst (λ (ps : List (List ℕ)). known.pattern < length ps) same occurs.numbered

    pub known-within : length (pattern_of a.built.patterns found.pattern) ≤ rest.base + found.end
    known-within = let l = as_long-known in omega arith

    pub known-high : rest.base + found.end ≤ q.high
    known-high = occurs.to_high

    -- it has bytes
    pub known-onward : q.low < rest.base + found.end
    known-onward =
        let l = occurs.from_low in let s = pick-some kind patterns some q is kind known known-first.picked in omega arith

    known-is : known ≡ place_of a.built (rest.base + found.end) found.pattern
    known-is =
        same_occurrence known (place_of a.built (rest.base + found.end) found.pattern) refl (let l = as_long-known in omega arith) refl

    -- so that is the pick
    pub picks-known : pick kind q ≡ Some (place_of a.built (rest.base + found.end) found.pattern)
    picks-known = known-first.picked ∙ ap (λ (o : Occurrence). Some o) known-is

    -- and the walk goes on at its end
    pub goes-known : StandsAfter kind patterns (from q (rest.base + found.end)) (pending a.built chains (Some (next a.built chains rest))) v at
    goes-known = known-first.later
