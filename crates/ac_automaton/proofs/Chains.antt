-- Chains of matches, each of which is one before it and a match more.
use Rattle.ac_util.proofs.Prelude.{◌≡◌, ℕ, take, ◌+◌, ◌-◌, ◌<◌, ◌≤◌, ◌⊎◌, inl, inr, List, [], ◌∷◌, ◌++◌, length, length-append, map, get_or, refl, ap, sym, ◌∙◌, subst, arith, Some, slice_get, slice_index_or, get_or-append_seam, append-nil, append_assoc, get_or_append_left, map-append, take_more, get_or_from_slice_get, slice_get_read, slice_get_within, slice_get-get_or}
use Rattle.ac_automaton.specs.Prelude.{ChainMatch, Link, AreLinks, chain_at, chains_after, chains_of, GrowsBy, HasChains, IsFront, IsLink, linked_match, shifted}
use Rattle.ac_automaton.proofs.Places.{get-added, get-added_cases, get-append}

-- one link more at the end makes one chain more
pub chains-more : (chains : List (List ChainMatch)) (links : List Link) (link : Link)
    → chains_after chains (links ++ link ∷ [])
    ≡ chains_after chains links ++ (chain_at (chains_after chains links) link.before ++ linked_match link ∷ []) ∷ []
unfolding chains_after
chains-more chains [] link = refl
chains-more chains (l ∷ links) link =
    chains-more (chains ++ (chain_at chains l.before ++ linked_match l ∷ []) ∷ []) links link

-- of no links there is the empty chain alone
pub no-chains : chains_of [] ≡ [] ∷ []
unfolding chains_after
no-chains = refl

pub no-links : AreLinks []
no-links = record { many = ap length no-chains; each = λ place link at. absurd (cc) }

-- chains stay as more come
pub chain-kept : (chains more : List (List ChainMatch)) (number : ℕ) → number < length chains
    → chain_at (chains ++ more) number ≡ chain_at chains number
chain-kept chains more number within = get_or_append_left chains more [] number within

-- the first stays empty
first-kept : (chains : List (List ChainMatch)) (links : List Link) → 0 < length chains
    → chain_at (chains_after chains links) 0 ≡ chain_at chains 0
unfolding chains_after
first-kept chains [] some = refl
first-kept chains (l ∷ links) some =
    first-kept (chains ++ (chain_at chains l.before ++ linked_match l ∷ []) ∷ []) links
    (let long = length-append chains ((chain_at chains l.before ++ linked_match l ∷ []) ∷ []) in omega arith)
    ∙ chain-kept chains ((chain_at chains l.before ++ linked_match l ∷ []) ∷ []) 0 some

pub chain-none : {chains : List (List ChainMatch)} (links : List Link) → chains_of links ≡ chains → chain_at chains 0 ≡ []
chain-none links are =
    subst (λ (chains : List (List ChainMatch)). chain_at chains 0 ≡ []) are (first-kept ([] ∷ []) links (omega arith))

-- the front of a front is one too
pub front-front : {first second third : List ChainMatch} → IsFront first second → IsFront second third → IsFront first third
front-front {first = first} one two = record {
  rest = one.rest ++ two.rest;
  whole = two.whole ∙ ap (λ (c : List ChainMatch). c ++ two.rest) one.whole ∙ append_assoc first one.rest two.rest;
}

pub front-same : (chain : List ChainMatch) → IsFront chain chain
front-same chain = record { rest = []; whole = sym (append-nil chain) }

-- a link stays one as more chains come
link-kept : (chains more : List (List ChainMatch)) (place : ℕ) (link : Link) → place + 1 < length chains
    → IsLink chains place link → IsLink (chains ++ more) place link
link-kept chains more place link within is =
    let same = chain-kept chains more (place + 1) within in
    record {
      before = is.before;
      jump = is.jump;
      grows = same ∙ is.grows ∙ ap (λ (c : List ChainMatch). c ++ linked_match link ∷ [])
          (sym (chain-kept chains more link.before (let b = is.before in omega arith)));
      count = is.count ∙ ap length (sym same);
      few = is.few;
      skips = record {
        rest = is.skips.rest;
        whole = same ∙ is.skips.whole ∙ ap (λ (c : List ChainMatch). c ++ is.skips.rest)
            (sym (chain-kept chains more link.jump (let j = is.jump in omega arith)));
      };
    }

-- a link is added after a chain
pub record IsAdded (chains : List (List ChainMatch)) (link : Link) : Type 0 where
  pub before : link.before < length chains
  pub jump : link.jump ≤ link.before
  pub count : link.count ≡ length (chain_at chains link.before) + 1
  pub few : link.count ≤ link.before + 1
  pub front : IsFront (chain_at chains link.jump) (chain_at chains link.before)

module _ (links : List Link) (are : AreLinks links) (link : Link) (added : IsAdded (chains_of links) link) where
  abbrev old : List (List ChainMatch)
  old = chains_of links

  abbrev longer : List ChainMatch
  longer = chain_at old link.before ++ linked_match link ∷ []

  abbrev new : List (List ChainMatch)
  new = old ++ longer ∷ []

  new-chain : chain_at new (length links + 1) ≡ longer
  new-chain = subst (λ (n : ℕ). chain_at new n ≡ longer) are.many (get_or-append_seam old longer [] [])

  new-link : IsLink new (length links) link
  new-link =
      let same = chain-kept old (longer ∷ []) link.before added.before in
      let many = are.many in
      record {
        before = (let b = added.before in omega arith);
        jump = (let b = added.before in let j = added.jump in omega arith);
        grows = new-chain ∙ ap (λ (c : List ChainMatch). c ++ linked_match link ∷ []) (sym same);
        count = added.count ∙ sym (ap length new-chain ∙ length-append (chain_at old link.before) (linked_match link ∷ []));
        few = (let b = added.before in let f = added.few in omega arith);
        skips = record {
          rest = added.front.rest ++ linked_match link ∷ [];
          whole =
              new-chain ∙ ap (λ (c : List ChainMatch). c ++ linked_match link ∷ []) added.front.whole
              ∙ append_assoc (chain_at old link.jump) added.front.rest (linked_match link ∷ [])
              ∙ ap (λ (c : List ChainMatch). c ++ (added.front.rest ++ linked_match link ∷ []))
              (sym (chain-kept old (longer ∷ []) link.jump (let b = added.before in let j = added.jump in omega arith)));
        };
      }

  -- then all are links
  pub links-added : AreLinks (links ++ link ∷ [])
  links-added = record {
    many =
        ap length (chains-more ([] ∷ []) links link) ∙ length-append old (longer ∷ [])
        ∙ ap (λ (n : ℕ). n + 1) are.many ∙ sym (ap (λ (n : ℕ). n + 1) (length-append links (link ∷ [])));
    each = λ place l at.
        subst (λ (chains : List (List ChainMatch)). IsLink chains place l) (sym (chains-more ([] ∷ []) links link))
        (by place l (get-added_cases links link l place at));
  }
    where
      by : (place : ℕ) (l : Link) → (slice_get links place ≡ Some l) ⊎ ((place ≡ length links) × (link ≡ l)) → IsLink new place l
      by place l (inl there) =
          link-kept old (longer ∷ []) place l
          (let within = slice_get_within links place l there in let many = are.many in omega arith) (are.each place l there)
      by place l (inr last) =
          subst (λ (k : ℕ). IsLink new k l) (sym last.0) (subst (IsLink new (length links)) last.1 new-link)

  -- and the chain before has grown by the match
  pub chain-added : GrowsBy old link.before (linked_match link ∷ []) (chains_of (links ++ link ∷ [])) (length links + 1)
  chain-added = record {
    kept = record { added = longer ∷ []; whole = chains-more ([] ∷ []) links link };
    chained =
        (let long = ap length (chains-more ([] ∷ []) links link) ∙ length-append old (longer ∷ []) in
        let many = are.many in omega arith);
    grown = ap (λ (cs : List (List ChainMatch)). chain_at cs (length links + 1)) (chains-more ([] ∷ []) links link) ∙ new-chain;
  }

-- the last link of a chain
pub record IsLast (chains : List (List ChainMatch)) (chain : ℕ) (link : Link) : Type 0 where
  pub before : link.before < chain
  pub jump : link.jump < chain
  pub chained : chain < length chains
  pub grows : chain_at chains chain ≡ chain_at chains link.before ++ linked_match link ∷ []
  pub count : link.count ≡ length (chain_at chains chain)
  pub few : link.count ≤ chain
  pub skips : IsFront (chain_at chains link.jump) (chain_at chains chain)

-- is the one that was read at its place
link-last : (links : List Link) (chain : ℕ) (link : Link) → AreLinks links → (chain ≡ 0 → ⊥)
    → chain < length (chains_of links) → link ≡ slice_index_or links (chain - 1) link → IsLast (chains_of links) chain link
link-last links chain link are some within is =
    let many = are.many in
    let there : chain - 1 < length links = omega (arith, some) in
    let at = are.each (chain - 1) link (slice_get_read links (length links) (chain - 1) link refl there is) in
    let number : chain - 1 + 1 ≡ chain = omega (arith, some) in
    record {
      before = (let b = at.before in omega (arith, some));
      jump = (let j = at.jump in omega (arith, some));
      chained = within;
      grows = subst (λ (n : ℕ). chain_at (chains_of links) n ≡ chain_at (chains_of links) link.before ++ linked_match link ∷ []) number at.grows;
      count = subst (λ (n : ℕ). link.count ≡ length (chain_at (chains_of links) n)) number at.count;
      few = (let f = at.few in omega arith);
      skips = subst (λ (n : ℕ). IsFront (chain_at (chains_of links) link.jump) (chain_at (chains_of links) n)) number at.skips;
    }

pub link-read : {chains : List (List ChainMatch)} {links : List Link} {chain : ℕ} {link : Link} → AreLinks links
    → chains_of links ≡ chains → (chain ≡ 0 → ⊥) → chain < length chains → link ≡ slice_index_or links (chain - 1) link
    → IsLast chains chain link
link-read {links = links} {chain = chain} {link = link} are same some within is =
    subst (λ (chains : List (List ChainMatch)). IsLast chains chain link) same
    (link-last links chain link are some (subst (λ (chains : List (List ChainMatch)). chain < length chains) (sym same) within) is)

-- a match of a front is that of the whole
pub get-front : (front all : List ChainMatch) (index : ℕ) → IsFront front all → index < length front
    → slice_get all index ≡ slice_get front index
get-front front all index is within =
    ap (λ (c : List ChainMatch). slice_get c index) is.whole
    ∙ get-append front is.rest index (get_or front index no_match) (slice_get-get_or front index no_match within)
    ∙ sym (slice_get-get_or front index no_match within)
  where
    no_match : ChainMatch
    no_match = record { pattern = 0; end = 0 }

-- the last match of a chain
pub get-last : {chains : List (List ChainMatch)} {chain : ℕ} {link : Link} → IsLast chains chain link
    → slice_get (chain_at chains chain) (link.count - 1) ≡ Some (linked_match link)
get-last {chains = chains} {chain = chain} {link = link} last =
    subst (λ (n : ℕ). slice_get (chain_at chains chain) n ≡ Some (linked_match link))
    (sym (let c = last.count ∙ ap length last.grows ∙ length-append (chain_at chains link.before) (linked_match link ∷ []) in omega arith))
    (ap (λ (c : List ChainMatch). slice_get c (length (chain_at chains link.before))) last.grows
    ∙ get-added (chain_at chains link.before) (linked_match link))

-- chains that became more once and once again
pub has-more : {first second third : List (List ChainMatch)} → HasChains first second → HasChains second third
    → HasChains first third
has-more {first = first} one two = record {
  added = one.added ++ two.added;
  whole = two.whole ∙ ap (λ (cs : List (List ChainMatch)). cs ++ two.added) one.whole ∙ append_assoc first one.added two.added;
}

pub has-same : (chains : List (List ChainMatch)) → HasChains chains chains
has-same chains = record { added = []; whole = sym (append-nil chains) }

-- a chain stays as they do
pub chain-same : {old new : List (List ChainMatch)} → HasChains old new → (number : ℕ) → number < length old
    → chain_at new number ≡ chain_at old number
chain-same {old = old} more number within =
    ap (λ (cs : List (List ChainMatch)). chain_at cs number) more.whole ∙ chain-kept old more.added number within

pub chains-longer : {old new : List (List ChainMatch)} → HasChains old new → length old ≤ length new
chains-longer {old = old} more = let long = ap length more.whole ∙ length-append old more.added in omega arith

-- a chain that has grown and grows again
pub grows-none : (chains : List (List ChainMatch)) (before : ℕ) → before < length chains → GrowsBy chains before [] chains before
grows-none chains before within =
    record { kept = has-same chains; chained = within; grown = sym (append-nil (chain_at chains before)) }

pub grows-more : {first second third : List (List ChainMatch)} {before between number : ℕ} {ms ns : List ChainMatch}
    → GrowsBy first before ms second between → GrowsBy second between ns third number
    → GrowsBy first before (ms ++ ns) third number
grows-more {first = first} {before = before} {ms = ms} {ns = ns} one two = record {
  kept = has-more one.kept two.kept;
  chained = two.chained;
  grown =
      two.grown ∙ ap (λ (c : List ChainMatch). c ++ ns) one.grown ∙ append_assoc (chain_at first before) ms ns;
}

-- the matches of a chain come one after another
pub take-shifted : (offset index : ℕ) (chain : List ChainMatch) (m : ChainMatch) → slice_get chain index ≡ Some m
    → map (shifted offset) (take (index + 1) chain) ≡ map (shifted offset) (take index chain) ++ shifted offset m ∷ []
take-shifted offset index chain m at =
    ap (map (shifted offset))
    (take_more chain index m (slice_get_within chain index m at)
    ∙ ap (λ (n : ChainMatch). take index chain ++ n ∷ []) (get_or_from_slice_get chain index m m at))
    ∙ map-append (shifted offset) (take index chain) (m ∷ [])
