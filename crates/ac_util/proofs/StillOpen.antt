-- A leftmost automaton that is alive: a match found by then could still change when the last byte came.
use Rattle.ac_util.proofs.Prelude.{◌≡◌, ℕ, ◌+◌, ◌-◌, ◌<◌, ◌≤◌, ◌≢◌, true, Bool, List, [], ◌∷◌, length, take, drop, inl, inr, refl, ap, sym, ◌∙◌, arith, Some, nat_eq, rules, starts_with, drop-take, take-map, drop-map, drop-drop, take-take, length-map, length-take-le, get_or-map, common_steps}
use Rattle.ac_util.specs.Prelude.{Built, CouldChange, is_leftmost, is_node, IsOpen, MatchKind, No, Occurrence, participants, participates, pattern_of, pick, plain, plain_byte, plain_patterns, reached, Search, text, without_last}
use Rattle.ac_util.proofs.Lists.{IsIn-from_filter, IsIn-from_range}
use Rattle.ac_util.proofs.Living.{node-passes, pick-beyond}
use Rattle.ac_util.proofs.NodeCount.{any_passes}
use Rattle.ac_util.proofs.NodeRests.{IsRest, reached-rest}
use Rattle.ac_util.proofs.Prefixes.{front-is, starts_with-length}

-- a pattern that takes part begins with the string
record IsFront (kind : MatchKind) (patterns : List (List ℕ)) (w : List ℕ) : Type 0 where
  number : ℕ
  numbered : number < length patterns
  takes_part : participates kind patterns number ≡ true
  front : starts_with nat_eq (pattern_of patterns number) w ≡ true

-- so it is for a node with bytes
node-front : (kind : MatchKind) (patterns : List (List ℕ)) (x : ℕ) (w : List ℕ) → is_node kind patterns (x ∷ w) ≡ true
    → IsFront kind patterns (x ∷ w)
node-front kind patterns x w node =
    let found = any_passes (λ number. starts_with nat_eq (pattern_of patterns number) (x ∷ w)) (participants kind patterns) node in
    search (rules, found, IsIn-from_filter, IsIn-from_range)

-- where a string is shown by the first bytes of one and by all of another, fewer of them show the same
cut : (b : Bool) {v : List ℕ} (n k : ℕ) → n ≤ k → (xs ys : List ℕ) → plain b (take k xs) ≡ v → plain b ys ≡ v
    → plain b (take n xs) ≡ plain b (take n ys)
cut b n k few xs ys first all =
    sym (ap (λ (zs : List ℕ). plain b zs) (take-take n k xs few)) ∙ sym (take-map (plain_byte b) n (take k xs)) ∙ ap (take n) (first ∙ sym all)
    ∙ take-map (plain_byte b) n ys

module _ (built : Built) (bytes : List ℕ) (low : ℕ) (within : low ≤ length bytes) where
  -- the search that has read all of the bytes from an offset on
  abbrev q : Search
  q = record {
    patterns = built.patterns;
    ignores_case = built.ignores_case;
    haystack = bytes;
    anchored = No;
    low = low;
    high = length bytes;
  }

  module _ (x : ℕ) (w : List ℕ) (stands : reached built.kind (plain_patterns q) No (text q) ≡ Some (x ∷ w)) where
    rest : (place : ℕ) × IsRest (text q) (x ∷ w) place
    rest = reached-rest built.kind (plain_patterns q) (text q) (x ∷ w) stands

    front : IsFront built.kind (plain_patterns q) (x ∷ w)
    front = node-front built.kind (plain_patterns q) x w (node-passes built.kind (plain_patterns q) (text q) (x ∷ w) stands)

    -- where it began
    abbrev place : ℕ
    place = low + rest.0

    pattern-plain : pattern_of (plain_patterns q) front.number ≡ plain built.ignores_case (pattern_of built.patterns front.number)
    pattern-plain =
        get_or-map (plain built.ignores_case) built.patterns front.number [] []
        (let n = front.numbered in let l = length-map built.patterns (plain built.ignores_case) in omega arith)

    long : place + length (x ∷ w) ≡ length bytes
    long = grind (arith, common_steps, rest.1.long, length-map)

    abbrev pattern : List ℕ
    pattern = pattern_of built.patterns front.number

    front-shown : plain built.ignores_case (take (length (x ∷ w)) pattern) ≡ x ∷ w
    front-shown =
        sym (take-map (plain_byte built.ignores_case) (length (x ∷ w)) pattern)
        ∙ ap (take (length (x ∷ w))) (sym pattern-plain)
        ∙ front-is (pattern_of (plain_patterns q) front.number) (x ∷ w) front.front

    bytes-shown : plain built.ignores_case (drop place bytes) ≡ x ∷ w
    bytes-shown = grind (arith, common_steps, rest.1.is, drop-map, drop-drop)

    shorter : without_last 1 bytes ≡ take (place + length w) bytes
    shorter = ap (λ (n : ℕ). take n bytes) (let l = long in omega arith)

    -- all but the last byte of both
    fewer : plain built.ignores_case (take (length w) pattern) ≡ plain built.ignores_case (take (length w) (drop place bytes))
    fewer = cut built.ignores_case (length w) (length (x ∷ w)) (omega arith) pattern (drop place bytes) front-shown bytes-shown

    -- without its last byte it was open
    opens : length w ≢ 0 → IsOpen built (without_last 1 bytes) place
    opens some = record {
      inside = grind (arith, common_steps, long);
      number = front.number;
      numbered = (let n = front.numbered in let l = length-map built.patterns (plain built.ignores_case) in omega arith);
      takes_part = front.takes_part;
      longer = grind (arith, common_steps, long, pattern-plain, length-map, starts_with-length (pattern_of (plain_patterns q) front.number) (x ∷ w) front.front);
      begins =
          ap (λ (n : ℕ). plain built.ignores_case (take n pattern))
          (let l = long in let t = length-take-le (length bytes - 1) bytes (omega arith) in let e : length (without_last 1 bytes) - place ≡ length w = omega arith in e)
          ∙ fewer
          ∙ ap (plain built.ignores_case) (sym (ap (drop place) shorter ∙ drop-take place (length w) bytes));
    }

  -- so a match that was found could change
  pub could-change : is_leftmost built.kind ≡ true → (u : List ℕ) → reached built.kind (plain_patterns q) No (text q) ≡ Some u
      → (m : Occurrence) → pick built.kind q ≡ Some m → m.start < length bytes → CouldChange built bytes low m
  could-change leftmost u stands m is some =
      by u stands (pick-beyond built.kind q refl within (omega arith) leftmost u stands built.kind m is)
    where
      by : (u : List ℕ) → reached built.kind (plain_patterns q) No (text q) ≡ Some u → length bytes ≤ m.start + length u
          → CouldChange built bytes low m
      by [] stands beyond = absurd (omega arith)
      by (x ∷ []) stands beyond = inl (omega arith)
      by (x ∷ y ∷ w) stands beyond =
          inr (
            place x (y ∷ w) stands,
            omega arith,
            (let l = long x (y ∷ w) stands in omega arith),
            opens x (y ∷ w) stands (λ no. absurd (cc)),
          )
