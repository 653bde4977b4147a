-- Listing the matches of a state that count, one after another.
use Rattle.ac_util.proofs.Prelude.{◌≡◌, ℕ, ◌-◌, ◌<◌, Bool, true, cond, List, [], ◌∷◌, ◌++◌, length, ap, subst, ◌∙◌, arith, All, rules, take_while, append_assoc, All-tail, common_steps}
use Rattle.ac_engines.specs.Prelude.{depth, No, Node, pattern_of, MatchRest, is_due, IsState, IsTrieState, listed_within, matches_of, rest_in, stands-lists, Trie}
use Rattle.std.proofs.lemmas.List.Sums.{take_while-cons}
use Rattle.ac_util.specs.declared.search.Anchored.{Anchored}
use Rattle.ac_automaton.proofs.Due.{counts, listed-due, listed-numbered}

module _ (trie : Trie) where
  -- the matches in a rest of a state's match list
  abbrev pub rest_of : MatchRest → List ℕ
  rest_of rest = rest_in (λ s. listed_within trie.order trie.states s s) rest

  -- a match list can be read on from a rest of it: its state stands for a node, and what it lists are patterns
  pub record MayRead (rest : MatchRest) : Type 0 where
    pub state : IsState (IsTrieState trie) rest.state
    pub numbered : All (λ n. n < length trie.built.patterns) (rest_of rest)

  -- the first match in a rest is a pattern, and the rest after it can be read on
  pub record HasFirst (pattern : ℕ) (after : MatchRest) : Type 0 where
    pub numbered : pattern < length trie.built.patterns
    pub may : MayRead after

  pub has-first : (rest after : MatchRest) (pattern : ℕ) → MayRead rest → rest_of rest ≡ pattern ∷ rest_of after
      → (MayRead rest → IsState (IsTrieState trie) after.state) → HasFirst pattern after
  has-first rest after pattern may taken state =
      let all = subst (All (λ n. n < length trie.built.patterns)) taken may.numbered in
      record {
        numbered = all 0 pattern (omega arith);
        may = record {
          state = state may;
          numbered = All-tail (λ n. n < length trie.built.patterns) pattern (rest_of after) all;
        };
      }

  -- what was listed, and those in front of the rest that count, are the matches of the node
  abbrev pub HasListed : Anchored → ℕ → Node → List ℕ → MatchRest → Type 0
  HasListed anchored deep u now rest =
      now ++ take_while (counts trie.built anchored deep) (rest_of rest) ≡ matches_of trie.built anchored u

  module _ (s : ℕ) (u : Node) (h : IsTrieState trie s u) where
    -- all of a state's list can be read
    pub may-begin : MayRead (record { state = s; index = 0 })
    may-begin =
        grind (arith, common_steps, listed-numbered trie.built (rest_of (record { state = s; index = 0 })) 0 0 No u (stands-lists trie No s u h))

    -- nothing was listed at first
    pub none-listed : (anchored : Anchored) → HasListed anchored (depth u) u [] (record { state = s; index = 0 })
    none-listed anchored =
        ap (λ (n : ℕ). take_while (counts trie.built anchored n) (rest_of (record { state = s; index = 0 })))
        (let e : depth u ≡ depth u - 0 = omega arith in e)
        ∙ listed-due trie.built (rest_of (record { state = s; index = 0 })) 0 (depth u) anchored u
        (stands-lists trie anchored s u h)
        (record { ordered = omega arith; short = omega arith; whole = λ is some. omega arith })

  module _ (anchored : Anchored) (deep : ℕ) (u : Node) (now : List ℕ) (rest : MatchRest)
      (h : HasListed anchored deep u now rest) where
    module _ (pattern : ℕ) (after : MatchRest) (taken : rest_of rest ≡ pattern ∷ rest_of after) where
      -- what counts of the rest, where it is known whether its first match does
      front : (t : Bool) → counts trie.built anchored deep pattern ≡ t
          → now ++ cond t (pattern ∷ take_while (counts trie.built anchored deep) (rest_of after)) []
          ≡ matches_of trie.built anchored u
      front t counted = search (rules, take_while-cons (counts trie.built anchored deep) pattern (rest_of after))

      -- one that counts is listed
      pub one-more : is_due anchored (length (pattern_of trie.built.patterns pattern)) deep ≡ true
          → HasListed anchored deep u (now ++ pattern ∷ []) after
      one-more due = search (rules, append_assoc, front)
