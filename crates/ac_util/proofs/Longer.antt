-- A haystack after which more bytes come: in a span of what was there before everything stays.
use Rattle.ac_util.proofs.Prelude.{◌≡◌, ℕ, ◌≤◌, List, ◌++◌, length, length-append, ap, subst, sym, ◌∙◌, arith, option_map}
use Rattle.ac_util.specs.Prelude.{MatchKind, pick, plain, plain_patterns, Search, text, IsPickIn}
use Rattle.ac_util.proofs.PiecesLemmas.{slice_range-append}
use Rattle.ac_util.proofs.Spans.{inward, pick-from_text, pick-in_text, pick-out_again}

module _ (q : Search) (more : List ℕ) (ordered : q.low ≤ q.high) (inside : q.high ≤ length q.haystack) where
  -- the search once these bytes have come
  abbrev pub extended : Search
  extended = record q { haystack = q.haystack ++ more }

  -- its text
  pub text-extended : text extended ≡ text q
  text-extended = ap (plain q.ignores_case) (slice_range-append q.haystack more q.low q.high ordered inside)

  -- and its pick
  pub pick-extended : (kind : MatchKind) → pick kind extended ≡ pick kind q
  pick-extended kind =
      let long = length-append q.haystack more in
      sym (pick-from_text extended ordered (omega arith) kind (option_map (inward q.low) (pick kind q))
      (subst (λ (w : List ℕ). IsPickIn kind (plain_patterns q) q.anchored w (option_map (inward q.low) (pick kind q)))
      (sym text-extended) (pick-in_text q ordered inside kind)))
      ∙ pick-out_again q ordered inside kind
