-- The match of a stream that comes next but isn't given: it could still change when the last byte came.
use Rattle.ac_util.proofs.Prelude.{◌≡◌, ℕ, false, List, [], ◌++◌, length, refl, ap, subst, ◌∙◌, arith, Option, None, Some, IfSome, slice_get, slice_get_within, take, append-nil, common_steps}
use Rattle.ac_automaton.specs.Prelude.{Built, CouldChange, CouldNextChange, has_empty, HasGivenFirst, last_end, Occurrence, pick, Phase, Search, stream_from, stream_result, walk_after}
use Rattle.ac_util.proofs.Shortest.{none-empty}
use Rattle.ac_util.proofs.Walks.{next-none, next-some, pick-Occurs, walk_after-None, walk_after-Some}
use Rattle.ac_automaton.proofs.ListLoop.{get-beyond}

module _ (built : Built) (some : has_empty built ≡ false) (bytes : List ℕ) {given begun : ℕ} {phase : Phase}
    (first : HasGivenFirst phase built bytes given begun) where
  abbrev q : Search
  q = stream_from built bytes begun

  whole : stream_result built bytes ≡ first.matches ++ walk_after built.kind q first.last
  whole =
      subst (λ (bs : List ℕ). stream_result built bs ≡ first.matches ++ walk_after built.kind (stream_from built bs begun) first.last)
      (append-nil bytes) (first.walks [] (λ ended. refl))

  -- it is what is picked of the bytes after the last one given
  next-picked : (m : Occurrence) → slice_get (stream_result built bytes) given ≡ Some m → pick built.kind q ≡ Some m
  next-picked m at = by (pick built.kind q) refl
    where
      by : (r : Option Occurrence) → pick built.kind q ≡ r → r ≡ Some m
      by None none =
          let over = whole ∙ ap (λ (ms : List Occurrence). first.matches ++ ms)
          (walk_after-None built.kind q first.last (next-none built.kind q first.last none)) ∙ append-nil first.matches in
          let long = ap length over in let within = slice_get_within (stream_result built bytes) given m at in let c = first.count in
          absurd (omega arith)
      by (Some n) is =
          let o = pick-Occurs built.kind q n is in let long = none-empty built.patterns n.pattern some o.numbered in
          let as_long = o.as_long in
          let on = whole ∙ ap (λ (ms : List Occurrence). first.matches ++ ms)
          (walk_after-Some built.kind q first.last n (next-some built.kind q first.last n is (omega arith))) in
          grind (arith, common_steps, on, get-beyond)

  -- those that were given end where it begins
  ends-there : begun ≡ last_end (take given (stream_result built bytes))
  ends-there = let count = first.count in let end = first.end in grind (arith, common_steps, whole)

  -- so the next match could change if whatever is picked could
  pub next-could : ((m : Occurrence) → pick built.kind q ≡ Some m → CouldChange built bytes begun m) → CouldNextChange built bytes given
  next-could could = by (slice_get (stream_result built bytes) given) refl
    where
      by : (r : Option Occurrence) → slice_get (stream_result built bytes) given ≡ r
          → IfSome r (CouldChange built bytes (last_end (take given (stream_result built bytes))))
      by None at = tt
      by (Some m) at = subst (λ (from : ℕ). CouldChange built bytes from m) ends-there (could m (next-picked m at))
