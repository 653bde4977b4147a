use Rattle.std.proofs.Common.{◌≡◌, ◌+◌, ℕ, zero, suc, subst, arith, [], ◌∷◌, ◌++◌, List, take, ap, sym, ◌∙◌, Some, slice_get}
use Rattle.ac_search.specs.Prelude.{all, InputView, whole_input, HasPlace, item_at, Occurrence, place_after, rank_in, search_in}
use Rattle.examples.proofs.callers.listing.all_by_state.Goals as goal

-- a beginning of a list, with the element after it
take-more : {X : Type 0} (xs : List X) (k : ℕ) (x : X) → slice_get xs k ≡ Some x → take (k + 1) xs ≡ take k xs ++ x ∷ []
take-more [] k x e = absurd (cc)
take-more (y ∷ xs) zero x e = let same : y ≡ x = cc in ap (λ (z : _). z ∷ []) same
take-more (y ∷ xs) (suc k) x e =
    ap (λ (n : ℕ). take n (y ∷ xs)) (let s : suc k + 1 ≡ suc (k + 1) = omega arith in s)
    ∙ ap (λ (zs : List _). y ∷ zs) (take-more xs k x e)

-- the item is added that the call gave
pub loop-m-preserved : goal.loop-m-preserved
loop-m-preserved c =
    let searcher = c.args.searcher.now in
    let input = whole_input c.args.haystack.now in
    let q = search_in searcher.built input in
    let place = rank_in searcher input c.loop-m.state in
    let state = c.find_overlapping.new.state in
    let item = subst (λ (a : InputView). state.found
    ≡ item_at (search_in searcher.built a) (rank_in searcher a c.loop-m.state)) c.new.ensures.value
    c.find_overlapping.ensures.item in
    let after = subst (λ (a : InputView). rank_in searcher a state
    ≡ place_after (search_in searcher.built a) (rank_in searcher a c.loop-m.state)) c.new.ensures.value
    c.find_overlapping.ensures.place in
    let some : item_at q place ≡ Some c.in-Some.m = sym item ∙ sym c.get_match.ensures ∙ c.in-Some.is in
    let goes_on = c.listing_goes_on.ensures.goes_on q place c.in-Some.m some in
    let one : take (place + 1) (all q) ≡ take place (all q) ++ c.in-Some.m ∷ [] =
    take-more (all q) place c.in-Some.m some in
    record {
      placed = subst (λ (a : InputView). HasPlace searcher a state) c.new.ensures.value
          c.find_overlapping.ensures.placed;
      found = c.in_ok-push.ensures.items ∙ ap (λ (ms : List Occurrence). ms ++ c.in-Some.m ∷ []) c.loop-m.invariant.found
          ∙ sym (ap (λ (n : ℕ). take n (all q)) (after ∙ goes_on.1) ∙ one);
    }
