-- The matches of a walk stand one after another.
use Rattle.ac_util.proofs.Prelude.{◌≡◌, ◌∙◌, ℕ, suc, ◌+◌, ◌-◌, ◌≤◌, Bool, true, false, List, [], ◌∷◌, ◌++◌, length, drop, filter, slice_range, if◌then◌else◌, refl, ap, sym, append_assoc, arith, drop-drop, take-append-drop, All, AllPairs, All-head, All-tail, All-weaker}
use Rattle.ac_search.specs.Prelude.{order_of, walk_result, IsAfter, StandApart, StandInOrder, LeavesWhole}
use Rattle.ac_util.specs.Replacement.{exchanged_from}
use Rattle.ac_automaton.specs.Util.{Built, has_empty, InputView, LiesIn, Occurrence, search_in}
use Rattle.ac_util.proofs.Lying.{walk_result-lie}
use Rattle.ac_util.proofs.Shortest.{none-empty}
use Rattle.ac_util.proofs.Walks.{walk-ordered}

-- matches that lie in the haystack, that are each after those before, and that start no earlier than low
stand : (built : Built) (input : InputView) (low : ℕ) (ms : List Occurrence) → All (LiesIn built input) ms
    → AllPairs IsAfter ms → All (λ m. low ≤ m.start) ms → StandInOrder low (length input.haystack) ms
stand built input low [] lie after later = tt
stand built input low (m ∷ ms) lie after later =
    let here = All-head (LiesIn built input) m ms lie in (
      All-head (λ (n : Occurrence). low ≤ n.start) m ms later,
      here.in_order,
      here.in_haystack,
      stand built input m.end ms (All-tail (LiesIn built input) m ms lie)
          (λ i j d less within. after (suc i) (suc j) d (omega arith) (omega arith))
          (λ k d within. (after 0 (suc k) d (omega arith) (omega arith)).apart),
    )

pub walk-stands : (built : Built) (input : InputView) → input.end ≤ length input.haystack
    → StandInOrder input.start (length input.haystack) (walk_result built input)
walk-stands built input inside =
    let lie = walk_result-lie built input inside in
    let ms = walk_result built input in
    stand built input input.start ms lie (walk-ordered (order_of built.kind input.earliest) (search_in built input))
    (All-weaker (LiesIn built input) (λ (m : Occurrence). input.start ≤ m.start) (λ m h. h.from_start) ms lie)

-- where no pattern is empty none of them is
apart : (built : Built) (input : InputView) (low : ℕ) (ms : List Occurrence) → has_empty built ≡ false
    → All (LiesIn built input) ms → StandInOrder low (length input.haystack) ms → StandApart low (length input.haystack) ms
apart built input low [] some lie order = tt
apart built input low (m ∷ ms) some lie order =
    let here = All-head (LiesIn built input) m ms lie in
    let has = none-empty built.patterns m.pattern some here.numbered in let long = here.as_long in (
      order.0,
      omega arith,
      order.2,
      apart built input m.end ms some (All-tail (LiesIn built input) m ms lie) order.3,
    )

pub walk-apart : (built : Built) (input : InputView) → has_empty built ≡ false → input.end ≤ length input.haystack
    → StandApart input.start (length input.haystack) (walk_result built input)
walk-apart built input some inside =
    apart built input input.start (walk_result built input) some (walk_result-lie built input inside)
    (walk-stands built input inside)

-- what stands between two offsets, and then what follows
joins : (bytes : List ℕ) (from to : ℕ) → from ≤ to → slice_range bytes from to ++ drop to bytes ≡ drop from bytes
joins bytes from to less =
    ap (λ (w : List ℕ). slice_range bytes from to ++ w)
    (ap (λ (n : ℕ). drop n bytes) (let e : to ≡ from + (to - from) = omega arith in e) ∙ sym (drop-drop (to - from) from bytes))
    ∙ take-append-drop (to - from) (drop from bytes)

-- matches that stand in order, exchanged for what is there, leave the bytes from an offset on
leaves : (bytes : List ℕ) (low : ℕ) (ms : List Occurrence) → StandInOrder low (length bytes) ms
    → exchanged_from bytes (λ m slice. slice) low ms ≡ drop low bytes
leaves bytes low [] order = refl
leaves bytes low (m ∷ ms) order =
    append_assoc (slice_range bytes low m.start) (slice_range bytes m.start m.end) (exchanged_from bytes (λ n slice. slice) m.end ms)
    ∙ ap (λ (w : List ℕ). slice_range bytes low m.start ++ w)
    (ap (λ (w : List ℕ). slice_range bytes m.start m.end ++ w) (leaves bytes m.end ms order.3) ∙ joins bytes m.start m.end order.1)
    ∙ joins bytes low m.start order.0

-- from the beginning on they leave the whole
pub leaves-whole : (bytes : List ℕ) (ms : List Occurrence) → StandInOrder 0 (length bytes) ms → LeavesWhole bytes ms
leaves-whole bytes ms order = leaves bytes 0 ms order

-- matches that stand in order from an offset on do so from an earlier one
earlier : (low later high : ℕ) (ms : List Occurrence) → low ≤ later → StandInOrder later high ms → StandInOrder low high ms
earlier low later high [] less order = tt
earlier low later high (m ∷ ms) less order = (omega arith, order.1, order.2, order.3)

-- and so do some of them
pub filtered : (p : Occurrence → Bool) (low high : ℕ) (ms : List Occurrence) → StandInOrder low high ms
    → StandInOrder low high (filter p ms)
filtered p low high [] order = tt
filtered p low high (m ∷ ms) order = by (p m) (filtered p m.end high ms order.3)
  where
    by : (t : Bool) → StandInOrder m.end high (filter p ms) → StandInOrder low high (if t then m ∷ filter p ms else filter p ms)
    by true rest = (order.0, order.1, order.2, rest)
    by false rest =
        earlier low m.end high (filter p ms) (let from = order.0 in let long = order.1 in omega arith) rest
