-- What a build of a contiguous NFA has made.
use Rattle.ac_util.proofs.Prelude.{◌≡◌, ℕ, ◌<◌, ◌≤◌, Bool, Err, Result, List, length, arith, slice_index_or, common_steps}
use Rattle.ac_engines.specs.Prelude.{Both, BuildError, GREATEST, Node, ANCHORED_START, START, common_of, CommonView, Trie, Memory, AnswersContiguousFrom, all_words, classes_by, contiguous_of, ContiguousSettings, ContiguousView, front_end, HasPlaces, MayPack, packed_of, PackPlan}

-- words whose parts are those of a plan were packed by it
pub packed-same : (q : PackPlan) (nodes : List Node) (numbers words : List ℕ) (common : CommonView)
    (dense_depth : ℕ) (classes : List ℕ) (start anchored_start match_end : ℕ)
    → common ≡ common_of q.trie.built q.trie.wants_prefilter
    → q.trie.built.start_kind ≡ Both → dense_depth ≡ q.dense_depth → classes ≡ q.classes
    → start ≡ slice_index_or numbers START 0 → anchored_start ≡ slice_index_or numbers ANCHORED_START 0
    → match_end ≡ front_end q nodes
    → contiguous_of common dense_depth classes words start anchored_start match_end ≡ packed_of q nodes numbers words
packed-same q nodes numbers words common dense_depth classes start anchored_start match_end are both depth class starts anchored_starts ends =
    grind (arith, common_steps)

-- the starts have places
pub starts-placed : (q : PackPlan) (nodes : List Node) (numbers : List ℕ) → MayPack q nodes → HasPlaces q nodes numbers
    → ANCHORED_START < length numbers
starts-placed q nodes numbers may places = grind (arith, common_steps)

-- what was read at a place of the same list
pub read-number : (xs ys : List ℕ) (k n : ℕ) → k < length xs → xs ≡ ys → n ≡ slice_index_or xs k n
    → n ≡ slice_index_or ys k 0
read-number xs ys k n within same read = grind (arith, common_steps)

-- where there are no more words than numbers, memory alone is refused
pub memory-answers : (settings : ContiguousSettings) (trie : Trie) (q : PackPlan) (dense_depth : ℕ) (byte_classes : Bool)
    (classes : List ℕ) → q ≡ record { trie = trie; classes = classes; dense_depth = dense_depth }
    → classes ≡ classes_by byte_classes trie.built.ignores_case trie.built.patterns
    → dense_depth ≡ settings.dense_depth → byte_classes ≡ settings.byte_classes → all_words q ≤ GREATEST
    → (r : Result ContiguousView BuildError) → r ≡ Err Memory → AnswersContiguousFrom settings trie r
memory-answers settings trie q dense_depth byte_classes classes plan class depth same small r is = grind (arith, common_steps)
