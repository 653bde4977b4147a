-- Classes of bytes, as the definitions compute them.
use Rattle.ac_util.proofs.Prelude.{◌≡◌, true, false, [], ◌∷◌, codes, map, refl}
use Rattle.ac_util.specs.Prelude.{class_of, singletons, stride2}
use Rattle.ac_util.proofs.SearchRows.{nested_words}

-- a byte and its class, for "b", "abc" and "abcd": the last class is that of all bytes after the letter d
nested-classes : map (class_of false nested_words) (0 ∷ 96 ∷ 97 ∷ 98 ∷ 99 ∷ 100 ∷ 101 ∷ 102 ∷ 255 ∷ [])
    ≡ 0 ∷ 0 ∷ 1 ∷ 2 ∷ 3 ∷ 4 ∷ 5 ∷ 5 ∷ 5 ∷ []
unfolding class_of
nested-classes = refl

-- where case is ignored the letters count in both cases; without patterns all bytes have one class
last-classes : class_of true (codes "ab" ∷ []) 255 ∷ class_of false [] 255 ∷ [] ≡ 6 ∷ 0 ∷ []
unfolding class_of
last-classes = refl

-- 256 classes have a stride of 2 ^ 8
singletons-stride2 : stride2 singletons ≡ 8
unfolding singletons stride2
singletons-stride2 = refl
