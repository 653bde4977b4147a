-- Setting the targets of transitions at their classes, one after another.
use Rattle.ac_util.proofs.Prelude.{◌≡◌, ◌≢◌, ℕ, suc, ◌+◌, ◌-◌, ◌<◌, List, [], ◌∷◌, ◌++◌, length, map, take, drop, refl, sym, ap, ◌∙◌, arith, ◌==◌, if◌then◌else◌, replicate, slice_index_or, slice_set, rules, All, range_with_len, IsStrictlyIncreasing, eq-eqb, ne_eqb, ext_get_or, get_or-map, get_or-replicate, get_or-take, length-append, length-map, length-replicate, length-take-le, take-append-le, take_at, common_steps, get_or-map-range_with_len, length-map-range_with_len}
use Rattle.ac_engines.specs.Prelude.{Edge, HasTargets, target_by}
use Rattle.std.proofs.lemmas.Slice.{take-put_mid}
use borrow.Rule.Slice.PartMut.{put_mid}
use Rattle.std.proofs.lemmas.List.Kept.{AllPairs-from_increasing}

-- one transition more, by a class of which none led so far, leads by its class
target-same : (default_target : ℕ) (edges : List Edge) (e : Edge) → All (λ f. f.class ≢ e.class) edges
    → target_by default_target (edges ++ e ∷ []) e.class ≡ e.target
unfolding target_by
target-same default_target [] e none = rw (eq-eqb e.class e.class refl) refl
target-same default_target (f ∷ edges) e none =
    rw (ne_eqb f.class e.class (none 0 e (omega arith)))
    (target-same default_target edges e (λ k d within. none (suc k) d (omega arith)))

-- and by no other class
target-other : (default_target : ℕ) (edges : List Edge) (e : Edge) (class : ℕ) → e.class ≢ class
    → target_by default_target (edges ++ e ∷ []) class ≡ target_by default_target edges class
unfolding target_by
target-other default_target [] e class other = rw (ne_eqb e.class class other) refl
target-other default_target (f ∷ edges) e class other =
    ap (λ n. if f.class == class then f.target else n) (target-other default_target edges e class other)

-- where the classes ascend, none of the transitions so far has the class of the next
none-before : (edges : List Edge) (i : ℕ) (d : Edge) → IsStrictlyIncreasing (map (λ e. e.class) edges)
    → i < length edges → All (λ f. f.class ≢ (slice_index_or edges i d).class) (take i edges)
none-before edges i d ascending within = λ k e before.
    let earlier : k < i = (let long = length-take-le i edges (omega arith) in omega arith) in
    let below = AllPairs-from_increasing (map (λ (e : Edge). e.class) edges) ascending k i 0 earlier
    (rw (length-map edges (λ (e : Edge). e.class)) within) in
    let this = get_or-take i edges k e earlier in
    let at = get_or-map (λ (e : Edge). e.class) edges k e 0 (omega arith) in
    let next = get_or-map (λ (e : Edge). e.class) edges i d 0 within in
    λ same. let same_class = ap (λ (e : Edge). e.class) this in omega arith

-- nothing has been set at first
pub no-target : (old : List ℕ) → HasTargets old [] old
unfolding target_by
no-target old = record { same_length = refl; each = λ class within. refl }

-- the next target is set
pub next-target : (old now : List ℕ) (edges : List Edge) (i : ℕ) (d : Edge)
    → IsStrictlyIncreasing (map (λ e. e.class) edges) → i < length edges
    → (slice_index_or edges i d).class < length old → HasTargets old (take i edges) now
    → HasTargets old (take (i + 1) edges)
    (slice_set now (slice_index_or edges i d).class (slice_index_or edges i d).target)
next-target old now edges i d ascending more within h = grind (arith, common_steps, none-before, target-other, target-same)

-- all targets, where before each class led to the same
pub all-targets : (default_target classes : ℕ) (edges : List Edge) (now : List ℕ)
    → HasTargets (replicate classes default_target) edges now
    → now ≡ map (target_by default_target edges) (range_with_len 0 classes)
all-targets default_target classes edges now h =
    let long = h.same_length ∙ length-replicate classes default_target in
    ext_get_or 0 now (map (target_by default_target edges) (range_with_len 0 classes))
    (long ∙ sym (length-map-range_with_len (target_by default_target edges) 0 classes))
    (λ class within.
    h.each class (rw (length-replicate classes default_target) (omega (arith, long)))
    ∙ ap (λ n. target_by n edges class) (get_or-replicate classes class default_target 0 (omega (arith, long)))
    ∙ sym (get_or-map-range_with_len (target_by default_target edges) 0 classes class class 0 (omega (arith, long))
    (omega arith)))

-- words that are made longer by so many hold the same after
pub resized : (before : List ℕ) (start classes len default_target : ℕ) → start ≡ length before → start ≡ len
    → take (start + classes) before ++ replicate (start + classes - len) default_target ≡ before ++ replicate classes default_target
resized before start classes len default_target start_is len_is = grind (arith, common_steps)

-- writing a part that reaches to the end leaves what stands before it
pub written-after : (before now targets : List ℕ) (start n default_target classes : ℕ) → start ≡ length before
    → now ≡ before ++ replicate classes default_target → n ≡ length now → length targets ≡ classes
    → (after : List ℕ) → take n (put_mid start (length now - start) now targets ++ after) ≡ before ++ targets
written-after before now targets start n default_target classes start_is now_is n_is long after =
    search (rules, length-append, length-replicate, take-append-le, take-put_mid, take_at)

-- the part to which the targets are written
pub blank-after : (before now : List ℕ) (start default_target classes : ℕ) → start ≡ length before
    → now ≡ before ++ replicate classes default_target → take (length now - start) (drop start now) ≡ replicate classes default_target
blank-after before now start default_target classes start_is now_is = grind (arith, common_steps)
