-- The names of std that most proofs here and above cite, passed on from one place. Declares nothing.
pub use Rattle.std.proofs.Common.{All, AllPairs, Bool, Contains, Err, IfOk, IfSome, IsErrAnd, IsTrue, List, MatchBool, MatchOption, MatchResult, None, Ok, OnOk, Option, Result, Some, [], add-one, ap, append-nil, append_assoc, ap₂, arith, bytes_eq, cond, drop, eqb, false, filter, filter_map, find, flat_map, get_or, get_or-drop, get_or-set_other, get_or-set_same, get_or-take, if◌then◌else◌, inl, inr, is_some, length, length-append, length-drop, length-set, length-take, lit<, map, max, min, nat_eq, nat_le, nat_lt, not, of_calls, option_map, refl, replicate, rules, set, slice_get, slice_index, slice_index_or, slice_range, slice_set, string_bytes, subst, suc, sym, take, take-take, take_all, tests, true, unwrap_or, zero, ℕ, ◌%◌, ◌&&◌, ◌*◌, ◌++◌, ◌+◌, ◌-◌, ◌/◌, ◌<◌, ◌==◌, ◌^◌, ◌||◌, ◌↔◌, ◌∙◌, ◌∷◌, ◌≡◌, ◌≢◌, ◌≤◌, ◌⊎◌}
pub use Rattle.std.proofs.lemmas.Grind.{common_steps, div_ceil_times, get_or_default_zero, same_number_lists}
pub use Rattle.std.proofs.lemmas.Bool.{and_from, and_parts, cases_Bool, cases_eq, cases_lt, cond-false, cond-true, eq-eqb, eqb-false, eqb-true, false_from_ne_true, false≢true, le-leb, le-ltb, leb-false, leb-true, lt-leb, lt-ltb, ltb-false, ltb-true, ne_eqb, not_from_true, or_cases, or_left, or_right, true≢false}
pub use Rattle.std.proofs.lemmas.List.{append_cancel_left, drop-append-le, drop-drop, drop-map, drop-take, drop_all, drop_at, drop_more, ext_get_or, get_or-append-add, get_or-map, get_or-replicate, get_or_append_left, get_or_default, get_or_past, get_or_push, get_or_read, length-map, length-replicate, length-take-le, length_push, map-append, map-id, nil_from_length, take-append-drop, take-append-le, take-map, take_at, take_more}
pub use Rattle.std.specs.List.{AllByRecursion, AllWithin, CopiedTo, HoldsAt, IsDistinct, SameBelow, SameFrom, copy_within, list_any, range_with_len, starts_with, sum_by, take_while}
pub use Rattle.std.proofs.lemmas.Option.{IfSome_then, get_or_from_slice_get, slice_get-get_or, slice_get-map, slice_get_cases, slice_get_past, slice_get_read, slice_get_within}
pub use Rattle.std.proofs.lemmas.List.Elements.{All-append, All-cons, All-contains, All-contains_itself, All-drop, All-filter, All-head, All-map, All-nil, All-push, All-same, All-set, All-tail, All-weaker, Contains-append_cases, Contains-append_left, Contains-append_right, Contains-get_or, filter-append, filter_map-append, recursion_from_All, same_from_all_zip}
pub use Rattle.std.specs.Prelude.{codes, ⊤}
pub use Rattle.std.proofs.Math.Seq.{drop-append-add, drop-append_seam, drop-cons, drop-length, drop-nil, get_or-append_seam, paste, take-add, take-append-add, take-append_seam, take-suc}
pub use Rattle.std.specs.List.Sorted.{IsBinarySearchResult, IsNonDecreasingBy, IsPermutation, IsSortedBy, IsSortedByClosure, IsSortedByKey, IsStrictlyIncreasing}
pub use Rattle.std.proofs.lemmas.List.FromFn.{filter_of_map_range_with_len_more, get_or-map-range_with_len, get_or-range_with_len, length-map-range_with_len, length-range_with_len}
pub use Rattle.std.specs.Borrow.{Bor, MutBor}
pub use Rattle.std.specs.Ordering.{MatchOrdering, is_gt, is_lt, nat_cmp, ordering_index, ordering_reverse, ordering_then}
pub use Rattle.std.proofs.lemmas.Bool.Decides.{Decides-eqb, Decides-ltb, Decides-not, eqb_tells, nat_tests}
