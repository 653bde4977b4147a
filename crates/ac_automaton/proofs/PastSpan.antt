-- Bytes past the end of a span: they change nothing of what is listed there, and of where a listing stands.
use Rattle.ac_util.proofs.Prelude.{◌≡◌, ℕ, ◌+◌, ◌-◌, ◌≤◌, List, ◌++◌, length, length-append, take, ap, sym, subst, ◌∙◌, arith, slice_range, take-append-le}
use Rattle.ac_automaton.specs.Prelude.{all, due_in, given_in, in_memory, IsListed, KeepsListed, node, Occurrence, Occurs, pattern_of, PieceListing, plain, plain_patterns, Reached, reached, Scan, ScanText, Search, search_taken, search_through, listed_taken, text}
use Rattle.ac_automaton.specs.Finds.{between}
use Rattle.ac_util.proofs.Listing.{all-has, all-only, all-ordered, all-unique}
use Rattle.ac_util.proofs.ListingBeginning.{all-longer_by}
use Rattle.ac_util.proofs.PiecesLemmas.{slice_range-append}

-- bytes past the span of a search
module _ (q : Search) (more : List ℕ) (inside : q.high ≤ length q.haystack) where
  abbrev beyond : Search
  beyond = record q { haystack = q.haystack ++ more }

  same-part : (m : Occurrence) → m.start + length (pattern_of q.patterns m.pattern) ≡ m.end → m.end ≤ q.high
      → slice_range (q.haystack ++ more) m.start m.end ≡ slice_range q.haystack m.start m.end
  same-part m long high = slice_range-append q.haystack more m.start m.end (omega arith) (omega arith)

  occurs-beyond : (m : Occurrence) → Occurs q m → Occurs beyond m
  occurs-beyond m o = record {
    numbered = o.numbered;
    from_low = o.from_low;
    as_long = o.as_long;
    to_high = o.to_high;
    reads = o.reads ∙ ap (plain q.ignores_case) (sym (same-part m o.as_long o.to_high));
    at_low = o.at_low;
  }

  occurs-before : (m : Occurrence) → Occurs beyond m → Occurs q m
  occurs-before m o = record {
    numbered = o.numbered;
    from_low = o.from_low;
    as_long = o.as_long;
    to_high = o.to_high;
    reads = o.reads ∙ ap (plain q.ignores_case) (same-part m o.as_long o.to_high);
    at_low = o.at_low;
  }

  -- change nothing of what is listed
  pub all-beyond : all beyond ≡ all q
  all-beyond =
      sym (all-unique beyond (all q) (λ m o. all-has q m (occurs-before m o)) (λ m h. occurs-beyond m (all-only q m h))
      (all-ordered q))

  -- and nothing of the span's text
  pub text-beyond : q.low ≤ q.high → text beyond ≡ text q
  text-beyond ordered = ap (plain q.ignores_case) (slice_range-append q.haystack more q.low q.high ordered inside)

-- the items that were given are the first ones of each longer text
pub keeps-more : (v : PieceListing) (more : List ℕ) → v.given ≤ length (listed_taken v) → KeepsListed v (v.bytes ++ more)
keeps-more v more few =
    let q : Search = search_taken v in
    let beyond : Search = record q { haystack = v.bytes ++ more } in
    let long = length-append v.bytes more in
    let longer = all-longer_by beyond (length more) (omega arith) (omega arith) in
    let goes_on : listed_taken (record v { bytes = v.bytes ++ more }) ≡ all q ++ longer.later =
    ap (λ (n : ℕ). all (record beyond { high = n })) long ∙ longer.goes_on
    ∙ ap (λ (ms : List Occurrence). ms ++ longer.later) (all-beyond q more (omega arith)) in
    ap (take v.given) goes_on ∙ take-append-le v.given (all q) longer.later few

-- a text, all of which is searched
abbrev pub whole_text : List ℕ → ScanText
whole_text bytes = in_memory bytes (between 0 (length bytes))

-- a listing that has come to an offset of a text has come there in each longer one
module _ (s : Scan) (bytes more : List ℕ) where
  node-beyond : (at : ℕ) → at ≤ length bytes → node s (whole_text (bytes ++ more)) at ≡ node s (whole_text bytes) at
  node-beyond at within =
      ap (reached s.built.kind (plain_patterns (search_through s (whole_text bytes))) s.anchored)
      (text-beyond (record (search_through s (whole_text bytes)) { high = at }) more within (omega arith))

  module _ {here : Reached} (on : IsListed s (whole_text bytes) here) where
    same-items : all (record (search_through s (whole_text (bytes ++ more))) { high = here.at })
        ≡ all (record (search_through s (whole_text bytes)) { high = here.at })
    same-items = all-beyond (record (search_through s (whole_text bytes)) { high = here.at }) more on.within

    pub listed-beyond : IsListed s (whole_text (bytes ++ more)) here
    listed-beyond =
        let within = on.within in let long = length-append bytes more in
        record {
          reaches = record {
            there = subst (s.stands here.state) (sym (node-beyond here.at within)) on.reaches.there;
            onward = on.reaches.onward;
            inside = omega arith;
            alive = λ at low before dead. on.reaches.alive at low before (sym (node-beyond at (omega arith)) ∙ dead);
          };
          within = omega arith;
          state = on.state;
          numbered = on.numbered;
          given = on.given;
          listing = same-items ∙ on.listing;
        }

    pub given-beyond : given_in s.listed (search_through s (whole_text (bytes ++ more))) here
        ≡ given_in s.listed (search_through s (whole_text bytes)) here
    given-beyond =
        ap (λ (ms : List Occurrence). length ms - length (due_in s.listed (search_through s (whole_text bytes)) here)) same-items
