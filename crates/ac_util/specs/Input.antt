-- What a search is given: haystack, span and options, as a tape and what is counted of it.
use Rattle.std.specs.Prelude.{ℕ, ◌+◌, ◌≤◌, Bool, false, List, length}
use Rattle.ac_util.specs.declared.search.Anchored.{Anchored}
use Rattle.ac_util.specs.declared.search.Anchored.TheVariants.{No}
use Rattle.ac_util.specs.Occurrence.{Search}
use Rattle.ac_util.specs.declared.search.input.Input.{Input}

-- the span begins at `start` and ends before `end`; it may begin one past its end, and then has nothing in it
pub record InputView : Type 0 where
  pub haystack : List ℕ
  pub start : ℕ
  pub end : ℕ
  pub anchored : Anchored
  pub earliest : Bool

-- an input over a whole haystack, without options
abbrev pub whole_input : List ℕ → InputView
whole_input haystack = record {
  haystack = haystack;
  start = 0;
  end = length haystack;
  anchored = No;
  earliest = false;
}

-- a span that an input may have
pub record IsLegal (haystack : List ℕ) (start end : ℕ) : Type 0 where
  pub end_within : end ≤ length haystack
  pub start_within : start ≤ end + 1

-- the search for these patterns that an input asks for
abbrev pub search_for : List (List ℕ) → Bool → InputView → Search
search_for patterns ignores_case input = record {
  patterns = patterns;
  ignores_case = ignores_case;
  haystack = input.haystack;
  anchored = input.anchored;
  low = input.start;
  high = input.end;
}

-- the haystack, span and options of an input
abbrev pub input_of : Input → InputView
input_of input = record {
  haystack = input.haystack.now;
  start = input.start;
  end = input.end;
  anchored = input.anchored;
  earliest = input.earliest;
}

-- bytes read, states looked at, and calls of a prefilter
pub record Counts : Type 0 where
  pub reads : ℕ
  pub looks : ℕ
  pub calls : ℕ

-- a count of one thing
pub record Tallied : Type 0 where
  pub number : ℕ

-- nothing was counted
abbrev pub no_counts : Counts
no_counts = record { reads = 0; looks = 0; calls = 0 }

-- one byte more was read
abbrev pub one_more_read : Counts → Counts
one_more_read counts = record counts { reads = counts.reads + 1 }

-- a prefilter was called once more
abbrev pub one_more_call : Counts → Counts
one_more_call counts = record counts { calls = counts.calls + 1 }

-- n states more were looked at
abbrev pub more_looks : ℕ → Counts → Counts
more_looks n counts = record counts { looks = counts.looks + n }

-- the bytes of a tape, and the offset after the last one that was read
pub record Taped : Type 0 where
  pub bytes : List ℕ
  pub place : ℕ
