-- What the program prints.
use Rattle.std.specs.Prelude.{ℕ, List, [], ◌∷◌, ◌++◌, codes, decimal, flat_map, option_to_list, Result, Ok, Err}
use Rattle.ac_search.specs.Built.{Built, exchanged, find_result, search_in, walk_result}
use Rattle.ac_search.specs.Input.{whole_input}
use Rattle.ac_search.specs.Listing.{all}
use Rattle.ac_search.specs.Occurrence.{Occurrence}
use Rattle.ac_search.specs.Replacement.{replaced}
use Rattle.ac_search.specs.Stream.{stream_result}
use Rattle.acs.specs.declared.request.Mode.{Mode}
use Rattle.acs.specs.declared.request.Mode.TheVariants.{Find, Walk, Overlap, Stream, Replace, StreamReplace}
use Rattle.acs.specs.declared.run.Outcome.{Outcome}
use Rattle.acs.specs.declared.run.Outcome.TheVariants.{Found, Nothing}

-- a line for a match: number, start and end in decimal
abbrev pub line : Occurrence → List ℕ
line m = decimal m.pattern ++ codes " " ++ decimal m.start ++ codes " " ++ decimal m.end ++ codes "\n"

abbrev pub lines : List Occurrence → List ℕ
lines ms = flat_map line ms

-- whether there is one
abbrev pub outcome_of : List Occurrence → Outcome
outcome_of [] = Nothing
outcome_of (m ∷ ms) = Found

-- what a run writes, and how it ends that meets no fault
pub record Output : Type 0 where
  pub text : List ℕ
  pub outcome : Outcome

-- a line for each match, and whether there is one
abbrev pub lines_of : List Occurrence → Output
lines_of ms = record { text = lines ms; outcome = outcome_of ms }

-- what each mode writes for a haystack: the match that a find answers, those of a walk, all occurrences, those of a
-- stream; or the haystack itself with each match exchanged for the text of its pattern, whether there is one or not
abbrev pub output_of : Mode → Built → List (List ℕ) → List ℕ → Output
output_of Find built texts haystack = lines_of (option_to_list (find_result built (whole_input haystack)))
output_of Walk built texts haystack = lines_of (walk_result built (whole_input haystack))
output_of Overlap built texts haystack = lines_of (all (search_in built (whole_input haystack)))
output_of Stream built texts haystack = lines_of (stream_result built haystack)
output_of Replace built texts haystack = record {
  text = replaced haystack texts (exchanged built haystack);
  outcome = Found;
}
output_of StreamReplace built texts haystack = record {
  text = replaced haystack texts (stream_result built haystack);
  outcome = Found;
}

-- the exit status
abbrev pub status_of : {E : Type 0} → Result Outcome E → ℕ
status_of (Ok Found) = 0
status_of (Ok Nothing) = 1
status_of (Err fault) = 2
