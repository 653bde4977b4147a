-- What the words after the program's name ask for.
use Rattle.std.specs.Prelude.{ℕ, ◌%◌, ◌==◌, List, [], ◌∷◌, Option, None, Some, Bool, false, true, bytes_eq, String, codes, drop, length, map, string_bytes, if◌then◌else◌}
use Rattle.ac_search.specs.declared.MatchKind.{MatchKind}
use Rattle.ac_search.specs.declared.MatchKind.TheVariants.{Standard, LeftmostFirst, LeftmostLongest}
use Rattle.ac_search.specs.declared.AhoCorasickKind.{AhoCorasickKind}
use Rattle.ac_search.specs.declared.AhoCorasickKind.TheVariants.{ContiguousNFA, DFA, NoncontiguousNFA}
use Rattle.ac_search.specs.Built.{Built}
use Rattle.ac_search.specs.Builds.{usual_engine_settings}
use Rattle.ac_search.specs.Searchers.{Settings, built_by, usual_settings}
use Rattle.acs.specs.declared.request.Mode.{Mode}
use Rattle.acs.specs.declared.request.Mode.TheVariants.{Find, Walk, Overlap, Stream, Replace, StreamReplace}
use Rattle.acs.specs.declared.request.Request.{Request}

-- the names of modes, match kinds and engines
abbrev pub mode_of : List ℕ → Option Mode
mode_of word =
    if bytes_eq word (codes "find") then Some Find
    else if bytes_eq word (codes "walk") then Some Walk
    else if bytes_eq word (codes "overlap") then Some Overlap
    else if bytes_eq word (codes "stream") then Some Stream
    else if bytes_eq word (codes "replace") then Some Replace
    else if bytes_eq word (codes "sreplace") then Some StreamReplace
    else None

abbrev pub kind_of : List ℕ → Option MatchKind
kind_of word =
    if bytes_eq word (codes "std") then Some Standard
    else if bytes_eq word (codes "first") then Some LeftmostFirst
    else if bytes_eq word (codes "longest") then Some LeftmostLongest
    else None

-- by `auto` the searcher chooses
abbrev pub engine_of : List ℕ → Option (Option AhoCorasickKind)
engine_of word =
    if bytes_eq word (codes "auto") then Some None
    else if bytes_eq word (codes "noncontiguous") then Some (Some NoncontiguousNFA)
    else if bytes_eq word (codes "contiguous") then Some (Some ContiguousNFA)
    else if bytes_eq word (codes "dfa") then Some (Some DFA)
    else None

-- whether a mode allows so many words after these three: for the replacing modes they stand in pairs
abbrev pub allows_count : Mode → ℕ → Bool
allows_count Replace count = count % 2 == 0
allows_count StreamReplace count = count % 2 == 0
allows_count mode count = true

-- a mode, a kind and an engine, and so many words as the mode allows; anything else is no request
abbrev pub request_with : Option Mode → Option MatchKind → Option (Option AhoCorasickKind) → ℕ → Option Request
request_with (Some mode) (Some kind) (Some engine) count =
    if allows_count mode count then Some (record { mode = mode; kind = kind; engine = engine })
    else None
request_with mode kind engine count = None

abbrev pub request_of : List (List ℕ) → Option Request
request_of (mode ∷ kind ∷ engine ∷ words) =
    request_with (mode_of mode) (kind_of kind) (engine_of engine) (length words)
request_of words = None

-- the words among the arguments, of which the first is the program's name
abbrev pub words_among : {A : Type 0} → List (String A) → List (List ℕ)
words_among arguments = drop 1 (map string_bytes arguments)

-- the first word of each pair, where words stand in pairs, and the second
abbrev pub firsts : List (List ℕ) → List (List ℕ)
firsts (first ∷ second ∷ words) = first ∷ firsts words
firsts words = []

abbrev pub seconds : List (List ℕ) → List (List ℕ)
seconds (first ∷ second ∷ words) = second ∷ seconds words
seconds words = []

-- the second word of each pair, or else the first
abbrev pub side : Bool → List (List ℕ) → List (List ℕ)
side false words = firsts words
side true words = seconds words

-- which of the words are patterns, and which are texts: for the replacing modes they are pattern and text in turn
abbrev pub patterns_in : Mode → List (List ℕ) → List (List ℕ)
patterns_in Replace words = firsts words
patterns_in StreamReplace words = firsts words
patterns_in mode words = words

abbrev pub texts_among : Mode → List (List ℕ) → List (List ℕ)
texts_among Replace words = seconds words
texts_among StreamReplace words = seconds words
texts_among mode words = []

-- what the searcher is built by
abbrev pub settings_of : Request → Settings
settings_of request = record usual_settings {
  engine = record usual_engine_settings { kind = request.kind };
  kind = request.engine;
}

-- what the searcher for a request with these words was built from
abbrev pub built_for : Request → List (List ℕ) → Built
built_for request words = built_by (settings_of request) (patterns_in request.mode words)
