-- Which settings the numbers of C stand for: the number of one is its index in a list.
use Rattle.std.specs.Prelude.{◌≡◌, Bool, ◌&&◌, true, false, List, [], ◌∷◌, length, nat_lt, Option, None, Some, slice_get, slice_index_or}
use Rattle.ac_search.specs.Patterns.{longest_len, shortest_len}
use Rattle.ac_search.specs.Searchers.{Searcher, Settings}
use Rattle.ac_search.specs.declared.ahocorasick.choice.AhoCorasickKind.{AhoCorasickKind}
use Rattle.ac_search.specs.declared.ahocorasick.choice.AhoCorasickKind.TheVariants.{ContiguousNFA, DFA, NoncontiguousNFA}
use Rattle.ac_search.specs.declared.MatchKind.{MatchKind}
use Rattle.ac_search.specs.declared.MatchKind.TheVariants.{LeftmostFirst, LeftmostLongest, Standard}
use Rattle.ac_search.specs.declared.StartKind.{StartKind}
use Rattle.ac_search.specs.declared.StartKind.TheVariants.{Anchored, Both, Unanchored}
use Rattle.ac_c.specs.declared.facts.Facts.{Facts}
use Rattle.ac_c.specs.declared.options.Options.{Options}

-- the match kinds, the start kinds, the engines, of which none may be named, and the values of a flag
abbrev pub match_kinds : List MatchKind
match_kinds = Standard ∷ LeftmostFirst ∷ LeftmostLongest ∷ []

abbrev pub start_kinds : List StartKind
start_kinds = Unanchored ∷ Anchored ∷ Both ∷ []

abbrev pub engines : List (Option AhoCorasickKind)
engines = None ∷ Some NoncontiguousNFA ∷ Some ContiguousNFA ∷ Some DFA ∷ []

abbrev pub flags : List Bool
flags = false ∷ true ∷ []

-- each number stands for something
abbrev pub names_settings : Options → Bool
names_settings options =
    nat_lt options.match_kind (length match_kinds)
    && nat_lt options.start_kind (length start_kinds)
    && nat_lt options.engine (length engines)
    && nat_lt options.ignore_case (length flags)
    && nat_lt options.prefilter (length flags)
    && nat_lt options.byte_classes (length flags)

-- the settings that they stand for
abbrev pub settings_by : Options → Settings
settings_by options = record {
  engine = record {
    kind = slice_index_or match_kinds options.match_kind Standard;
    ignores_case = slice_index_or flags options.ignore_case false;
    prefilter = slice_index_or flags options.prefilter false;
  };
  start_kind = slice_index_or start_kinds options.start_kind Unanchored;
  kind = slice_index_or engines options.engine None;
  dense_depth = options.dense_depth;
  byte_classes = slice_index_or flags options.byte_classes false;
}

-- what a searcher is, but for its memory, about which nothing is promised
pub record IsFactsOf (searcher : Searcher) (facts : Facts) : Type 0 where
  pub patterns : facts.patterns ≡ length searcher.built.patterns
  pub shortest : facts.shortest ≡ shortest_len searcher.built.patterns
  pub longest : facts.longest ≡ longest_len searcher.built.patterns
  pub engine : slice_get engines facts.engine ≡ Some (Some searcher.kind)
  pub match_kind : slice_get match_kinds facts.match_kind ≡ Some searcher.built.kind
  pub start_kind : slice_get start_kinds facts.start_kind ≡ Some searcher.built.start_kind
