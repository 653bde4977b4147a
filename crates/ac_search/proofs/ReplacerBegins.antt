-- A replacement of a text in pieces begins.
use Rattle.ac_util.proofs.Prelude.{◌≡◌, ℕ, ◌*◌, ◌<◌, false, List, [], ◌∷◌, length, max, min, refl, arith, None, drop}
use Rattle.ac_util.specs.Prelude.{Occurrence, StartFrom, longest_len, stream_result}
use Rattle.ac_util.specs.Built.{Built, has_empty, stream_refusal}
use Rattle.ac_util.specs.Patterns.{usize_max}
use Rattle.ac_automaton.specs.Pieces.{no_pieces}
use Rattle.ac_automaton.specs.Streams.{Streaming}
use Rattle.ac_automaton.proofs.StreamRefusals.{allowed-some}
use Rattle.ac_search.specs.PieceReplacements.{IsReplacedSoFar, IsReplacing, replacing_by}
use Rattle.ac_search.specs.Searchers.{HasBegunInPieces, with_start}
use Rattle.ac_search.specs.Windows.{WindowView, clear_window}
use Rattle.ac_search.proofs.PieceReplacerSteps.{due-of-gap}

-- every match starts at 0 or later
starts-late : (ms : List Occurrence) → StartFrom 0 ms
starts-late [] = tt
starts-late (m ∷ ms) = omega arith

module _ (built : Built) (texts : List (List ℕ)) where
  so-far-none : IsReplacedSoFar (replacing_by (no_pieces built) texts [] [])
  so-far-none = record {
    goes_on = λ failed. absurd (cc);
    small = omega arith;
    is = refl;
    apart = λ more ends. (refl, record { within = omega arith; last = omega arith; starts = starts-late (drop 0 (stream_result built more)) });
  }

  replacing-none : (size : ℕ) → has_empty built ≡ false → length texts ≡ length built.patterns → longest_len built.patterns < size
      → IsReplacing (replacing_by (no_pieces built) texts [] []) (clear_window size) (due-of-gap 0 0) false
  replacing-none size served many fits = record {
    closed = refl;
    served = served;
    many = many;
    window = record { shows = refl; begins = omega arith; ordered = omega arith; before = omega arith; text = tt; fits = fits };
    so_far = so-far-none;
  }

-- with these parts
pub replacing-begins : (built : Built) {text : Streaming} {these texts : List (List ℕ)} {written : List ℕ} {w : WindowView} {longest size : ℕ}
    → HasBegunInPieces built text → stream_refusal built ≡ None → texts ≡ these → length these ≡ length built.patterns → written ≡ []
    → w ≡ clear_window size → size ≡ max 65536 (min usize_max (8 * longest)) → longest ≡ longest_len built.patterns
    → size < 9223372036854775808 → IsReplacing (replacing_by text texts written []) w (due-of-gap 0 0) false
replacing-begins built {text} {these} {texts} {written} {w} {longest} {size} begun served texts-are many none is size-is longest-is small =
    rw (begun.1, texts-are, none, is) (replacing-none (with_start built begun.0) these size (allowed-some built served) many (omega arith))
