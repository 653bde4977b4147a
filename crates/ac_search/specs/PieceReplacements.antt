-- What a replacement of a text that comes in pieces does.
use Rattle.std.specs.Prelude.{◌≡◌, ◌≢◌, ◌⊎◌, ℕ, ◌+◌, ◌-◌, ◌*◌, ◌<◌, ◌≤◌, Bool, true, false, List, [], ◌++◌, Option, None, Some, IfSome, drop, length, min, slice_index_or, slice_range, take}
use Rattle.ac_automaton.specs.Util.{Built, IsAllSettled, StartKind, has_empty, longest_len, stream_result, usize_max}
use Rattle.ac_util.specs.Replacement.{replaced}
use Rattle.ac_util.specs.Stream.{exchanged_to, text_of}
use Rattle.ac_util.specs.StreamCuts.{StaysApart}
use Rattle.ac_automaton.specs.Pieces.{no_pieces}
use Rattle.ac_automaton.specs.Streams.{IsAllGiven, Streaming}
use Rattle.ac_automaton.specs.declared.automaton.stream_settled.Phase.{Phase}
use Rattle.ac_automaton.specs.declared.automaton.stream_settled.Phase.TheVariants.{Open, Ended, Failed}
use Rattle.ac_search.specs.Searchers.{with_start}
use Rattle.ac_search.specs.Windows.{WindowView}
use Rattle.ac_search.specs.declared.ahocorasick.piece_replacer.Due.{Due}
use Rattle.ac_search.specs.declared.ahocorasick.piece_replacer.DueText.{DueText}

-- the search of the text, and the texts that replace its matches; all bytes that were written, and those that are due: they are settled
-- and follow
pub record PieceReplacing : Type 0 where
  pub text : Streaming
  pub texts : List (List ℕ)
  pub written : List ℕ
  pub due : List ℕ

-- one with these parts, in this order
abbrev pub replacing_by : Streaming → List (List ℕ) → List ℕ → List ℕ → PieceReplacing
replacing_by text texts written due = record { text = text; texts = texts; written = written; due = due }

-- nothing came yet, for what a searcher was built from; but its engine may have more starts
abbrev pub HasBegunToReplace : Built → List (List ℕ) → PieceReplacing → Type 0
HasBegunToReplace built texts v = (start : StartKind) × (v ≡ replacing_by (no_pieces (with_start built start)) texts [] [])

-- whether nothing follows
abbrev pub is_closed : Phase → Bool
is_closed Open = false
is_closed Ended = true
is_closed Failed = true

-- a text with its matches replaced
abbrev pub replaced_text : PieceReplacing → List ℕ → List ℕ
replaced_text v bytes = replaced bytes v.texts (stream_result v.text.built bytes)

-- the replaced text of all that was taken, as far as an offset by so many of its matches
abbrev pub replaced_to : PieceReplacing → ℕ → ℕ → List ℕ
replaced_to v given place = exchanged_to v.text.built (text_of v.texts) v.text.bytes given place

-- all of the replaced text that is settled was written: all of it once nothing follows
abbrev pub IsAllReplaced : Phase → PieceReplacing → Type 0
IsAllReplaced Open v =
    (given place : ℕ) × IsAllSettled v.text.built v.text.bytes given place × (v.written ≡ replaced_to v given place)
IsAllReplaced Ended v = v.written ≡ replaced_text v v.text.bytes
IsAllReplaced Failed v = ⊥

-- what was written begins the replaced text of all that was taken and what may follow
abbrev pub BeginsReplaced : PieceReplacing → Type 0
BeginsReplaced v =
    (more : List ℕ) → (v.text.phase ≡ Ended → more ≡ [])
    → (rest : List ℕ) × (v.written ++ rest ≡ replaced_text v (v.text.bytes ++ more))

-- the same replacement has gone on by these bytes
abbrev pub gone_on : PieceReplacing → List ℕ → PieceReplacing → PieceReplacing
gone_on old taken new = record old {
  text = record old.text { bytes = old.text.bytes ++ taken; given = new.text.given; kept = new.text.kept };
  written = new.written;
  due = new.due;
}

-- bytes of a piece were taken, as many as usize counts and none after the end, and so many bytes were written to the beginning of
-- `out`. Fewer than it has room for were written only where the piece was taken whole and all that is settled was written
pub record TakesAndReplaces (old : PieceReplacing) (piece out new_out : List ℕ) (filled : ℕ) (new : PieceReplacing) (left : List ℕ)
    : Type 0 where
  pub taken : List ℕ
  pub parted : piece ≡ taken ++ left
  pub closed : old.text.phase ≡ Ended → taken ≡ []
  pub same : new ≡ gone_on old taken new
  pub written : new.written ≡ old.written ++ take filled new_out
  pub fits : filled ≤ length out
  pub stays : drop filled new_out ≡ drop filled out
  pub begins : BeginsReplaced new
  pub all : filled < length out → IsAllReplaced new.text.phase new
  pub whole : filled < length out → old.text.phase ≡ Open → (left ≡ []) ⊎ (length new.text.bytes ≡ usize_max)
  pub small : length new.text.bytes ≤ usize_max

-- what was written and what is due are the replaced text as far as the search has come, and stay so whatever follows
pub record IsReplacedSoFar (v : PieceReplacing) : Type 0 where
  pub goes_on : v.text.phase ≢ Failed
  pub small : length v.text.bytes ≤ usize_max
  pub is : v.written ++ v.due ≡ replaced_to v v.text.given v.text.kept
  pub apart : (more : List ℕ) → (v.text.phase ≡ Ended → more ≡ [])
      → StaysApart v.text.built v.text.bytes more v.text.given v.text.kept

-- what is left of the text of a match
abbrev pub due_text : List (List ℕ) → Option DueText → List ℕ
due_text texts None = []
due_text texts (Some t) = drop t.at (slice_index_or texts t.number [])

-- bytes of the text, and then what is left of the text of a match
abbrev pub due_bytes : List ℕ → List (List ℕ) → Due → List ℕ
due_bytes bytes texts due = slice_range bytes due.from due.to ++ due_text texts due.text

-- what is left once so many bytes of the text were written, and so many of the text of the match
abbrev pub text_after : Option DueText → ℕ → Option DueText
text_after None count = None
text_after (Some t) count = Some (record t { at = t.at + count })

abbrev pub due_after : Due → ℕ → ℕ → Due
due_after due gap count = record due { from = due.from + gap; text = text_after due.text count }

-- a text is one of the list, and its offset lies in it
abbrev pub IsDueFrom : List (List ℕ) → DueText → Type 0
IsDueFrom texts t = (t.number < length texts) × (t.at ≤ length (slice_index_or texts t.number []))

-- a window shows all that is still needed of the text: what is due, and what the search may still need; and it has room for more once
-- all that is settled was written
pub record IsInWindow (v : PieceReplacing) (w : WindowView) (due : Due) : Type 0 where
  pub shows : w.bytes ≡ drop w.front v.text.bytes
  pub begins : w.front ≤ due.from
  pub ordered : due.from ≤ due.to
  pub before : due.to ≤ v.text.kept
  pub text : IfSome due.text (IsDueFrom v.texts)
  pub fits : longest_len v.text.built.patterns < w.size

-- inside, where it is known whether something may follow
pub record IsReplacing (v : PieceReplacing) (w : WindowView) (due : Due) (ended : Bool) : Type 0 where
  pub closed : ended ≡ is_closed v.text.phase
  pub served : has_empty v.text.built ≡ false
  pub many : length v.texts ≡ length v.text.built.patterns
  pub window : IsInWindow v w due
  pub so_far : IsReplacedSoFar v

-- as much of what is due as there is room for was written
pub record WritesDue (old : PieceReplacing) (out new_out : List ℕ) (filled : ℕ) (new : PieceReplacing) : Type 0 where
  pub least : filled ≡ min (length old.due) (length out)
  pub copied : new_out ≡ take filled old.due ++ drop filled out
  pub same : new ≡ record old { written = old.written ++ take filled old.due; due = drop filled old.due }

-- how many steps may follow at most
abbrev pub steps_left : PieceReplacing → List ℕ → ℕ
steps_left v left = (usize_max - v.text.given) + 2 * length left + (length v.text.bytes - v.text.kept)

-- some bytes of a piece were taken, and what is due was found, or how far the text is settled; or nothing is left to do
pub record TakesSome (old : PieceReplacing) (piece : List ℕ) (goes_on : Bool) (new : PieceReplacing) (left : List ℕ) : Type 0 where
  pub taken : List ℕ
  pub parted : piece ≡ taken ++ left
  pub closed : old.text.phase ≡ Ended → taken ≡ []
  pub same : new ≡ gone_on old taken new
  pub written : new.written ≡ old.written
  pub small : length new.text.bytes ≤ usize_max
  pub less : goes_on ≡ true → steps_left new left < steps_left old piece
  pub clear : goes_on ≡ false → new.due ≡ []
  pub all : goes_on ≡ false → IsAllGiven new.text
  pub whole : goes_on ≡ false → old.text.phase ≡ Open → (left ≡ []) ⊎ (length new.text.bytes ≡ usize_max)
