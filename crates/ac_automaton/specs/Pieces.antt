-- What a search does over a text that comes in pieces, each of which is handed to it.
use Rattle.std.specs.Prelude.{◌≡◌, ◌≢◌, ◌⊎◌, ℕ, ◌≤◌, ◌-◌, min, Bool, List, [], ◌∷◌, ◌++◌, Option, None, Some, drop, length}
use Rattle.ac_automaton.specs.Util.{Built, No, Occurrence, Standard, usize_max}
use Rattle.ac_automaton.specs.Automata.{AutomatonView}
use Rattle.ac_automaton.specs.Commits.{CommitsView, HasCommits}
use Rattle.ac_automaton.specs.declared.automaton.onward.ChainRest.{ChainRest}
use Rattle.ac_automaton.specs.StreamInside.{Inside, IsStreaming}
use Rattle.ac_automaton.specs.Streams.{GivesRead, KeepsGiven, Streaming, initial_stream, matches_so_far}
use Rattle.ac_automaton.specs.declared.automaton.stream_settled.Phase.{Phase}
use Rattle.ac_automaton.specs.declared.automaton.stream_settled.Phase.TheVariants.{Open, Ended, Failed}

-- a text of which nothing came. There is no buffer
abbrev pub no_pieces : Built → Streaming
no_pieces built = record (initial_stream built) { buffer = 0 }

-- some bytes of a piece were taken, as many as usize counts and none after the end, and these are left. The next match of all that was
-- taken was given, or none is settled, and then the piece was taken whole; the matches given before stay, and those given now
-- stay whatever follows. Under Standard all of them were given
pub record TakesOn (old : Streaming) (piece : List ℕ) (result : Option Occurrence) (new : Streaming) (left : List ℕ) : Type 0 where
  pub taken : List ℕ
  pub parted : piece ≡ taken ++ left
  pub closed : old.phase ≡ Ended → taken ≡ []
  pub kept : KeepsGiven old (old.bytes ++ taken)
  pub gives : GivesRead (record old { bytes = old.bytes ++ taken }) result new
  pub whole : result ≡ None → old.phase ≡ Open → (left ≡ []) ⊎ (length new.bytes ≡ usize_max)
  pub small : length new.bytes ≤ usize_max
  pub stays : new.phase ≡ Open → (more : List ℕ) → KeepsGiven new (new.bytes ++ more)
  pub all : new.built.kind ≡ Standard → new.given ≡ length (matches_so_far new)

-- how many bytes of a piece are taken at most, where so many came: all, as far as usize counts them, and none after the end
abbrev pub most_of : Phase → ℕ → ℕ → ℕ
most_of Open before len = min len (usize_max - before)
most_of phase before len = 0

-- the byte in hand, if there is one
abbrev pub hand_bytes : Option ℕ → List ℕ
hand_bytes None = []
hand_bytes (Some byte) = byte ∷ []

-- a search with these parts stands inside as one over a stream does whose buffer has all that came
abbrev pub inside_of : ℕ → Bool → ℕ → List ℕ → ℕ → ℕ → Option ChainRest → ℕ → Inside
inside_of start stops reserve bytes state read rest begun = record {
  start = start;
  stops = stops;
  reserve = reserve;
  buffer = bytes;
  filled = length bytes;
  state = state;
  at = read;
  rest = rest;
  begun = begun;
}

-- it has followed all of that but the byte in hand, which leads to the dead node. So under Standard there is none, and all matches
-- were given
pub record IsFed (a : AutomatonView) (c : CommitsView) (i : Inside) (byte : Option ℕ) (v : Streaming) : Type 0 where
  pub commits : HasCommits a c
  pub streams : IsStreaming (a.stands No) c.chains i v
  pub unfailed : v.phase ≢ Failed
  pub followed : drop i.at v.bytes ≡ hand_bytes byte
  pub empty : v.built.kind ≡ Standard → byte ≡ None
  pub all : v.built.kind ≡ Standard → v.given ≡ length (matches_so_far v)
