-- What is seen of the last bytes of a text that comes in pieces.
use Rattle.std.specs.Prelude.{◌≡◌, ℕ, ◌-◌, ◌≤◌, List, [], drop, length, slice_range, take}

-- the bytes; where in the text they begin; and how many there is room for
pub record WindowView : Type 0 where
  pub bytes : List ℕ
  pub front : ℕ
  pub size : ℕ

-- so many bytes of a buffer, from an offset of the text on
abbrev pub window_by : List ℕ → ℕ → ℕ → WindowView
window_by buffer filled front = record { bytes = take filled buffer; front = front; size = length buffer }

-- nothing came yet
abbrev pub clear_window : ℕ → WindowView
clear_window size = record { bytes = []; front = 0; size = size }

-- the bytes of the text from one offset up to another
abbrev pub shown : WindowView → ℕ → ℕ → List ℕ
shown w from to = slice_range w.bytes (from - w.front) (to - w.front)

-- bytes before an offset were dropped
pub record HasMadeRoom (old : WindowView) (kept : ℕ) (new : WindowView) : Type 0 where
  pub onward : old.front ≤ new.front
  pub before : new.front ≤ kept
  pub bytes : new.bytes ≡ drop (new.front - old.front) old.bytes
  pub size : new.size ≡ old.size
