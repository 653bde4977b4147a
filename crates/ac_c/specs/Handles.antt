-- What a handle holds.
use Rattle.std.specs.Prelude.{◌≡◌, Option, None, Some, MatchOption}
use Rattle.ac_search.specs.PieceReplacements.{PieceReplacing}
use Rattle.ac_search.specs.Searchers.{Searcher}
use Rattle.ac_c.specs.declared.handle.held.Held.{Held}
use Rattle.ac_c.specs.Streams.{Feeding}

-- it holds a searcher of this kind, which has begun nothing
abbrev pub HoldsSearcher : Option Held → (Searcher → Type 0) → Type 0
HoldsSearcher held Is = MatchOption held ⊥ (λ h. Is h.searcher × (h.stream ≡ None) × (h.replacer ≡ None))

-- the search of a text in pieces that it holds, if it holds one
abbrev pub stream_in : Option Held → Option Feeding
stream_in None = None
stream_in (Some h) = h.stream

-- the replacement in a text in pieces that it holds, if it holds one
abbrev pub replacer_in : Option Held → Option PieceReplacing
replacer_in None = None
replacer_in (Some h) = h.replacer

-- there is one, which has changed so
pub record Changes {X : Type 0} (old : Option X) (So : X → X → Type 0) (new : Option X) : Type 0 where
  pub before : X
  pub was : old ≡ Some before
  pub after : X
  pub is : new ≡ Some after
  pub so : So before after

-- the search of a handle has, and nothing else
pub record ChangesIn (old : Option Held) (So : Feeding → Feeding → Type 0) (new : Option Held) : Type 0 where
  pub held : Held
  pub was : old ≡ Some held
  pub stream : Option Feeding
  pub is : new ≡ Some (record held { stream = stream })
  pub changes : Changes held.stream So stream

-- the replacement of a handle has, and nothing else
pub record ChangesReplacerIn (old : Option Held) (So : PieceReplacing → PieceReplacing → Type 0) (new : Option Held) : Type 0 where
  pub held : Held
  pub was : old ≡ Some held
  pub replacer : Option PieceReplacing
  pub is : new ≡ Some (record held { replacer = replacer })
  pub changes : Changes held.replacer So replacer
