-- An engine answers for a searcher that supports some of its starts.
use Rattle.ac_util.proofs.Prelude.{◌≡◌, sym, ◌∙◌, Some, None, ◌⊎◌, Result, Ok, Err, MatchResult, arith, rules, common_steps}
use Rattle.ac_search.specs.Prelude.{AnswersUnless, Both, find_refusal, MatchError, No, overlapping_refusal, start_refusal, StartKind, stream_refusal, OverlappingState, GivesNext, Streaming, initial_stream, Engine, built_of, searcher_of, states_of, Supports, Searcher, listed_in, stands_in, HasBegun, HasBegunInPieces, HasBegunPieceListing, no_pieces, nothing_listed, PieceListing, piece_listing_refusal}
use Rattle.ac_automaton.specs.Util.{InputView, Built, search_in}

-- a find or a walk is refused for its start alone
find-refusal : (built : Built) (input : InputView)
    → find_refusal built input ≡ start_refusal built.start_kind input.anchored
find-refusal built input = grind (arith, common_steps)

module _ (engine : Built) (start_kind : StartKind) (input : InputView)
    (supports : (engine.start_kind ≡ Both) ⊎ (engine.start_kind ≡ start_kind))
    (free : start_refusal start_kind input.anchored ≡ None) where
  -- the engine has the start
  pub unrefused : find_refusal engine input ≡ None
  unrefused = grind (arith, common_steps)

  -- so its answer is the searcher's
  pub served : {T : Type 0} (r : Result T MatchError) (x : T)
      → AnswersUnless (find_refusal engine input) x r
      → AnswersUnless (find_refusal (record engine { start_kind = start_kind }) input) x r
  served (Ok y) x h = (find-refusal (record engine { start_kind = start_kind }) input ∙ free, h.1)
  served (Err e) x h = absurd (let none : None ≡ Some e = sym unrefused ∙ h in cc)

-- so an engine refuses a stream as its searcher does
pub stream-refusals : (engine : Built) (start_kind : StartKind)
    → (engine.start_kind ≡ Both) ⊎ (engine.start_kind ≡ start_kind) → start_refusal start_kind No ≡ None
    → stream_refusal (record engine { start_kind = start_kind }) ≡ stream_refusal engine
stream-refusals engine start_kind supports free = grind (arith, common_steps)

-- so the search of a stream by an engine begins as that of its searcher
pub stream-served : (engine : Built) (start_kind : StartKind)
    → (engine.start_kind ≡ Both) ⊎ (engine.start_kind ≡ start_kind) → start_refusal start_kind No ≡ None
    → (finder : Streaming) → stream_refusal engine ≡ None → finder ≡ initial_stream engine
    → (stream_refusal (record engine { start_kind = start_kind }) ≡ None)
    × HasBegun (record engine { start_kind = start_kind }) finder
stream-served engine start_kind supports free finder none begun = grind (arith, common_steps)

-- and that of a text in pieces
pub pieces-served : (engine : Built) (start_kind : StartKind)
    → (engine.start_kind ≡ Both) ⊎ (engine.start_kind ≡ start_kind) → start_refusal start_kind No ≡ None
    → (finder : Streaming) → stream_refusal engine ≡ None → finder ≡ no_pieces engine
    → (stream_refusal (record engine { start_kind = start_kind }) ≡ None)
    × HasBegunInPieces (record engine { start_kind = start_kind }) finder
pieces-served engine start_kind supports free finder none begun = grind (arith, common_steps)

-- so is the listing of such a text
pub piece-listing-served : (engine : Built) (start_kind : StartKind)
    → (engine.start_kind ≡ Both) ⊎ (engine.start_kind ≡ start_kind) → start_refusal start_kind No ≡ None
    → (finder : PieceListing) → piece_listing_refusal engine ≡ None → finder ≡ nothing_listed engine
    → (piece_listing_refusal (record engine { start_kind = start_kind }) ≡ None)
    × HasBegunPieceListing (record engine { start_kind = start_kind }) finder
piece-listing-served engine start_kind supports free finder none begun = grind (arith, common_steps)

-- so the item that it gives of a listing is that of its searcher
module _ {Z : Type 0} (engine : Engine Z) (start_kind : StartKind) (input : InputView) (supports : Supports engine start_kind)
    (free : start_refusal start_kind input.anchored ≡ None) (state new_state : OverlappingState) where
  abbrev searcher : Searcher
  searcher = searcher_of engine start_kind

  refusals : overlapping_refusal searcher.built input ≡ overlapping_refusal (built_of engine) input
  refusals = grind (arith, common_steps)

  pub item-served : (r : Result (Unit {0}) MatchError)
      → MatchResult r (λ _. (overlapping_refusal (built_of engine) input ≡ None)
      × GivesNext (stands_in (states_of engine) input.anchored) (listed_in (states_of engine)) (built_of engine).kind
      (search_in (built_of engine) input) state new_state)
      (λ e. (overlapping_refusal (built_of engine) input ≡ Some e) × (new_state ≡ state))
      → MatchResult r (λ _. (overlapping_refusal searcher.built input ≡ None)
      × GivesNext (stands_in searcher.states input.anchored) (listed_in searcher.states) searcher.built.kind
      (search_in searcher.built input) state new_state)
      (λ e. (overlapping_refusal searcher.built input ≡ Some e) × (new_state ≡ state))
  item-served (Ok done) h = search (rules, refusals)
  item-served (Err e) h = (refusals ∙ h.0, h.1)
