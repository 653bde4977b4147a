-- Machine values and ghost steps of `Handle`, `RawBox` and `Reader`, and why they may cross threads, for the proofs by hand in
-- `handle` and `reader`.
pub mod Crosses
pub mod Held
pub mod HandleValues
pub mod RawBoxValues
pub mod ReaderParts
pub mod HeldLaws
