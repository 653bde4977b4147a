-- The lemmas of numbers, texts, finds, walks and listings, and those of the proofs by hand (`Ownership`).
pub mod BatchStarts
pub mod FewAtEnd
pub mod FoundLemmas
pub mod LateListings
pub mod ListLemmas
pub mod ListingBatches
pub mod ListingStarts
pub mod ListingSteps
pub mod NumberLemmas
pub mod Ownership
pub mod StreamSteps
pub mod TextLemmas
pub mod WalkEnds
pub mod WalkSteps
