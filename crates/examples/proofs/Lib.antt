pub mod LineCounts
pub mod MarkedPairs
pub mod TokenLemmas
pub mod LabelCounts
pub mod Tokenizing
