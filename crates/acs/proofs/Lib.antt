pub mod ModeEnds
pub mod PairLimits
pub mod Pairs
pub mod Printing
pub mod Reading
pub mod Results
pub mod Serving
pub mod Streaming
