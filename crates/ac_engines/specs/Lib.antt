-- What is seen of the engines that are built from a noncontiguous NFA.
pub mod Commits
pub mod Contiguous
pub mod Dfa
pub mod Listed
pub mod Prelude
