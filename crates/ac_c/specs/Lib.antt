-- Words of the exports' contracts: settings by number, texts, what is asked and answered, and the statuses. `Steps` has
-- those of private functions, and `Ownership` what a handle and a reader own.
pub mod Batches
pub mod Handles
pub mod Opens
pub mod Ownership
pub mod Replacers
pub mod Replaces
pub mod Searches
pub mod Settings
pub mod Statuses
pub mod StreamCalls
pub mod Steps
pub mod Streams
pub mod Texts
