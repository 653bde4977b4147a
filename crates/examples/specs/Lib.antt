-- What the callers are to do.
pub mod Callers
