-- What proofs of several functions use.
pub mod Same
pub mod Laid
pub mod Moves
pub mod Bounds
pub mod Steps
pub mod Passes
