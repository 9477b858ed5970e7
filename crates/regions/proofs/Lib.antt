-- The laws of the regions.
pub mod Apart
pub mod Bounds
pub mod Listed
pub mod Turns
pub mod Spans
pub mod Passing
pub mod Kept
pub mod Places
pub mod Placed
