-- The laws of the link state.
pub mod Facts
pub mod Keeps
pub mod Back
