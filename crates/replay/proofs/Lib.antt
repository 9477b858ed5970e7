-- The laws of the replay.
pub mod Faults
pub mod Forms
pub mod Handed
pub mod HandedAt
pub mod Steps
pub mod Plays
