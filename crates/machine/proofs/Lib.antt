-- The laws of the machine.
pub mod Picks
pub mod Nexts
pub mod Alike
