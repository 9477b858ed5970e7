-- The laws of the slave's calls.
pub mod Again
pub mod Differs
pub mod Fits
pub mod Order
