-- The laws of the definitions on octets.
pub mod Pick
pub mod Cases
pub mod Numbers
pub mod Overlaid
pub mod Parts
