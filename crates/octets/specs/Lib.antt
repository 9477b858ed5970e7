-- Definitions on octets that everything above cites.
pub mod Pick
pub mod Numbers
pub mod Parts
