-- Definitions of the device sheet (document 01, "The device sheet"), in reading order.
pub mod Entries
pub mod Faults
pub mod Told
pub mod Kinds
pub mod Judging
pub mod Reading
pub mod Walk
pub mod Handed
pub mod Sound
