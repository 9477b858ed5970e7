-- Definitions of the link state and its record (document 01, "The state record"), in reading order.
pub mod Steps
pub mod Valid
pub mod Stored
pub mod Old
