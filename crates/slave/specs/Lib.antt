-- Definitions of the slave's calls (document 01, "What each call tells"), in reading order.
pub mod Answers
pub mod Calls
pub mod Exchange
pub mod Wanted
