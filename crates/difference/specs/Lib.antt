-- What changed between two sheets (document 02, request 2), in reading order.
pub mod Records
pub mod Merge
pub mod Laid
pub mod Entered
pub mod Moves
pub mod Difference
pub mod Answers
