-- Definitions on traces (document 02, request 6).
pub mod Answers
pub mod Trace
pub mod Replay
