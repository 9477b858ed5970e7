-- Definitions of the machine (document 01, "One exchange"), in reading order.
pub mod Codes
pub mod Judgements
pub mod Spans
pub mod Connecting
pub mod Judging
pub mod Outcomes
