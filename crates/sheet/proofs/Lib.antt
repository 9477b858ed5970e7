-- The laws of the device sheet.
pub mod Picks
pub mod Known
pub mod Sought
pub mod Judged
pub mod Steps
pub mod Onward
pub mod Told
pub mod Walked
pub mod Valid
