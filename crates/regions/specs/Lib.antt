-- Definitions on the regions of a sheet (document 01, "The device sheet").
pub mod Region
pub mod Search
pub mod Apart
pub mod Denies
