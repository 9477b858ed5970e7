-- What a C host is told.
pub mod Packed
