-- What the calls of the archive promise.
pub mod Exports
