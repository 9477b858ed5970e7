-- That they promise it.
pub mod Exports
