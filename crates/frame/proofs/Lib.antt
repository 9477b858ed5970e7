-- The laws of the PDU of both types: a proof above uses these, and no text of a definition here.
pub mod Numbers
pub mod Named
pub mod Rooms
pub mod Kept
pub mod Bodies
pub mod Replies
pub mod Alike
pub mod Strays
pub mod Names
pub mod Clear
