-- Definitions of the PDU of both types (002, 4.3.1 and 4.3.3; document 01, "One exchange"; requests 7 and 13), in reading order.
pub mod Places
pub mod Fields
pub mod Fielded
pub mod Head
pub mod Body
pub mod Unnamed
pub mod Clear
