pub mod Ends
pub mod Made
pub mod Writable
