pub mod Advance
pub mod Faults
pub mod Follows
pub mod Loops
pub mod Puts
pub mod Sources
pub mod Streams
