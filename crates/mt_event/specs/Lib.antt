pub mod Asks
pub mod CompactAnswers
pub mod CompactEvents
pub mod CompactOps
pub mod Drives
pub mod Events
pub mod Reasons
pub mod Same
