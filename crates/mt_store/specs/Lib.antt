pub mod Log
pub mod Pages
pub mod Segments
