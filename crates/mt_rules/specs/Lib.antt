pub mod Member
pub mod Places
pub mod Read
pub mod Rules
pub mod Values
pub mod Walk
pub mod Written
