pub mod Asking
pub mod Faults
pub mod Lists
pub mod Notices
pub mod Scopes
