pub mod Split
pub mod Filled
pub mod Sections
pub mod Changed
pub mod Walks
