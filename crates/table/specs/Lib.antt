pub mod Choices
pub mod Entries
pub mod Faults
pub mod Lent
pub mod Store
