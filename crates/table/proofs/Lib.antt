pub mod Wholes
pub mod InBytes
pub mod Spared
