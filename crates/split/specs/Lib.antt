pub mod Parts
pub mod Directory
pub mod Places
pub mod Plans
pub mod Single
pub mod Whole
