pub mod Table
pub mod Linear
pub mod Joined
pub mod Fits
