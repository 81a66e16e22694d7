pub mod Parts
pub mod Sums
pub mod Shortcuts
pub mod Texts
pub mod Fields
