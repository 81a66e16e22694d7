pub mod Ranges
pub mod Places
pub mod Reached
pub mod Rows
pub mod SizeLaws
pub mod Filling
pub mod Views
pub mod FaultLaws
