pub mod LiveTypes
pub mod Counting
pub mod Faults
pub mod Laws
