pub mod Numbers
pub mod FirstNumbers
pub mod Fits
pub mod Faults
pub mod Table
pub mod Laws
