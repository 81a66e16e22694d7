pub mod Table
pub mod Product
pub mod Filling
pub mod Frame
pub mod Krein
pub mod Laws
pub mod Examples
