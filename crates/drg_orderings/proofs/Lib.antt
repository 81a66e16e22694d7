pub mod Pigeons
pub mod Places
pub mod Taken
pub mod Beginnings
pub mod Found
pub mod Pairs
pub mod NaturalOrder
pub mod FirstIndex
