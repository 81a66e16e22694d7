pub mod Places
pub mod TripleNumbers
pub mod Laws
