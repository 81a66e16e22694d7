pub mod Places
pub mod Triples
