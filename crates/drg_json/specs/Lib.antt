pub mod Pieces
pub mod Lines
pub mod Tables
pub mod Certificates
pub mod Reports
pub mod Putting
