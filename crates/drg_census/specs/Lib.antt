pub mod Census
pub mod Begins
pub mod Members
pub mod Laws
pub mod Classical
pub mod ClassicalWork
pub mod ClassicalRows
pub mod Rows
