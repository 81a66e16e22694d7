pub mod Fields
mod Orthogonal
mod Recurrences
pub mod Sums
pub mod Frames
pub mod Spectra
pub mod Uniqueness
mod Filled
mod Items
mod Lists
mod FirstFaults
mod CosineRows
pub mod TableRows
mod Answering
mod Multiplicities
mod SquareSums
pub mod RecurrenceTests
mod ProductCells
mod FormulaFrames
mod FaultLaws
