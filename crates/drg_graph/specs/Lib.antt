pub mod Graph
pub mod Numbers
pub mod DistanceLaws
pub mod SizeLaws
pub mod RowLaws
pub mod ParityLaws
pub mod NumberLaws
pub mod Witness
