pub mod Multiplicities
pub mod KreinSigns
pub mod Signs
pub mod AbsoluteBound
pub mod AbsoluteFits
pub mod Totals
