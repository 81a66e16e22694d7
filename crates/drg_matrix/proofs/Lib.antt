mod Cells
mod Filling
mod Products
mod Inverses
mod KreinProofs
mod Complete
