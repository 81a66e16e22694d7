mod FirstFailures
mod Segments
mod RunningSums
mod MultiplicitySums
mod BoundSigns
mod IndexOrders
