pub mod Orderings
pub mod PPolynomial
pub mod QPolynomial
pub mod Search
pub mod Laws
