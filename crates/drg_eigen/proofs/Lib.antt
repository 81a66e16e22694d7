pub mod Christoffel
pub mod PolynomialValues
pub mod SimpleFactors
pub mod ArrayFactors
pub mod Division
pub mod Irreducible
pub mod FactorProducts
mod Quotients
mod Numerators
mod FullProducts
pub mod Coefficients
mod Ranges
mod Formula
mod OneCause
mod ExampleProofs
mod FullExampleProofs
mod FactorOrder
mod Discriminants
mod SmallNumbers
mod Members
mod FallingNumbers
mod Searches
mod Trials
mod FactorValues
mod Cancelling
mod OneSearch
mod SquareParts
mod RootFields
mod FactorLists
mod RootValues
mod RootLists
mod SortedRoots
mod SplitTrials
mod SplitAnswers
mod OneSplitFault
pub mod OneSplit
mod SimpleProducts
mod MadePolynomials
mod SumTrials
mod LinearTrials
mod QuadraticTrials
