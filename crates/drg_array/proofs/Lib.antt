pub mod EntryLemmas
pub mod NumberLaws
pub mod SizeSigns
mod Steps
mod Takes
mod Prefixes
mod Begins
mod KindLaws
mod FaultLaws
mod TextLaws
pub mod TestLaws
mod TestListLaws
pub mod ClaimLaws
pub mod TestTexts
mod Told
mod ConditionProofs
mod ExampleProofs
mod Appends
