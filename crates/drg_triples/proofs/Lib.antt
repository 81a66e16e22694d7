mod TypeLists
mod Answered
mod Lists
mod Weights
mod Steps
mod Solutions
mod FaultLaws
mod Graphs
