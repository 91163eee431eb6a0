pub mod lemmas
mod LeafLaws
mod Nodes
mod Changes
mod Steps
mod Forks
mod Splits
mod Spreads
mod Space
mod Taking
mod Insertions
mod Clears
