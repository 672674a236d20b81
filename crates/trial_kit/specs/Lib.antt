-- Definitions that the kit's contracts cite.
pub mod Marks
pub mod Texts
pub mod Seeds
pub mod Slots
pub mod Tallies
