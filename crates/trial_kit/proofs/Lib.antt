-- Lemmas of the kit's proofs.
pub mod Found
