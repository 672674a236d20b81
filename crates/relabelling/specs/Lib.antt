pub mod Relabelled
