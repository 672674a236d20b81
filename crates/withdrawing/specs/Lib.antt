pub mod TakesOut
