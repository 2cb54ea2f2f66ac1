-- The laws of the machine, and the proof of demand 3.
pub mod Laws
