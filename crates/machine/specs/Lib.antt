-- The machine of paper 01, its layout in a session and its buffers, and demand 3; in Proof what its proof needs besides.
pub mod Call
pub mod Machine
pub mod Runs
pub mod Slots
pub mod Layout
pub mod Play
pub mod Whole
pub mod Proof
