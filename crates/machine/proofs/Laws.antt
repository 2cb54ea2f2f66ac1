-- Laws of the machine, of the calls beside it, and what only the proof of demand 3 uses.
pub mod Machine
pub mod Play
pub mod Runs
pub mod Slots
pub mod Whole
pub mod Accepted
pub mod Sound
pub mod Undone
pub mod Built
pub mod Edited
pub mod Numbers
pub mod Laid
