-- What only the proof of demand 3 uses: no contract and no statement cites it.
pub mod Sound
pub mod Undone
pub mod Built
