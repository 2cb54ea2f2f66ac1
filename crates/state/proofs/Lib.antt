-- What the proofs of state share beside each function's own.
pub mod Laws
pub mod Ended
