-- What the proofs of runs share beside each function's own.
pub mod Laws
