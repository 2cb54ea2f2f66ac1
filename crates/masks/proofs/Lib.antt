-- What the proofs of masks share beside each function's own.
pub mod Reading
pub mod Laws
