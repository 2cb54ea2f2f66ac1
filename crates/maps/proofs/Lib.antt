-- What the proofs of maps share beside each function's own.
pub mod Filled
pub mod Laws
pub mod Reading
