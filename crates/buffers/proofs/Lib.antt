-- What the proofs of editing and rebuilding cite.
pub mod Made
