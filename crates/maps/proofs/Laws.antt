-- Laws that proofs of several functions share; some rest on definitions which a must-fail edit changes.
pub mod Class
pub mod Kept
pub mod Map
