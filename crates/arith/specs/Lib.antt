-- The arithmetic that every crate reasons with: booleans, integers and naturals, signed machine integers, floors, wrapping, and lists filled by loops.
pub mod Booleans
pub mod Integers
pub mod Signed
pub mod Floor
pub mod Wrap
pub mod Splice
pub mod Tabulate
pub mod Filling
