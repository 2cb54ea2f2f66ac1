-- A vector record, its shape and its sets of entries, as definitions with their laws, and a row of paper 01's 'Proved table'.
pub mod Bytes
pub mod Numbers
pub mod Refusals
pub mod Data
pub mod Shape
pub mod Entries
pub mod Checks
pub mod Update
pub mod Worked
