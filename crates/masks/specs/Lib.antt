-- What masks means: both masks and their calls, from paper 01, with their laws and worked examples.
pub mod Rows
pub mod Cover
pub mod Sad
pub mod Calls
pub mod Worked
