-- Laws that rest on definitions which a must-fail edit changes.
pub mod Read
pub mod Runs
pub mod Slots
