-- Laws that rest on definitions which a must-fail edit changes.
pub mod Calls
pub mod Ready
