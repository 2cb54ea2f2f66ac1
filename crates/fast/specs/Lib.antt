-- What the fast row works with: reciprocals, shifts, lanes, and products held back.
pub mod Reciprocal
pub mod Power
pub mod Condition
pub mod Held
pub mod Lanes
pub mod Corner
pub mod Row
