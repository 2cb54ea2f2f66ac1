-- Commands, and the calls that they ask for.
pub mod Commands
