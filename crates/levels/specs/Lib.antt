-- What levels means: the mask settings and the level bytes, from paper 01, with their laws.
pub mod Level
