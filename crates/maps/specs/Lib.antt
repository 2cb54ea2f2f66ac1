-- What maps means: the definitions of planes, averages, map and class from paper 01 and of the kept counts from paper 02, with their laws and worked examples.
pub mod Ready
pub mod Planes
pub mod Luma
pub mod Map
pub mod Class
pub mod Kept
pub mod Change
pub mod Worked
pub mod Again
