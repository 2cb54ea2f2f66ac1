-- The scatter of a set at a time: a block at that time, its cells and products, the grid they make, and two rows of paper 01's 'Proved table'.
pub mod Block
pub mod Cells
pub mod Added
pub mod Grid
pub mod Geometry
pub mod Worked
