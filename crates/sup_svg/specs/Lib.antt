pub mod Escapes
pub mod Grids
pub mod Pieces
pub mod Svg
