mod Parses
mod Pieces
mod Plain
mod Readings
mod Shapes
mod Values
