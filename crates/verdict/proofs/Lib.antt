mod Digit
mod Parts
mod Pieces
