mod Pieces
mod Plans
mod Outs
