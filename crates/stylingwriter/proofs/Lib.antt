pub mod StyleWrites
pub mod PieceWrites
