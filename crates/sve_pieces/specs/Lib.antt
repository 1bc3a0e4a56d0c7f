pub mod SamePieces
