-- Where the tiles of a body and the items of a draft stand, and where labels lead.
pub mod ItemTiles
pub mod PieceItems
pub mod Walk
pub mod Placed
pub mod Labels
pub mod Resolved
pub mod Branches
