pub mod Meaning
pub mod Single
pub mod Pair
pub mod Levels
pub mod Singles
pub mod Both
pub mod Bounds
pub mod Pairs
