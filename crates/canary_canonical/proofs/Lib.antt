pub mod Items
mod Members
mod Values
mod Kept
pub mod Regular
mod Limits
mod PlainData
mod Backwards
mod Canonicals
mod Pieces
mod Rows
