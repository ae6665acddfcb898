mod Adding
mod Crossing
mod Turns
pub use Rattle.locked_book.proofs.cited as of_book
