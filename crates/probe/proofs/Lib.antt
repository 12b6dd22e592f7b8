-- Laws of the answer buffer.
pub mod Words
