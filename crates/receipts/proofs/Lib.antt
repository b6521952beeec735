-- Laws of the receipt and of the answer for a square.
pub mod Receipts
pub mod Answers
