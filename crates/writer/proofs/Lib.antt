mod Answers
mod Pieces
mod WholeRecord
