mod Anew
mod Listed
mod NameLaws
mod Pieces
mod Runs
mod Sums
mod Texts
mod Zeros
