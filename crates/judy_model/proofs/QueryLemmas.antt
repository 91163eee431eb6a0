-- The comparisons of words, in a file of this name for the crates that cite it.
pub use Rattle.judy_model.proofs.lemmas.WordLemmas.{is_ge-words, is_gt-words, is_le-words, is_lt-words, le-test, lt-test, le-not}
pub use Rattle.judy_model.proofs.lemmas.WordLemmas.{lt-not, end_of_run_from, head_of-filter, first-words, next-words, last-words}
pub use Rattle.judy_model.proofs.lemmas.WordLemmas.{prev-words}
