-- What a test implies, in a file of this name for the crates that cite it.
pub use Rattle.judy_model.proofs.lemmas.TestLemmas.{and_left, and_right, is_Equal}
