-- What reading promises of the reader (document 02, One).
use Rattle.std.specs.Prelude.{◌≡◌, List, ℕ, Result as Outcome}
use Rattle.text.specs.declared.TextRefusal.{TextRefusal}
use Rattle.text.specs.Reads.{Reads}
use Rattle.reader.specs.declared.Reader.{Reader}

-- the reader keeps its text, and what reading that from its place on promises holds, with the place where the reader then is
pub record Moves (was : Reader) (before : List ℕ) (outcome : Outcome ℕ TextRefusal) (is : Reader) (after : List ℕ) : Type 0 where
  pub text : is.text ≡ was.text
  pub reads : Reads was.text.now was.at before (record { outcome = outcome; at = is.at }) after
