-- A batch may be split between questions: the demand on batches has the answers of whole questions in front of whatever comes after them.
use mathlib.Core.Path.{◌≡◌, sym, ap, ◌∙◌}
use mathlib.Core.List.{List, [], ◌∷◌, ◌++◌, map}
use Prim.Native.Nat.{ℕ}
use Rattle.answering.specs.Batch.{batch_of}
use Rattle.answering.specs.Pieces.{joined}
use Rattle.demands.proofs.BatchHolds.{batch}
use Rattle.existing.specs.Split.{EndsQuietly, AllEndQuietly, Split}

two : (first second : List ℕ) → EndsQuietly first → batch_of (first ++ second) ≡ batch_of first ++ batch_of second
two first second q =
    ap (λ (s : List ℕ). batch_of (s ++ second)) q.is
    ∙ batch.after q.questions second q.askable
    ∙ ap (λ (s : List ℕ). s ++ batch_of second) (sym (ap (λ (s : List ℕ). batch_of s) q.is ∙ batch.written q.questions q.askable))

many : (batches : List (List ℕ)) → AllEndQuietly batches → batch_of (joined batches) ≡ joined (map batch_of batches)
many [] q = batch.quiet_end
many (s ∷ batches) q = two s (joined batches) q.0 ∙ ap (λ (t : List ℕ). batch_of s ++ t) (many batches q.1)

pub split : Split
split = record { two = two; many = many }
