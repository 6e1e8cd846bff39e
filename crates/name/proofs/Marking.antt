-- What marking octets tells of them, in an array that was 0: a fault, or a name, whose labels' places then stand at the array's front
-- (`marked_array`).
use mathlib.Core.Path.{◌≡◌, ap, ◌∙◌}
use mathlib.Core.List.{List}
use Prim.Native.Nat.{ℕ, ◌-◌, ◌≤◌}
use native.Mathlib.Nat.{zero-add}
use native.Mathlib.Omega.{arith}
use lib.ListN.{length, take, replicate}
use lib.Seq.{sets-eq, length-sets, take-append_seam}
use Rattle.name.specs.declared.Fault.{Fault}
use Rattle.std.specs.Prelude.{Ok, Err, Result as Outcome}
use Rattle.name.specs.Wire.{reading_of}
use Rattle.name.specs.Starts.{starts_of}
use Rattle.name.specs.Check.{in_array}
use Rattle.name.specs.Private.Marks.{Starts, Notes, Stops, Marks}
use Rattle.name.proofs.Answers.{array_front}
use Rattle.name.proofs.LabelPlaces.{starts_most}

module _ (s : List ℕ) (r : Outcome ℕ Fault) (places : List ℕ) (found : Marks s (replicate 127 0) r places) where
  pub not_marked : (f : Fault) → r ≡ Err f → reading_of s ≡ Err f
  not_marked f e = stops.broken
    where
      stops : Stops s (replicate 127 0) f places
      stops = rw e at found

  module _ (n : ℕ) (e : r ≡ Ok n) where
    notes : Notes s (replicate 127 0) n places
    notes = rw e at found

    pub marked_whole : reading_of s ≡ Ok tt
    marked_whole = notes.whole

    pub marked_count : n ≡ length (starts_of s)
    marked_count = notes.count

    pub marked_most : n ≤ 127
    marked_most = omega (arith, marked_count, starts_most s marked_whole)

    pub marked_array : places ≡ in_array 127 (starts_of s)
    marked_array =
        notes.stored
        ∙ sets-eq (starts_of s) (replicate 127 0) 0 (omega (arith, starts_most s marked_whole))
        ∙ rw (zero-add (length (starts_of s))) (array_front 127 (starts_of s))

    pub marked_length : length places ≡ 127
    marked_length = ap length notes.stored ∙ length-sets (replicate 127 0) 0 (starts_of s)

    pub marked_first : take n places ≡ starts_of s
    marked_first = rw (marked_array, marked_count) (take-append_seam (starts_of s) (replicate (127 - length (starts_of s)) 0))

    pub marked_starts : Starts s places n
    marked_starts = record { whole = marked_whole; first = marked_first; count = marked_count }
