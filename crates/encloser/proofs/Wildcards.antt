-- The wildcard name is the encloser behind two octets (`wildcard_octets`, `wildcard_length`), a name under it where it fits
-- (`wildcard_names`).
use mathlib.Core.Path.{◌≡◌, ap, ◌∙◌}
use mathlib.Core.List.{List, [], ◌∷◌, map}
use mathlib.Core.Bool.{true}
use Prim.Native.Nat.{ℕ, ◌+◌, ◌≤◌, ◌<◌}
use native.Mathlib.Omega.{arith}
use borrow.Author.Tests.{lt-ltb, le-ltb}
use lib.ListN.{length}
use Rattle.std.specs.Prelude.{Ok}
use Rattle.name.specs.Wire.{reading_of}
use Rattle.name.specs.Labels.{Sizes, labels_of}
use Rattle.name.specs.Answer.{answer, refusal}
use Rattle.name.proofs.Labels.{labels_read, labels_wire, wire_labels, label_sizes}
use Rattle.space.specs.Fold.{folded}
use Rattle.checks.specs.Under.{is_under}
use Rattle.checks.proofs.UnderLabels.{labels_under}
use Rattle.encloser.specs.Wildcard.{wildcard_name, wildcard_of, WildcardNames}
-- passed on, so that a wrong wildcard is refused at an example before any law of it is tried
pub use Rattle.encloser.proofs.Examples.{wildcard_spelling, wildcard_broken, wildcard_broken_first}

module _ (encloser : List ℕ) (whole : reading_of encloser ≡ Ok tt) where
  pub wildcard_octets : wildcard_name encloser ≡ 1 ∷ 42 ∷ encloser
  wildcard_octets = ap (λ (s : List ℕ). 1 ∷ 42 ∷ s) (wire_labels encloser whole)

  pub wildcard_length : length (wildcard_name encloser) ≡ length encloser + 2
  wildcard_length = ap length wildcard_octets ∙ omega arith

  pub wildcard_long : 255 < length encloser + 2 → wildcard_of encloser ≡ refusal 5 []
  wildcard_long h = rw (whole, lt-ltb 255 (length (wildcard_name encloser)) (omega (arith, wildcard_length)))

  pub wildcard_answer : length encloser + 2 ≤ 255 → wildcard_of encloser ≡ answer (1 ∷ 42 ∷ encloser)
  wildcard_answer h =
      rw (whole, le-ltb 255 (length (wildcard_name encloser)) (omega (arith, wildcard_length))) (ap answer wildcard_octets)

  sizes : Sizes ((42 ∷ []) ∷ labels_of encloser)
  sizes = (omega arith, omega arith, label_sizes encloser whole)

  labels : labels_of (wildcard_name encloser) ≡ (42 ∷ []) ∷ labels_of encloser
  labels = labels_wire ((42 ∷ []) ∷ labels_of encloser) sizes

  is_name : length encloser ≤ 253 → reading_of (wildcard_name encloser) ≡ Ok tt
  is_name h = labels_read ((42 ∷ []) ∷ labels_of encloser) 0 sizes (omega (arith, wildcard_length))

  is_under_lem : is_under encloser (wildcard_name encloser) ≡ true
  is_under_lem = labels_under encloser (wildcard_name encloser) (folded (42 ∷ []) ∷ []) (ap (map folded) labels)

  one_more : length (labels_of (wildcard_name encloser)) ≡ length (labels_of encloser) + 1
  one_more = ap length labels ∙ omega arith

pub wildcard_names : WildcardNames
wildcard_names =
    record {
      answered = λ encloser whole h. wildcard_answer encloser whole (omega arith);
      is_name = is_name;
      is_under_lem = is_under_lem;
      one_more = one_more;
      broken = λ encloser fault e. rw e;
      too_long = λ encloser whole h. wildcard_long encloser whole (omega arith);
    }
