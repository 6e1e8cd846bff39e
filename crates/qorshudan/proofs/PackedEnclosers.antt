-- What the exported functions on enclosers say: an encloser has at most 255 octets, so that the packed number tells of which name it is a
-- part (`packed_encloser_injective`), and the wildcard's values have room there.
use mathlib.Core.Path.{◌≡◌, refl, ap, ◌∙◌}
use mathlib.Core.Bool.{Bool, true, false}
use mathlib.Core.List.{List}
use Prim.Native.Nat.{ℕ, ◌^◌, ◌≤◌, ◌<◌}
use native.Mathlib.Omega.{arith}
use borrow.Author.Tests.{ltb-false}
use lib.Dec.{ltb}
use lib.ListN.{length}
use Rattle.name.specs.Wire.{reading_of}
use Rattle.name.specs.Answer.{answer, value, fitted, refuse_if}
use Rattle.name.proofs.Whole.{whole_fits}
use Rattle.name.proofs.Small.{broken_small, fitted_small, fitted_broken}
use Rattle.neighbour.proofs.SmallAnswers.{fitted_if, if_small}
use Rattle.encloser.specs.declared.Encloser.{Encloser}
use Rattle.encloser.specs.declared.Encloser.TheVariants.{OfOwner, OfNext}
use Rattle.encloser.specs.Gap.{is_in_gap}
use Rattle.encloser.specs.Closest.{InGap}
use Rattle.encloser.specs.Encloser.{encloser_of}
use Rattle.encloser.specs.Wildcard.{wildcard_name, wildcard_of}
use Rattle.encloser.proofs.Gaps.{true_gap}
use Rattle.encloser.proofs.Closest.{Fits, encloser_fits}
use Rattle.qorshudan.specs.Packed.{packed, placed}
use Rattle.qorshudan.proofs.Packing.{Small, packed_same}

-- ---- the closest encloser

-- as long as a name at most
abbrev pub Short : Encloser → Type 0
Short (OfOwner n) = n ≤ 255
Short (OfNext n) = n ≤ 255

pub encloser_short : (query owner next : List ℕ) (e : Encloser) → e ≡ encloser_of query owner next → Short e
encloser_short query owner next e h = go (is_in_gap query owner next) refl
  where
    part : (f : Encloser) → Fits f owner next → InGap query owner next → Short f
    part (OfOwner n) fits g = omega (arith, fits, whole_fits owner g.whole_owner)
    part (OfNext n) fits g = omega (arith, fits, whole_fits next g.whole_next)

    go : (b : Bool) → is_in_gap query owner next ≡ b → Short e
    go true t = part e (encloser_fits query owner next e h) (true_gap query owner next t)
    go false t = let o : e ≡ OfOwner 0 = h ∙ rw t in rw o (omega arith)

pub placed_fits : (e : Encloser) → Short e → value (placed e) < 2 ^ 32
placed_fits (OfOwner n) h = omega arith
placed_fits (OfNext n) h = omega arith

placed_small : (e : Encloser) → Small (placed e)
placed_small (OfOwner n) = record { number_small = omega arith; reason_small = omega arith }
placed_small (OfNext n) = record { number_small = omega arith; reason_small = omega arith }

placed_parts : (e f : Encloser) → Short e → Short f → value (placed e) ≡ value (placed f) → e ≡ f
placed_parts (OfOwner n) (OfOwner m) a b v = ap OfOwner v
placed_parts (OfOwner n) (OfNext m) a b v = absurd (omega arith)
placed_parts (OfNext n) (OfOwner m) a b v = absurd (omega arith)
placed_parts (OfNext n) (OfNext m) a b v = let u : n ≡ m = omega arith in ap OfNext u

pub packed_encloser_injective : (e f : Encloser) → Short e → Short f → packed (placed e) ≡ packed (placed f) → e ≡ f
packed_encloser_injective e f a b h =
    let t = packed_same (placed e) (placed f) (placed_small e) (placed_small f) h in placed_parts e f a b t.2

-- ---- the wildcard

pub wildcard_small : (s : List ℕ) (room : ℕ) → value (fitted room (wildcard_of s)) ≤ 255
wildcard_small s room =
    let w : List ℕ = wildcard_name s in
    let long : Bool = ltb 255 (length w) in
    rw (fitted_broken (reading_of s) 4 room (refuse_if long 5 (answer w)))
    (broken_small s 4 255 (fitted room (refuse_if long 5 (answer w))) (omega arith)
    (λ e. rw (fitted_if long 5 room (answer w))
    (if_small long 5 255 (fitted room (answer w)) (λ f. fitted_small w room 255 (ltb-false 255 (length w) f)))))
