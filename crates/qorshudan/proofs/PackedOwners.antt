-- What the exported functions on lists of owners say: an index, a number of owners and a number of looks have room, and the packed number
-- tells the looks and the owner apart (`found_injective`).
use mathlib.Core.Path.{◌≡◌, refl, ap}
use mathlib.Core.List.{List, [], ◌∷◌}
use mathlib.Core.Bool.{Bool, true, false}
use Prim.Native.Nat.{ℕ, ◌*◌, ◌^◌, ◌≤◌, ◌<◌}
use native.Mathlib.Omega.{arith}
use borrow.Author.Tests.{ltb-false}
use lib.Dec.{ltb}
use lib.ListN.{length}
use Rattle.facts.proofs.Booleans.{neither_true}
use Rattle.name.specs.Wire.{Reading}
use Rattle.std.specs.Prelude.{Ok, Err}
use Rattle.name.specs.Wire.{reading_of}
use Rattle.name.specs.Answer.{Result, answer, refusal, refuse_broken, value}
use Rattle.name.proofs.Small.{broken_small}
use Rattle.owners.specs.declared.Look.{Look}
use Rattle.owners.specs.declared.Found.{Found}
use Rattle.owners.specs.declared.Found.TheVariants.{Owner, NoOwner}
use Rattle.owners.specs.Layout.{owners_of}
use Rattle.owners.specs.Sizes.{most_owners, most_octets, is_too_large}
use Rattle.owners.specs.Halving.{looks, halving}
use Rattle.owners.specs.Answers.{refuse_at, look_in, check_owners_of, find_owner_of}
use Rattle.owners.proofs.Halvings.{halve_looks}
use Rattle.owners.proofs.Bounds.{Within, check_small, halve_within}
use Rattle.qorshudan.specs.Packed.{found_value, found}

-- ---- the check

pub owners_small : (apex : List ℕ) (limit : ℕ) (names starts : List ℕ) → value (check_owners_of apex limit names starts) < 2 ^ 32
owners_small apex limit names starts = omega (arith, check_small most_owners most_octets apex limit names starts)

-- ---- the lookup

within_small : (size : ℕ) (r : Result Found) → Within size r → ((f : Found) → r ≡ answer f → looks f ≤ size)
    → value (found r) ≤ 257 * size
within_small size (answer (Owner i n)) w l = omega (arith, l (Owner i n) refl)
within_small size (answer (NoOwner n)) w l = omega (arith, l (NoOwner n) refl)
within_small size (refusal n []) w l = omega arith
within_small size (refusal n (i ∷ [])) w l = omega arith
within_small size (refusal n (i ∷ j ∷ vs)) w l = absurd w

halving_small : (look : ℕ → Look) (size : ℕ) → value (found (halving look size)) ≤ 257 * size
halving_small look size =
    within_small size (halving look size) (halve_within look size size 0 size (NoOwner 0) (omega arith) tt)
    (λ f e. omega (arith, halve_looks look size 0 size (NoOwner 0) f e))

found_broken : (r : Reading) (n : ℕ) (next : Result Found) → found (refuse_broken r n next) ≡ refuse_broken r n (found next)
found_broken (Ok _) n next = refl
found_broken (Err f) n next = refl

pub lookup_small : (names starts query : List ℕ) → value (found (find_owner_of names starts query)) < 2 ^ 32
lookup_small names starts query =
    let next =
    refuse_at (is_too_large most_owners most_octets names starts) 0 (halving (look_in (owners_of names starts) query) (length starts)) in
    let most : value (found (find_owner_of names starts query)) ≤ 4210943 =
    rw (found_broken (reading_of query) 4 next)
    (broken_small query 4 4210943 (found next) (omega arith) (λ e. sized (is_too_large most_owners most_octets names starts) refl)) in
    omega arith
  where
    sized : (b : Bool) → is_too_large most_owners most_octets names starts ≡ b
        → value (found (refuse_at b 0 (halving (look_in (owners_of names starts) query) (length starts)))) ≤ 4210943
    sized true e = omega arith
    sized false e =
        let k = neither_true (ltb most_owners (length starts)) (ltb most_octets (length names)) e in
        omega (arith, ltb-false most_owners (length starts) k.0, halving_small (look_in (owners_of names starts) query) (length starts))

-- the looks are below 256 (`find_looks`), so that the value tells the owner and the looks
pub found_injective : (f g : Found) → looks f < 256 → looks g < 256 → found_value f ≡ found_value g → f ≡ g
found_injective (Owner i n) (Owner j m) a b e = let p : i ≡ j = omega arith in let q : n ≡ m = omega arith in cc
found_injective (Owner i n) (NoOwner m) a b e = absurd (omega arith)
found_injective (NoOwner n) (Owner j m) a b e = absurd (omega arith)
found_injective (NoOwner n) (NoOwner m) a b e = ap NoOwner e
