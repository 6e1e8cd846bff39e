-- What the exported functions on bitmaps say: the packed number is one to one on it.
use mathlib.Core.Path.{◌≡◌, refl, ap}
use mathlib.Core.List.{[], ◌∷◌}
use Prim.Native.Nat.{ℕ, ◌+◌}
use native.Mathlib.Omega.{arith}
use Rattle.name.specs.Answer.{Result, answer, refusal, number, value}
use Rattle.std.specs.Prelude.{Option, Bool, Result as Outcome, Some, None, Ok, Err, true, false}
use Rattle.types.specs.declared.TypesRefusal.{TypesRefusal}
use Rattle.types.specs.declared.TypesRefusal.TheVariants.{NoRoom, NoSet}
use Rattle.types.specs.declared.NoBitmap.{NoBitmap}
use Rattle.types.specs.Answers.{said, said_member, said_count, said_type}
use Rattle.types.proofs.Told.{said_injective, member_injective, count_injective, type_injective}
use Rattle.qorshudan.specs.Packed.{packed}
use Rattle.qorshudan.proofs.Packing.{Small, packed_same}

-- an answer, 15 with its place, or 9
data Told : Result ℕ → Type 0 where
  told : (n : ℕ) → Told (answer n)
  placed : (p : ℕ) → Told (refusal 15 (p ∷ []))
  full : Told (refusal 9 [])

told_small : {r : Result ℕ} → Told r → Small r
told_small (told n) = record { number_small = omega arith; reason_small = omega arith }
told_small (placed p) = record { number_small = omega arith; reason_small = omega arith }
told_small full = record { number_small = omega arith; reason_small = omega arith }

told_parts : {r s : Result ℕ} → Told r → Told s → number r ≡ number s → value r ≡ value s → r ≡ s
told_parts (told n) (told m) e v = ap answer v
told_parts (told n) (placed p) e v = absurd (omega arith)
told_parts (told n) full e v = absurd (omega arith)
told_parts (placed p) (told m) e v = absurd (omega arith)
told_parts (placed p) (placed q) e v = ap (λ (x : ℕ). refusal 15 (x ∷ [])) v
told_parts (placed p) full e v = absurd (omega arith)
told_parts full (told m) e v = absurd (omega arith)
told_parts full (placed q) e v = absurd (omega arith)
told_parts full full e v = refl

packed_told : {r s : Result ℕ} → Told r → Told s → packed r ≡ packed s → r ≡ s
packed_told {r} {s} a b e =
    let t = packed_same r s (told_small a) (told_small b) e in told_parts a b t.0 t.2

types_told : (o : Outcome ℕ TypesRefusal) → Told (said o)
types_told (Ok n) = told n
types_told (Err (NoSet p)) = placed p
types_told (Err NoRoom) = full

member_told : (o : Outcome Bool NoBitmap) → Told (said_member o)
member_told (Ok true) = told 1
member_told (Ok false) = told 0
member_told (Err w) = placed w.0

count_told : (o : Outcome ℕ NoBitmap) → Told (said_count o)
count_told (Ok n) = told n
count_told (Err w) = placed w.0

type_told : (o : Outcome (Option ℕ) NoBitmap) → Told (said_type o)
type_told (Ok (Some t)) = told (1 + t)
type_told (Ok None) = told 0
type_told (Err w) = placed w.0

pub packed_types_injective : (o q : Outcome ℕ TypesRefusal) → packed (said o) ≡ packed (said q) → o ≡ q
packed_types_injective o q e = said_injective o q (packed_told (types_told o) (types_told q) e)

pub packed_member_injective : (o q : Outcome Bool NoBitmap) → packed (said_member o) ≡ packed (said_member q) → o ≡ q
packed_member_injective o q e = member_injective o q (packed_told (member_told o) (member_told q) e)

pub packed_count_injective : (o q : Outcome ℕ NoBitmap) → packed (said_count o) ≡ packed (said_count q) → o ≡ q
packed_count_injective o q e = count_injective o q (packed_told (count_told o) (count_told q) e)

pub packed_type_injective : (o q : Outcome (Option ℕ) NoBitmap) → packed (said_type o) ≡ packed (said_type q) → o ≡ q
packed_type_injective o q e = type_injective o q (packed_told (type_told o) (type_told q) e)
