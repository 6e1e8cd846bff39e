-- The packing: number, reason and value stand in the packed number each by itself (`packed_parts`), so that it is one to one on what an
-- operation says, of every kind: an outcome, the outcome of reading a text, and a comparison.
use mathlib.Core.Path.{◌≡◌, sym, ap, ◌∙◌}
use mathlib.Core.Bool.{true≢false}
use mathlib.Core.List.{List}
use Prim.Native.Nat.{ℕ, ◌+◌, ◌*◌, ◌/◌, ◌%◌, ◌^◌, ◌≤◌, ◌<◌}
use native.Mathlib.Omega.{arith}
use lib.IntN.{nat_abs}
use lib.ListN.{length}
use Rattle.name.specs.declared.Fault.{Fault}
use Rattle.name.specs.declared.Fault.TheVariants.{CutShort, LeftOver, BadLength, TooLong}
use Rattle.name.specs.declared.Refusal.TheVariants.{BadLimit, BadApex, ApexTooLong, BadName, NameTooLong, NotUnderApex, NoFullLabel}
use Rattle.name.specs.declared.Refusal.TheVariants.{NoRoom, NotAKey, BadSecondName, NotInAlphabet}
use Rattle.std.specs.Prelude.{ℤ, Result as Outcome, Ok, Err}
use Rattle.name.specs.declared.Refusal.{Refusal}
use Rattle.text.specs.declared.TextRefusal.TheVariants.{NoRoom, NotAText}
use Rattle.name.specs.Answer.{Result, number, reason, value, fault_reason, said, fitted, Fills}
use Rattle.name.proofs.Numbers.{parts_injective}
use Rattle.order.specs.Compare.{said as compared-said}
use Rattle.text.specs.declared.TextRefusal.{TextRefusal}
use Rattle.text.specs.Reads.{said as text-said}
use Rattle.text.proofs.TextNumbers.{said_parts}
use Rattle.qorshudan.specs.Packed.{packed, shifted, compared, Exports}
use Rattle.qorshudan.proofs.Shifting.{shifted_injective}

-- ---- over the numbers

-- number and reason are octets
pub record Small (r : Result ℕ) : Type 0 where
  pub number_small : number r < 256
  pub reason_small : reason r < 256

unpack : (n r v : ℕ) → n < 256 → r < 256 → let p = n + 2 ^ 8 * r + 2 ^ 16 * v in
    (p % 2 ^ 8 ≡ n) × (p / 2 ^ 8 % 2 ^ 8 ≡ r) × (p / 2 ^ 16 ≡ v)
unpack n r v a b = (omega arith, omega arith, omega arith)

-- what a caller takes out of the packed number
pub packed_parts : (r : Result ℕ) → Small r
    → (packed r % 2 ^ 8 ≡ number r) × (packed r / 2 ^ 8 % 2 ^ 8 ≡ reason r) × (packed r / 2 ^ 16 ≡ value r)
packed_parts r s = unpack (number r) (reason r) (value r) s.number_small s.reason_small

pub packed_same : (r s : Result ℕ) → Small r → Small s → packed r ≡ packed s
    → (number r ≡ number s) × (reason r ≡ reason s) × (value r ≡ value s)
packed_same r s a b e =
    let p = packed_parts r a in
    let q = packed_parts s b in (
      sym p.0 ∙ ap (λ (n : ℕ). n % 2 ^ 8) e ∙ q.0,
      sym p.1 ∙ ap (λ (n : ℕ). n / 2 ^ 8 % 2 ^ 8) e ∙ q.1,
      sym p.2 ∙ ap (λ (n : ℕ). n / 2 ^ 16) e ∙ q.2,
    )

-- a value below 2 to the 32nd leaves room for the three parts
pub packed_fits : (r : Result ℕ) → Small r → value r < 2 ^ 32 → packed r < 2 ^ 64
packed_fits r s h = omega (arith, s.number_small, s.reason_small)

-- ---- outcomes

fault_small : (f : Fault) → fault_reason f < 256
fault_small (CutShort p) = omega arith
fault_small (LeftOver p) = omega arith
fault_small (BadLength p) = omega arith
fault_small (TooLong p) = omega arith

pub outcome_small : (o : Outcome ℕ Refusal) → Small (said o)
outcome_small (Ok n) = record { number_small = omega arith; reason_small = omega arith }
outcome_small (Err BadLimit) = record { number_small = omega arith; reason_small = omega arith }
outcome_small (Err (BadApex f)) = record { number_small = omega arith; reason_small = fault_small f }
outcome_small (Err ApexTooLong) = record { number_small = omega arith; reason_small = omega arith }
outcome_small (Err (BadName f)) = record { number_small = omega arith; reason_small = fault_small f }
outcome_small (Err NameTooLong) = record { number_small = omega arith; reason_small = omega arith }
outcome_small (Err NotUnderApex) = record { number_small = omega arith; reason_small = omega arith }
outcome_small (Err NoFullLabel) = record { number_small = omega arith; reason_small = omega arith }
outcome_small (Err NoRoom) = record { number_small = omega arith; reason_small = omega arith }
outcome_small (Err (NotAKey p)) = record { number_small = omega arith; reason_small = omega arith }
outcome_small (Err (BadSecondName f)) = record { number_small = omega arith; reason_small = fault_small f }
outcome_small (Err NotInAlphabet) = record { number_small = omega arith; reason_small = omega arith }

pub packed_injective : (o q : Outcome ℕ Refusal) → packed (said o) ≡ packed (said q) → o ≡ q
packed_injective o q e =
    let t = packed_same (said o) (said q) (outcome_small o) (outcome_small q) e in
    parts_injective o q t.0 t.1 t.2

-- ---- outcomes of reading a text

pub text_small : (o : Outcome ℕ TextRefusal) → Small (text-said o)
text_small (Ok n) = record { number_small = omega arith; reason_small = omega arith }
text_small (Err (NotAText p)) = record { number_small = omega arith; reason_small = omega arith }
text_small (Err NoRoom) = record { number_small = omega arith; reason_small = omega arith }

pub packed_text_injective : (o q : Outcome ℕ TextRefusal) → packed (text-said o) ≡ packed (text-said q) → o ≡ q
packed_text_injective o q e =
    let t = packed_same (text-said o) (text-said q) (text_small o) (text_small q) e in
    said_parts o q t.0 t.2

-- ---- comparisons: as outcomes whose value is 128 plus the number

abbrev as_outcome : Outcome ℤ Refusal → Outcome ℕ Refusal
as_outcome (Ok z) = Ok (shifted z)
as_outcome (Err w) = Err w

-- a comparison's number lies between -127 and 127
abbrev pub InRange : Outcome ℤ Refusal → Type 0
InRange (Ok z) = nat_abs z ≤ 127
InRange (Err w) = Unit {0}

pub packed_compared_injective : (a b : Outcome ℤ Refusal) → InRange a → InRange b
    → packed (compared (compared-said a)) ≡ packed (compared (compared-said b)) → a ≡ b
packed_compared_injective (Ok z) (Ok y) ra rb e =
    let o = packed_injective (as_outcome (Ok z)) (as_outcome (Ok y)) e in
    let v : shifted z ≡ shifted y = cc in
    ap Ok (shifted_injective z y ra rb v)
packed_compared_injective (Ok z) (Err w) ra rb e =
    let o = packed_injective (as_outcome (Ok z)) (as_outcome (Err w)) e in
    absurd (true≢false (cc))
packed_compared_injective (Err w) (Ok y) ra rb e =
    let o = packed_injective (as_outcome (Err w)) (as_outcome (Ok y)) e in
    absurd (true≢false (cc))
packed_compared_injective (Err w) (Err v) ra rb e =
    let o = packed_injective (as_outcome (Err w)) (as_outcome (Err v)) e in cc

-- ---- what an exported function says

-- what an operation promises of its space, its exported function does
pub exports : {result : Result (List ℕ)} {before after : List ℕ} {words : Result ℕ} {r : ℕ} → Fills result before words after
    → r ≡ packed words → Exports result before r after
exports {words = words} f e = (words, e, f)

-- the same result
pub exports_same : {q r : Result (List ℕ)} → q ≡ r → {before after : List ℕ} {returned : ℕ} → Exports q before returned after
    → Exports r before returned after
exports_same e f = rw (← e) f

-- the largest value is 65,536, so that it has room in the packed number
pub value_fits : {result : Result (List ℕ)} {before after : List ℕ} {words : Result ℕ} {n : ℕ} → Fills result before words after
    → value (fitted (length before) result) ≤ n → n ≤ 65536 → value words < 2 ^ 32
value_fits f small few = rw f.says (omega (arith, small))
