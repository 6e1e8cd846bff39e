-- `three_digits` meets its contract: where all three are digits, their number is the octet (`three_end`).
use mathlib.Core.Path.{◌≡◌, sym, ◌∙◌}
use mathlib.Core.Bool.{Bool, true, ◌&&◌}
use mathlib.Core.List.{List}
use Prim.Native.Nat.{ℕ, ◌+◌, ◌≤◌}
use lib.ListN.{get_or}
use native.Mathlib.Omega.{arith}
use Rattle.facts.proofs.Booleans.{both_true}
use Rattle.text.specs.Characters.{digit}
use Rattle.fromtext.proofs.Escapes.{digit_high, three_least, three_end}
use Rattle.fromtext.proofs.runs.three_digits.Goals as goal

-- where the three tests hold, the characters are digits
module _ (t : List ℕ) (p : ℕ) where
  digits : {x y z : Bool} → x ≡ digit (get_or t p 0) → y ≡ digit (get_or t (p + 1) 0) → z ≡ digit (get_or t (p + 2) 0)
      → x && y && z ≡ true
      → (digit (get_or t p 0) ≡ true) × (digit (get_or t (p + 1) 0) ≡ true) × (digit (get_or t (p + 2) 0) ≡ true)
  digits {x} {y} {z} a b c all =
      let l = both_true (x && y) z all in
      let f = both_true x y l.0 in (sym a ∙ f.0, sym b ∙ f.1, sym c ∙ l.1)

  small : (digit (get_or t p 0) ≡ true) × (digit (get_or t (p + 1) 0) ≡ true) × (digit (get_or t (p + 2) 0) ≡ true)
      → (get_or t p 0 ≤ 57) × (get_or t (p + 1) 0 ≤ 57) × (get_or t (p + 2) 0 ≤ 57)
  small d = (digit_high _ d.0, digit_high _ d.1, digit_high _ d.2)

pub overflow_cast-result : goal.overflow_cast-result
overflow_cast-result c =
    let d = digits c.args.text.now c.args.p c.is_digit.ensures c.is_digit-2.ensures c.is_digit-3.ensures c.if-is_digit.true in
    omega (arith, small c.args.text.now c.args.p d)

pub overflow_mul-result : goal.overflow_mul-result
overflow_mul-result c =
    let d = digits c.args.text.now c.args.p c.is_digit.ensures c.is_digit-2.ensures c.is_digit-3.ensures c.if-is_digit.true in
    omega (arith, small c.args.text.now c.args.p d)

pub overflow_cast-result-then-is_digit : goal.overflow_cast-result-then-is_digit
overflow_cast-result-then-is_digit c =
    let d = digits c.args.text.now c.args.p c.is_digit.ensures c.is_digit-2.ensures c.is_digit-3.ensures c.if-is_digit.true in
    omega (arith, small c.args.text.now c.args.p d)

pub overflow_mul-result-then-is_digit : goal.overflow_mul-result-then-is_digit
overflow_mul-result-then-is_digit c =
    let d = digits c.args.text.now c.args.p c.is_digit.ensures c.is_digit-2.ensures c.is_digit-3.ensures c.if-is_digit.true in
    omega (arith, small c.args.text.now c.args.p d)

pub overflow_add-result : goal.overflow_add-result
overflow_add-result c =
    let d = digits c.args.text.now c.args.p c.is_digit.ensures c.is_digit-2.ensures c.is_digit-3.ensures c.if-is_digit.true in
    omega (arith, small c.args.text.now c.args.p d)

pub overflow_cast-result-then-is_digit-2 : goal.overflow_cast-result-then-is_digit-2
overflow_cast-result-then-is_digit-2 c =
    let d = digits c.args.text.now c.args.p c.is_digit.ensures c.is_digit-2.ensures c.is_digit-3.ensures c.if-is_digit.true in
    omega (arith, small c.args.text.now c.args.p d)

pub overflow_add-result-then-is_digit : goal.overflow_add-result-then-is_digit
overflow_add-result-then-is_digit c =
    let d = digits c.args.text.now c.args.p c.is_digit.ensures c.is_digit-2.ensures c.is_digit-3.ensures c.if-is_digit.true in
    omega (arith, small c.args.text.now c.args.p d)

pub overflow_sub-result : goal.overflow_sub-result
overflow_sub-result c =
    let d = digits c.args.text.now c.args.p c.is_digit.ensures c.is_digit-2.ensures c.is_digit-3.ensures c.if-is_digit.true in
    three_least _ _ c.requires d.0 d.1 d.2

pub returns-then-is_digit : goal.returns-then-is_digit
returns-then-is_digit c =
    let d = digits c.args.text.now c.args.p c.is_digit.ensures c.is_digit-2.ensures c.is_digit-3.ensures c.if-is_digit.true in
    λ h. three_end _ _ c.requires d.0 d.1 d.2 (omega (arith, three_least _ _ c.requires d.0 d.1 d.2)) h

pub returns : goal.returns
returns c = λ h. absurd (omega arith)
