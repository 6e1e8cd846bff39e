-- What reading a text said is determined by its number and its value, and so by the result that it tells: `said` is one to one.
use mathlib.Core.Path.{◌≡◌, refl, ap}
use Prim.Native.Nat.{ℕ}
use native.Mathlib.Omega.{arith}
use Rattle.name.specs.Answer.{Result, number, value}
use Rattle.std.specs.Prelude.{Result as Outcome, Ok, Err}
use Rattle.text.specs.declared.TextRefusal.{TextRefusal}
use Rattle.text.specs.declared.TextRefusal.TheVariants.{NoRoom, NotAText}
use Rattle.text.specs.Reads.{said}

pub said_parts : (o q : Outcome ℕ TextRefusal) → number (said o) ≡ number (said q) → value (said o) ≡ value (said q) → o ≡ q
said_parts (Ok n) (Ok m) e v = ap Ok v
said_parts (Ok n) (Err (NotAText p)) e v = absurd (omega arith)
said_parts (Ok n) (Err NoRoom) e v = absurd (omega arith)
said_parts (Err (NotAText p)) (Ok m) e v = absurd (omega arith)
said_parts (Err (NotAText p)) (Err (NotAText q)) e v = ap (λ (x : ℕ). Err (NotAText x)) v
said_parts (Err (NotAText p)) (Err NoRoom) e v = absurd (omega arith)
said_parts (Err NoRoom) (Ok m) e v = absurd (omega arith)
said_parts (Err NoRoom) (Err (NotAText q)) e v = absurd (omega arith)
said_parts (Err NoRoom) (Err NoRoom) e v = refl

pub said_injective : (o q : Outcome ℕ TextRefusal) → said o ≡ said q → o ≡ q
said_injective o q e = said_parts o q (ap (λ (r : Result ℕ). number r) e) (ap value e)
