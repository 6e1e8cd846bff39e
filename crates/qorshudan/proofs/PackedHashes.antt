-- What the exported functions on hashes say: the packed number is one to one on it, and its values have room there.
use mathlib.Core.Path.{◌≡◌, refl, ap}
use mathlib.Core.Bool.{Bool, true, false, not, true≢false}
use mathlib.Core.List.{List}
use Prim.Native.Nat.{ℕ, ◌≤◌}
use native.Mathlib.Omega.{arith}
use borrow.Author.Tests.{eqb-true}
use lib.Dec.{eqb}
use lib.ListN.{length}
use Rattle.name.specs.Answer.{number, value, answer, fitted, refuse_if}
use Rattle.name.proofs.Small.{fitted_small}
use Rattle.neighbour.proofs.SmallAnswers.{fitted_if, if_small}
use Rattle.std.specs.Prelude.{Result as Outcome, Ok, Err}
use Rattle.hash.specs.declared.HashRefusal.{HashRefusal}
use Rattle.hash.specs.declared.HashRefusal.TheVariants.{NoHash, NoRoom}
use Rattle.hash.specs.declared.NoHashes.{NoHashes}
use Rattle.hash.specs.Ring.{after, before}
use Rattle.hash.specs.Label.{label_of, is_label, hash_of}
use Rattle.hash.specs.Answers.{said, said_between, after_of, before_of, write_label_of, read_label_of}
use Rattle.hash.proofs.Ring.{after_length, before_length}
use Rattle.hash.proofs.Label.{label_length, hash_length}
use Rattle.qorshudan.specs.Packed.{packed}
use Rattle.qorshudan.proofs.Packing.{Small, packed_same}

-- ---- one to one

hash_small : (o : Outcome ℕ HashRefusal) → Small (said o)
hash_small (Ok n) = record { number_small = omega arith; reason_small = omega arith }
hash_small (Err NoHash) = record { number_small = omega arith; reason_small = omega arith }
hash_small (Err NoRoom) = record { number_small = omega arith; reason_small = omega arith }

lies_small : (l : Outcome Bool NoHashes) → Small (said_between l)
lies_small (Ok true) = record { number_small = omega arith; reason_small = omega arith }
lies_small (Ok false) = record { number_small = omega arith; reason_small = omega arith }
lies_small (Err _) = record { number_small = omega arith; reason_small = omega arith }

hash_parts : (o q : Outcome ℕ HashRefusal) → number (said o) ≡ number (said q) → value (said o) ≡ value (said q) → o ≡ q
hash_parts (Ok n) (Ok m) e v = ap Ok v
hash_parts (Ok n) (Err NoHash) e v = absurd (omega arith)
hash_parts (Ok n) (Err NoRoom) e v = absurd (omega arith)
hash_parts (Err NoHash) (Ok m) e v = absurd (omega arith)
hash_parts (Err NoHash) (Err NoHash) e v = refl
hash_parts (Err NoHash) (Err NoRoom) e v = absurd (omega arith)
hash_parts (Err NoRoom) (Ok m) e v = absurd (omega arith)
hash_parts (Err NoRoom) (Err NoHash) e v = absurd (omega arith)
hash_parts (Err NoRoom) (Err NoRoom) e v = refl

lies_parts : (l k : Outcome Bool NoHashes) → number (said_between l) ≡ number (said_between k)
    → value (said_between l) ≡ value (said_between k) → l ≡ k
lies_parts (Ok true) (Ok true) e v = refl
lies_parts (Ok true) (Ok false) e v = absurd (omega arith)
lies_parts (Ok true) (Err _) e v = absurd (omega arith)
lies_parts (Ok false) (Ok true) e v = absurd (omega arith)
lies_parts (Ok false) (Ok false) e v = refl
lies_parts (Ok false) (Err _) e v = absurd (omega arith)
lies_parts (Err _) (Ok true) e v = absurd (omega arith)
lies_parts (Err _) (Ok false) e v = absurd (omega arith)
lies_parts (Err _) (Err _) e v = refl

pub packed_hash_injective : (o q : Outcome ℕ HashRefusal) → packed (said o) ≡ packed (said q) → o ≡ q
packed_hash_injective o q e =
    let t = packed_same (said o) (said q) (hash_small o) (hash_small q) e in hash_parts o q t.0 t.2

pub packed_lies_injective : (l k : Outcome Bool NoHashes) → packed (said_between l) ≡ packed (said_between k) → l ≡ k
packed_lies_injective l k e =
    let t = packed_same (said_between l) (said_between k) (lies_small l) (lies_small k) e in lies_parts l k t.0 t.2

-- ---- the values: a hash has 20 octets, and its label 32

answered_small : (b : Bool) (a : List ℕ) (room m : ℕ) → (b ≡ false → length a ≤ m) → value (fitted room (refuse_if b 17 (answer a))) ≤ m
answered_small b a room m h = rw (fitted_if b 17 room (answer a)) (if_small b 17 m _ (λ e. fitted_small a room m (h e)))

-- octets that pass for a hash are 20
twenty : (s : List ℕ) → not (eqb (length s) 20) ≡ false → length s ≡ 20
twenty s e = go (eqb (length s) 20) refl e
  where
    go : (t : Bool) → eqb (length s) 20 ≡ t → not t ≡ false → length s ≡ 20
    go true h i = eqb-true (length s) 20 h
    go false h i = absurd (true≢false i)

pub after_small : (s : List ℕ) (room : ℕ) → value (fitted room (after_of s)) ≤ 20
after_small s room = answered_small (not (eqb (length s) 20)) (after s) room 20 (λ e. omega (arith, after_length s, twenty s e))

pub before_small : (s : List ℕ) (room : ℕ) → value (fitted room (before_of s)) ≤ 20
before_small s room = answered_small (not (eqb (length s) 20)) (before s) room 20 (λ e. omega (arith, before_length s, twenty s e))

pub write_label_small : (s : List ℕ) (room : ℕ) → value (fitted room (write_label_of s)) ≤ 32
write_label_small s room = answered_small (not (eqb (length s) 20)) (label_of s) room 32 (λ e. omega (arith, label_length s))

pub read_label_small : (s : List ℕ) (room : ℕ) → value (fitted room (read_label_of s)) ≤ 20
read_label_small s room = answered_small (not (is_label s)) (hash_of s) room 20 (λ e. omega (arith, hash_length s))
