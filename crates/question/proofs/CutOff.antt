-- What is cut off: it is shorter than a question.
use mathlib.Core.Path.{◌≡◌, refl, ap}
use mathlib.Core.List.{List, [], ◌∷◌}
use mathlib.Core.Bool.{Bool, true, false, cond, ◌&&◌}
use Prim.Native.Nat.{ℕ, suc, ◌+◌, ◌*◌, ◌<◌}
use native.Mathlib.Omega.{arith}
use borrow.Author.Tests.{leb-false}
use lib.Dec.{eqb, leb}
use lib.ListN.{length, take, drop, get_or, length-drop}
use Rattle.question.specs.Fields.{Read, found, wrong, cut, and_then, size_of, value_of, field_of}
use Rattle.std.specs.Prelude.{Option, Some, None}
use Rattle.question.specs.declared.Way.{Way}
use Rattle.question.specs.Way.{way_of}
use Rattle.question.specs.Question.{with_way, read_of}
use Rattle.question.proofs.Readings.{found_not_cut, wrong_not_cut}
use Rattle.question.proofs.Fields.{field_stands, size_found}

-- cut off in the first thing, or after it
pub then_cut : {A B : Type 0} (C : Type 0) (r : Read A) (next : A → List ℕ → Read B) → and_then r next ≡ cut
    → (r ≡ cut → C) → ((a : A) (rest : List ℕ) → r ≡ found a rest → next a rest ≡ cut → C) → C
then_cut C (found a rest) next e first second = second a rest refl e
then_cut C wrong next e first second = absurd (wrong_not_cut e)
then_cut C cut next e first second = first refl

pub value_cut : (n : ℕ) (s : List ℕ) → value_of n s ≡ cut → length s < n
value_cut n s e = go (leb n (length s)) refl e
  where
    go : (b : Bool) → leb n (length s) ≡ b → cond b (found (take n s) (drop n s)) cut ≡ cut → length s < n
    go true h x = absurd (found_not_cut x)
    go false h x = leb-false n (length s) h

pub size_cut : (least most : ℕ) (s : List ℕ) → size_of least most s ≡ cut → length s < 2
size_cut least most [] e = omega arith
size_cut least most (h ∷ []) e = omega arith
size_cut least most (h ∷ l ∷ s) e = absurd (go (leb least (256 * h + l) && leb (256 * h + l) most) e)
  where
    go : (b : Bool) → cond b (found (256 * h + l) s) wrong ≡ cut → ⊥
    go true x = found_not_cut x
    go false x = wrong_not_cut x

field_cut : (tag least most : ℕ) (s : List ℕ) → field_of tag least most s ≡ cut → length s < 3 + most
unfolding field_of
field_cut tag least most [] e = omega arith
field_cut tag least most (o ∷ s) e = go (eqb o tag) e
  where
    go : (b : Bool) → cond b (and_then (size_of least most s) value_of) wrong ≡ cut → suc (length s) < 3 + most
    go true x = then_cut (suc (length s) < 3 + most) (size_of least most s) value_of x
        (λ c. omega (arith, size_cut least most s c))
        (λ n rest f c.
        let z = size_found least most s f in
        omega (arith, value_cut n rest c, z.few, ap length z.is))
    go false x = absurd (wrong_not_cut x)

pub never_cut : (apex : List ℕ) (limit : ℕ) (name : List ℕ) (m : Option Way) (rest : List ℕ) → with_way apex limit name m rest ≡ cut → ⊥
never_cut apex limit name (Some way) rest x = found_not_cut x
never_cut apex limit name None rest x = wrong_not_cut x

-- the largest question has 1,214 octets
pub cut_short : (s : List ℕ) → read_of s ≡ cut → length s < 1214
unfolding read_of
cut_short s e =
    then_cut (length s < 1214) (field_of 1 0 600 s) _ e (λ c. omega (arith, field_cut 1 0 600 s c)) (λ apex s1 f1 e1.
    let t1 = field_stands 1 0 600 s f1 in
    let l1 : length s ≡ 3 + length apex + length s1 = omega (arith, t1.within, ap length t1.after, length-drop (3 + length apex) s) in
    then_cut (length s < 1214) (field_of 2 1 1 s1) _ e1 (λ c. omega (arith, t1.few, field_cut 2 1 1 s1 c)) (λ limit s2 f2 e2.
    let t2 = field_stands 2 1 1 s1 f2 in
    let l2 : length s1 ≡ 3 + length limit + length s2 =
    omega (arith, t2.within, ap length t2.after, length-drop (3 + length limit) s1) in
    then_cut (length s < 1214) (field_of 3 0 600 s2) _ e2 (λ c. omega (arith, t1.few, t2.few, field_cut 3 0 600 s2 c)) (λ name s3 f3 e3.
    let t3 = field_stands 3 0 600 s2 f3 in
    let l3 : length s2 ≡ 3 + length name + length s3 = omega (arith, t3.within, ap length t3.after, length-drop (3 + length name) s2) in
    then_cut (length s < 1214) (field_of 4 1 1 s3) _ e3 (λ c. omega (arith, t1.few, t2.few, t3.few, field_cut 4 1 1 s3 c))
    (λ way s4 f4 e4.
    absurd (never_cut apex (get_or limit 0 0) name (way_of (get_or way 0 0)) s4 e4)))))
