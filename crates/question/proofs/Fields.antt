-- Fields: what is written is read, what is found is what stands there, and more octets after it change neither what is found nor what is
-- wrong.
use mathlib.Core.Path.{◌≡◌, refl, sym, ap, ◌∙◌}
use mathlib.Core.List.{List, [], ◌∷◌, ◌++◌}
use mathlib.Core.Bool.{Bool, true, false, cond, ◌&&◌}
use Prim.Native.Nat.{ℕ, ◌+◌, ◌*◌, ◌/◌, ◌%◌, ◌≤◌}
use native.Mathlib.Omega.{arith}
use borrow.Author.Tests.{le-leb, lt-leb, leb-true, ltb-true, eq-eqb, eqb-true}
use lib.ListN.{length, take, drop, length-append, take-append-drop}
use lib.Seq.{length-take-le, take_at, drop_at, take-append-le, drop-append-le, drop-drop}
use lib.Dec.{eqb, leb, ltb}
use Rattle.space.specs.Octets.{Octets}
use Rattle.question.specs.Fields.{field, Read, found, wrong, cut, and_then, size_of, value_of, field_of}
use Rattle.question.proofs.Readings.{wrong_not_found, cut_not_found, cut_not_wrong, found_not_wrong, found_same, Both, then_found}
use Rattle.question.proofs.Readings.{Grows, then_grows}

-- ---- what is written is read

value_at : (v rest : List ℕ) (n : ℕ) → length v ≡ n → value_of n (v ++ rest) ≡ found v rest
value_at v rest n e =
    rw (le-leb n (length (v ++ rest)) (simp length-append (omega arith)), take_at v rest n e, drop_at v rest n e)

size_at_lem : (least most n : ℕ) (s : List ℕ) → least ≤ n → n ≤ most → size_of least most (n / 256 ∷ n % 256 ∷ s) ≡ found n s
size_at_lem least most n s l m =
    let e : 256 * (n / 256) + n % 256 ≡ n = omega arith in
    rw (e, le-leb least n l, le-leb n most m)

pub field_read : (tag least most : ℕ) (v rest : List ℕ) → least ≤ length v → length v ≤ most
    → field_of tag least most (field tag v ++ rest) ≡ found v rest
unfolding field_of
field_read tag least most v rest l m =
    rw (eq-eqb tag tag refl, size_at_lem least most (length v) (v ++ rest) l m) (value_at v rest (length v) refl)

-- ---- more octets

pub size_grows : (least most : ℕ) → Grows (size_of least most)
size_grows least most = record { found_more = more; wrong_more = none }
  where
    more : {n : ℕ} {rest : List ℕ} (s t : List ℕ) → size_of least most s ≡ found n rest → size_of least most (s ++ t) ≡ found n (rest ++ t)
    more [] t e = absurd (cut_not_found e)
    more (h ∷ []) t e = absurd (no_size (ltb most (256 * h)) e)
      where
        no_size : {n : ℕ} {rest : List ℕ} (b : Bool) → cond b wrong cut ≡ found n rest → ⊥
        no_size true x = wrong_not_found x
        no_size false x = cut_not_found x
    more (h ∷ l ∷ s) t e = go (leb least (256 * h + l) && leb (256 * h + l) most) e
      where
        go : {n : ℕ} {rest : List ℕ} (b : Bool) → cond b (found (256 * h + l) s) wrong ≡ found n rest
            → cond b (found (256 * h + l) (s ++ t)) wrong ≡ found n (rest ++ t)
        go true x = cc
        go false x = absurd (wrong_not_found x)

    none : (s t : List ℕ) → size_of least most s ≡ wrong → size_of least most (s ++ t) ≡ wrong
    none [] t e = absurd (cut_not_wrong e)
    none (h ∷ []) [] e = e
    none (h ∷ []) (l ∷ t) e = go (ltb most (256 * h)) refl e
      where
        go : (b : Bool) → ltb most (256 * h) ≡ b → ◌≡◌ {A = Read ℕ} (cond b wrong cut) wrong
            → cond (leb least (256 * h + l) && leb (256 * h + l) most) (found (256 * h + l) t) wrong ≡ wrong
        go true x y = rw (lt-leb (256 * h + l) most (omega (arith, ltb-true most (256 * h) x))) (both (leb least (256 * h + l)))
          where
            both : (c : Bool) → cond (c && false) (found (256 * h + l) t) wrong ≡ wrong
            both true = refl
            both false = refl
        go false x y = absurd (cut_not_wrong y)
    none (h ∷ l ∷ s) t e = go (leb least (256 * h + l) && leb (256 * h + l) most) e
      where
        go : (b : Bool) → cond b (found (256 * h + l) s) wrong ≡ wrong → cond b (found (256 * h + l) (s ++ t)) wrong ≡ wrong
        go true x = absurd (found_not_wrong x)
        go false x = refl

value_grows : (n : ℕ) → Grows (value_of n)
value_grows n = record { found_more = λ s t e. more s t (leb n (length s)) refl e; wrong_more = λ s t e. none s t (leb n (length s)) e }
  where
    more : {v rest : List ℕ} (s t : List ℕ) (b : Bool) → leb n (length s) ≡ b → cond b (found (take n s) (drop n s)) cut ≡ found v rest
        → value_of n (s ++ t) ≡ found v (rest ++ t)
    more s t true h e =
        let few : n ≤ length s = leb-true n (length s) h in
        rw (le-leb n (length (s ++ t)) (simp length-append (omega arith)), take-append-le n s t few, drop-append-le n s t few) (cc)
    more s t false h e = absurd (cut_not_found e)

    none : (s t : List ℕ) (b : Bool) → cond b (found (take n s) (drop n s)) cut ≡ wrong → value_of n (s ++ t) ≡ wrong
    none s t true e = absurd (found_not_wrong e)
    none s t false e = absurd (cut_not_wrong e)

pub field_grows : (tag least most : ℕ) → Grows (field_of tag least most)
unfolding field_of
field_grows tag least most = record { found_more = more; wrong_more = none }
  where
    value : Grows (λ (s : List ℕ). and_then (size_of least most s) value_of)
    value = then_grows (size_of least most) value_of (size_grows least most) value_grows

    more : {v rest : List ℕ} (s t : List ℕ) → field_of tag least most s ≡ found v rest
        → field_of tag least most (s ++ t) ≡ found v (rest ++ t)
    more [] t e = absurd (cut_not_found e)
    more (o ∷ s) t e = go (eqb o tag) e
      where
        go : {v rest : List ℕ} (b : Bool) → cond b (and_then (size_of least most s) value_of) wrong ≡ found v rest
            → cond b (and_then (size_of least most (s ++ t)) value_of) wrong ≡ found v (rest ++ t)
        go true x = value.found_more s t x
        go false x = absurd (wrong_not_found x)

    none : (s t : List ℕ) → field_of tag least most s ≡ wrong → field_of tag least most (s ++ t) ≡ wrong
    none [] t e = absurd (cut_not_wrong e)
    none (o ∷ s) t e = go (eqb o tag) e
      where
        go : (b : Bool) → cond b (and_then (size_of least most s) value_of) wrong ≡ wrong
            → cond b (and_then (size_of least most (s ++ t)) value_of) wrong ≡ wrong
        go true x = value.wrong_more s t x
        go false x = refl

-- ---- what is found stands there

-- the field at the front of s has this value, and these octets come after it
pub record Stands (tag least most : ℕ) (s value rest : List ℕ) : Type 0 where
  pub some : least ≤ length value
  pub few : length value ≤ most
  pub within : 3 + length value ≤ length s
  pub is : value ≡ take (length value) (drop 3 s)
  pub after : rest ≡ drop (3 + length value) s
  pub octets : Octets s → s ≡ field tag value ++ rest

value_found : (n : ℕ) (s : List ℕ) {v rest : List ℕ} → value_of n s ≡ found v rest → (n ≤ length s) × (v ≡ take n s) × (rest ≡ drop n s)
value_found n s e = go (leb n (length s)) refl e
  where
    go : {v rest : List ℕ} (b : Bool) → leb n (length s) ≡ b → cond b (found (take n s) (drop n s)) cut ≡ found v rest
        → (n ≤ length s) × (v ≡ take n s) × (rest ≡ drop n s)
    go true h x = (leb-true n (length s) h, cc, cc)
    go false h x = absurd (cut_not_found x)

-- the two octets of a size
pub record Sized (least most : ℕ) (s : List ℕ) (n : ℕ) (rest : List ℕ) : Type 0 where
  pub high : ℕ
  pub low : ℕ
  pub is : s ≡ high ∷ low ∷ rest
  pub number : n ≡ 256 * high + low
  pub some : least ≤ n
  pub few : n ≤ most

pub size_found : (least most : ℕ) (s : List ℕ) {n : ℕ} {rest : List ℕ} → size_of least most s ≡ found n rest → Sized least most s n rest
size_found least most [] e = absurd (cut_not_found e)
size_found least most (h ∷ []) e = absurd (no_size (ltb most (256 * h)) e)
  where
    no_size : {n : ℕ} {rest : List ℕ} (b : Bool) → cond b wrong cut ≡ found n rest → ⊥
    no_size true x = wrong_not_found x
    no_size false x = cut_not_found x
size_found least most (h ∷ l ∷ s) e = go (leb least (256 * h + l)) (leb (256 * h + l) most) refl refl e
  where
    go : {n : ℕ} {rest : List ℕ} (a b : Bool) → leb least (256 * h + l) ≡ a → leb (256 * h + l) most ≡ b
        → cond (a && b) (found (256 * h + l) s) wrong ≡ found n rest → Sized least most (h ∷ l ∷ s) n rest
    go true true ha hb x =
        let en = (found_same x).0 in
        record {
          high = h;
          low = l;
          is = ap (λ (r : List ℕ). h ∷ l ∷ r) (found_same x).1;
          number = sym en;
          some = omega (arith, leb-true least (256 * h + l) ha);
          few = omega (arith, leb-true (256 * h + l) most hb);
        }
    go true false ha hb x = absurd (wrong_not_found x)
    go false b ha hb x = absurd (wrong_not_found x)

pub field_stands : (tag least most : ℕ) (s : List ℕ) {v rest : List ℕ} → field_of tag least most s ≡ found v rest
    → Stands tag least most s v rest
unfolding field_of
field_stands tag least most [] e = absurd (cut_not_found e)
field_stands tag least most (o ∷ s) e = go (eqb o tag) refl e
  where
    inside : {v rest : List ℕ} → o ≡ tag → Both (size_of least most s) value_of v rest → Stands tag least most (o ∷ s) v rest
    inside {v} {rest} eo b =
        let z = size_found least most s b.first in
        let w = value_found b.thing b.mid b.second in
        let ev : length v ≡ b.thing = ap length w.1 ∙ length-take-le b.thing b.mid w.0 in
        let full : ◌≡◌ {A = List ℕ} b.mid (v ++ rest) = sym (rw (w.1, w.2) (take-append-drop b.thing b.mid)) in
        rw z.is (record {
          some = omega (arith, z.some);
          few = omega (arith, z.few);
          within = omega arith;
          is = rw ev w.1;
          after = rw ev (w.2 ∙ drop-drop b.thing 3 (o ∷ z.high ∷ z.low ∷ b.mid));
          octets = λ os.
              let eh : z.high ≡ length v / 256 = omega (arith, z.number, os.1.1.0, ev) in
              let el : z.low ≡ length v % 256 = omega (arith, z.number, os.1.1.0, ev) in
              cc (eo, full, eh, el);
        })

    go : {v rest : List ℕ} (t : Bool) → eqb o tag ≡ t → cond t (and_then (size_of least most s) value_of) wrong ≡ found v rest
        → Stands tag least most (o ∷ s) v rest
    go true h x = inside (eqb-true o tag h) (then_found (size_of least most s) value_of x)
    go false h x = absurd (wrong_not_found x)
