-- Reading a size and a field at a place of the input, test by test.
use mathlib.Core.Path.{◌≡◌, refl, sym, ap, ◌∙◌}
use mathlib.Core.List.{List, [], ◌∷◌}
use mathlib.Core.Bool.{Bool, true, false, cond, ◌&&◌, true≢false}
use Prim.Native.Nat.{ℕ, ◌+◌, ◌-◌, ◌*◌, ◌≤◌, ◌<◌}
use native.Mathlib.Omega.{arith}
use borrow.Author.Tests.{le-leb, lt-leb, lt-ltb, le-ltb, eq-eqb, ne_eqb}
use lib.Dec.{leb}
use lib.ListN.{length, drop, get_or, length-drop, drop_of_length-le}
use lib.Seq.{length-take-le, drop-drop}
use Rattle.facts.proofs.Lists.{drop_next}
use Rattle.std.specs.Prelude.{Ok, Err}
use Rattle.question.specs.declared.NotAsked.{NotAsked}
use Rattle.question.specs.declared.NotAsked.TheVariants.{Wrong, Cut}
use Rattle.question.specs.Fields.{Read, found, wrong, cut, and_then, size_of, value_of, field_of}
use Rattle.question.specs.Private.Asked.{size_read, size_at, field_length, field_at}
use Rattle.question.proofs.Fields.{size_found}

-- ---- a size

-- what two octets say
abbrev pub two_at : List ℕ → ℕ → ℕ
two_at s at = 256 * get_or s at 0 + get_or s (at + 1) 0

-- one test that fails is enough
not_both : {A : Type 0} (c : Bool) (a b : A) → cond (c && false) a b ≡ b
not_both true a b = refl
not_both false a b = refl

module _ (s : List ℕ) (at least most : ℕ) where
  pub no_high : length s ≤ at → Err Cut ≡ size_at s at least most
  unfolding size_at
  no_high h = rw (drop_of_length-le s h)

  module _ (first : at < length s) where
    pub high_large : most < 256 * get_or s at 0 → Err Wrong ≡ size_at s at least most
    unfolding size_at
    high_large x = rw (drop_next s at 0 first) (go (drop (at + 1) s))
      where
        go : (t : List ℕ) → Err Wrong ≡ size_read (size_of least most (get_or s at 0 ∷ t))
        go [] = rw (lt-ltb most (256 * get_or s at 0) x)
        go (l ∷ t) =
            rw (lt-leb (256 * get_or s at 0 + l) most (omega arith))
            (sym (ap size_read (not_both (leb least (256 * get_or s at 0 + l)) (found (256 * get_or s at 0 + l) t) wrong)))

    pub no_low : 256 * get_or s at 0 ≤ most → length s ≤ at + 1 → Err Cut ≡ size_at s at least most
    unfolding size_at
    no_low x h = rw (drop_next s at 0 first, drop_of_length-le s {i = at + 1} h, le-ltb most (256 * get_or s at 0) x)

  module _ (second : at + 1 < length s) where
    two : drop at s ≡ get_or s at 0 ∷ get_or s (at + 1) 0 ∷ drop (at + 2) s
    two =
        let e : at + 1 + 1 ≡ at + 2 = omega arith in
        rw (drop_next s at 0 (omega arith), drop_next s (at + 1) 0 second, e)

    pub too_few : two_at s at < least → Err Wrong ≡ size_at s at least most
    unfolding size_at
    too_few x = rw (two, lt-leb least (two_at s at) x)

    pub too_many : most < two_at s at → Err Wrong ≡ size_at s at least most
    unfolding size_at
    too_many x =
        rw (two, lt-leb (two_at s at) most x)
        (sym (ap size_read (not_both (leb least (two_at s at)) (found (two_at s at) (drop (at + 2) s)) wrong)))

    pub size_there : least ≤ two_at s at → two_at s at ≤ most → Ok (two_at s at) ≡ size_at s at least most
    unfolding size_at
    size_there some few = rw (two, le-leb least (two_at s at) some, le-leb (two_at s at) most few)

-- a size of n stands at the place `at`
pub record SizeIs (s : List ℕ) (at least most n : ℕ) : Type 0 where
  pub is : size_of least most (drop at s) ≡ found n (drop (at + 2) s)
  pub within : at + 2 ≤ length s
  pub few : n ≤ most

pub size_is : {s : List ℕ} {at least most n : ℕ} → Ok n ≡ size_at s at least most → SizeIs s at least most n
unfolding size_at
size_is {s} {at} {least} {most} {n} e = go (size_of least most (drop at s)) refl e
  where
    go : (r : Read ℕ) → size_of least most (drop at s) ≡ r → Ok n ≡ size_read r → SizeIs s at least most n
    go (found k rest) h x =
        let z = size_found least most (drop at s) h in
        let en : k ≡ n = cc in
        let er : rest ≡ drop (at + 2) s = sym (ap (drop 2) z.is) ∙ drop-drop 2 at s in
        record { is = h ∙ rw (en, er); within = omega (arith, ap length z.is, length-drop at s); few = omega (arith, z.few) }
    go wrong h x = absurd (true≢false (cc))
    go cut h x = absurd (true≢false (cc))

-- ---- a field

module _ (s : List ℕ) (at tag least most : ℕ) where
  pub no_octet : length s ≤ at → Err Cut ≡ field_at s at tag least most
  unfolding field_at field_of
  no_octet h = rw (drop_of_length-le s h)

  pub other_tag : at < length s → (get_or s at 0 ≡ tag → ⊥) → Err Wrong ≡ field_at s at tag least most
  unfolding field_at field_of
  other_tag h x = rw (drop_next s at 0 h, ne_eqb (get_or s at 0) tag x)

  module _ (here : at < length s) (same : get_or s at 0 ≡ tag) where
    tagged : field_at s at tag least most ≡ field_length (and_then (size_of least most (drop (at + 1) s)) value_of)
    unfolding field_at field_of
    tagged = rw (drop_next s at 0 here, eq-eqb (get_or s at 0) tag same)

    pub no_size : (w : NotAsked) → Err w ≡ size_at s (at + 1) least most → Err w ≡ field_at s at tag least most
    unfolding size_at
    no_size w e = go (size_of least most (drop (at + 1) s)) e ∙ sym tagged
      where
        go : (r : Read ℕ) → Err w ≡ size_read r → Err w ≡ field_length (and_then r value_of)
        go (found n rest) x = absurd (true≢false (cc))
        go wrong x = x
        go cut x = x

    module _ {n : ℕ} (size : Ok n ≡ size_at s (at + 1) least most) where
      sized : field_at s at tag least most ≡ field_length (value_of n (drop (at + 3) s))
      sized =
          let e : at + 1 + 2 ≡ at + 3 = omega arith in
          rw (tagged, (size_is size).is, e)

      pub no_value : length s - at - 3 < n → Err Cut ≡ field_at s at tag least most
      no_value x = rw (sized, lt-leb n (length (drop (at + 3) s)) (rw length-drop (omega (arith, (size_is size).within))))

      pub value_there : n ≤ length s - at - 3 → Ok n ≡ field_at s at tag least most
      value_there x =
          let h : n ≤ length (drop (at + 3) s) = rw length-drop (omega arith) in
          rw (sized, le-leb n (length (drop (at + 3) s)) h) (ap Ok (sym (length-take-le n (drop (at + 3) s) h)))
