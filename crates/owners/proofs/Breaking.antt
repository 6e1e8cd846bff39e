-- Where a list breaks: the index beside 16 is that of the first owner that breaks it, for the owners before it are a list, and with it they
-- are none (`first_breaks`). What does not break a list does not break its front (`unbroken_front`).
use mathlib.Core.Path.{◌≡◌, refl, sym}
use mathlib.Core.List.{List, [], ◌∷◌}
use mathlib.Core.Bool.{Bool, true, false, cond, not, ◌||◌, true≢false}
use Prim.Native.Nat.{ℕ, zero, suc, ◌+◌, ◌-◌, ◌≤◌, ◌<◌, min}
use native.Mathlib.Omega.{arith}
use borrow.Author.Tests.{ltb-true}
use lib.Dec.{leb, ltb}
use lib.ListN.{length, take, drop, get_or, take-append-drop}
use lib.Seq.{length-take-le}
use Rattle.space.specs.Octets.{Octets}
use Rattle.space.specs.Fold.{folded}
use Rattle.space.specs.Same.{same_octets}
use Rattle.name.specs.Wire.{Reading}
use Rattle.std.specs.Prelude.{Ok, Err}
use Rattle.name.specs.Labels.{AllOctets}
use Rattle.name.specs.Wire.{reading_of}
use Rattle.name.specs.Answer.{refusal}
use Rattle.owners.specs.Layout.{part, owners_of}
use Rattle.owners.specs.Sizes.{is_too_large}
use Rattle.owners.specs.Members.{follows, following, unbroken, starts_at_front}
use Rattle.owners.specs.Lists.{IsList}
use Rattle.owners.specs.Answers.{check_within}
use Rattle.owners.proofs.Following.{rises_map, rises_zone, zone_tested}
use Rattle.owners.proofs.Accepting.{Listed, unbroken_listed, listed_unbroken}
use Rattle.owners.proofs.Layouts.{owners_length}
use Rattle.owners.proofs.Sequences.{octets_parts}

-- ---- the front of a list

module _ (apex : List ℕ) (limit : ℕ) where
  following_front : (n : ℕ) (before : List ℕ) (os : List (List ℕ))
      → following apex limit before (take n os) ≡ min n (following apex limit before os)
  unfolding following
  following_front zero before os = omega arith
  following_front (suc n) before [] = omega arith
  following_front (suc n) before (o ∷ os) = go (follows apex limit before o) (following_front n o os)
    where
      go : (b : Bool) → following apex limit o (take n os) ≡ min n (following apex limit o os)
          → cond b (suc (following apex limit o (take n os))) 0 ≡ min (suc n) (cond b (suc (following apex limit o os)) 0)
      go true ih = omega (arith, ih)
      go false ih = omega arith

  unbroken_front : (n : ℕ) (os : List (List ℕ)) → unbroken apex limit (take n os) ≡ min n (unbroken apex limit os)
  unbroken_front zero os = omega arith
  unbroken_front (suc n) [] = omega arith
  unbroken_front (suc n) (o ∷ os) = go (same_octets o (folded apex))
    where
      go : (b : Bool) → cond b (suc (following apex limit o (take n os))) 0 ≡ min (suc n) (cond b (suc (following apex limit o os)) 0)
      go true = omega (arith, following_front n o os)
      go false = omega arith

-- ---- the octets of owners

octets_part : (names : List ℕ) (s e : ℕ) → Octets names → Octets (part names s e)
octets_part names s e o = go (leb e (length names))
  where
    behind : Octets (drop s names)
    behind = (octets_parts (take s names) (drop s names) (rw (take-append-drop s names) o)).1

    go : (b : Bool) → Octets (cond b (take (e - s) (drop s names)) [])
    go true =
        let rest : List ℕ = drop s names in
        (octets_parts (take (e - s) rest) (drop (e - s) rest) (rw (take-append-drop (e - s) rest) behind)).0
    go false = tt

octets_owners : (names starts : List ℕ) → Octets names → AllOctets (owners_of names starts)
unfolding owners_of
octets_owners names [] o = tt
octets_owners names (s ∷ ss) o = (octets_part names s (get_or ss 0 (length names)) o, octets_owners names ss o)

all_front : (n : ℕ) (os : List (List ℕ)) → AllOctets os → AllOctets (take n os)
all_front zero os a = tt
all_front (suc n) [] a = tt
all_front (suc n) (o ∷ os) a = (a.0, all_front n os a.1)

-- ---- lists, tested and of a zone

listed_list : {apex : List ℕ} {limit : ℕ} {os : List (List ℕ)} → AllOctets os → Listed apex limit os → IsList apex limit os
listed_list {apex} {limit} a l =
    let all : AllOctets (folded apex ∷ l.others) = rw l.first at a in
    record { others = l.others; first = l.first; rises = rises_zone apex limit all.1 l.rises }

list_listed : {apex : List ℕ} {limit : ℕ} {os : List (List ℕ)} → IsList apex limit os → Listed apex limit os
list_listed {apex} {limit} l =
    record { others = l.others; first = l.first; rises = rises_map (zone_tested apex limit) l.rises }

-- ---- the index

module _ (owners octets : ℕ) (apex : List ℕ) (limit : ℕ) (names starts : List ℕ) where
  abbrev os : List (List ℕ)
  os = owners_of names starts

  -- above 0 the index is the number of owners that do not break the list
  index_is : (i : ℕ) → 1 ≤ i → check_within owners octets apex limit names starts ≡ refusal 16 (i ∷ [])
      → (i ≡ unbroken apex limit os) × (i < length os)
  index_is i h e =
      go (ltb limit 1 || ltb 255 limit) (reading_of apex) (ltb limit (length apex + 2))
      (is_too_large owners octets names starts || not (starts_at_front starts)) (ltb (unbroken apex limit os) (length os))
      refl refl refl refl refl e
    where
      go : (a : Bool) (f : Reading) (b d u : Bool) → ltb limit 1 || ltb 255 limit ≡ a → reading_of apex ≡ f
          → ltb limit (length apex + 2) ≡ b
          → is_too_large owners octets names starts || not (starts_at_front starts) ≡ d → ltb (unbroken apex limit os) (length os) ≡ u
          → check_within owners octets apex limit names starts ≡ refusal 16 (i ∷ []) → (i ≡ unbroken apex limit os) × (i < length os)
      go true f b d u ea ef eb ed eu e = absurd (let g = rw ea at e in true≢false (cc))
      go false (Err x) b d u ea ef eb ed eu e = absurd (let g = rw (ea, ef) at e in true≢false (cc))
      go false (Ok _) true d u ea ef eb ed eu e = absurd (let g = rw (ea, ef, eb) at e in true≢false (cc))
      go false (Ok _) false true u ea ef eb ed eu e =
          let g = rw (ea, ef, eb, ed) at e in let z : i ≡ 0 = cc in absurd (omega arith)
      go false (Ok _) false false true ea ef eb ed eu e =
          let g = rw (ea, ef, eb, ed, eu) at e in
          let z : unbroken apex limit os ≡ i = cc in (sym z, omega (arith, ltb-true (unbroken apex limit os) (length os) eu))
      go false (Ok _) false false false ea ef eb ed eu e = absurd (let g = rw (ea, ef, eb, ed, eu) at e in true≢false (cc))

  pub first_breaks : (i : ℕ) → Octets names → 1 ≤ i → check_within owners octets apex limit names starts ≡ refusal 16 (i ∷ [])
      → (i < length starts) × IsList apex limit (take i os) × (IsList apex limit (take (i + 1) os) → ⊥)
  first_breaks i o h e =
      let k = index_is i h e in
      let n : length os ≡ length starts = owners_length names starts in
      let front = length-take-le i os (omega (arith, k.1)) in
      let more = length-take-le (i + 1) os (omega (arith, k.1)) in (
        omega (arith, k.1, n),
        listed_list (all_front i os (octets_owners names starts o))
            (unbroken_listed apex limit (take i os) (omega (arith, front)) (omega (arith, front, unbroken_front apex limit i os, k.0))),
        λ l. omega (arith, listed_unbroken (list_listed l), unbroken_front apex limit (i + 1) os, k.0, more),
      )
