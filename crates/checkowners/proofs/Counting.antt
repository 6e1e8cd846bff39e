-- The check goes along the owners (`Counted`): those before an index do not break the list, and how many more do not is asked of the
-- others.
use mathlib.Core.Path.{◌≡◌, refl, sym, ap, ◌∙◌}
use mathlib.Core.List.{List, [], ◌∷◌}
use mathlib.Core.Bool.{Bool, true, false, ◌&&◌}
use Prim.Native.Nat.{ℕ, suc, ◌+◌, ◌-◌, ◌≤◌, ◌<◌}
use native.Mathlib.Omega.{arith}
use lib.Dec.{eqb}
use lib.ListN.{length, drop, get_or, drop_of_length-le}
use Rattle.facts.proofs.Booleans.{both_true}
use Rattle.facts.proofs.Lists.{drop_next}
use Rattle.std.specs.Prelude.{Ok}
use Rattle.name.specs.Wire.{reading_of}
use Rattle.name.proofs.Folding.{folded_whole}
use Rattle.space.specs.Fold.{lower_of, folded}
use Rattle.space.specs.Same.{same_octets}
use Rattle.space.proofs.SameBlocks.{same_octets_equal}
use Rattle.encloser.specs.Gap.{is_before}
use Rattle.owners.specs.Members.{is_member, follows, following, unbroken}
use Rattle.owners.proofs.Following.{member_tested}

module _ (apex : List ℕ) (limit : ℕ) (owners : List (List ℕ)) where
  -- i owners are counted, and the last of them is a name
  pub record Counted (i : ℕ) : Type 0 where
    pub some : 1 ≤ i
    pub within : i ≤ length owners
    pub count : unbroken apex limit owners ≡ i + following apex limit (get_or owners (i - 1) []) (drop i owners)
    pub whole : reading_of (get_or owners (i - 1) []) ≡ Ok tt

-- ---- the first owner

module _ (apex : List ℕ) (limit : ℕ) (owners : List (List ℕ)) where
  pub first_breaks : 1 ≤ length owners → false ≡ same_octets (get_or owners 0 []) (folded apex) → 0 ≡ unbroken apex limit owners
  first_breaks h e = go owners h e
    where
      go : (os : List (List ℕ)) → 1 ≤ length os → false ≡ same_octets (get_or os 0 []) (folded apex) → 0 ≡ unbroken apex limit os
      go [] g f = refl
      go (o ∷ os) g f = rw (← f)

  pub first_counted : reading_of apex ≡ Ok tt → 1 ≤ length owners → true ≡ same_octets (get_or owners 0 []) (folded apex)
      → Counted apex limit owners 1
  first_counted w h e =
      record {
        some = omega arith;
        within = h;
        count = go owners h e;
        whole = ap reading_of (same_octets_equal (get_or owners 0 []) (folded apex) (sym e)) ∙ folded_whole apex w;
      }
    where
      go : (os : List (List ℕ)) → 1 ≤ length os → true ≡ same_octets (get_or os 0 []) (folded apex)
          → unbroken apex limit os ≡ 1 + following apex limit (get_or os 0 []) (drop 1 os)
      go [] g f = absurd (omega arith)
      go (o ∷ os) g f = rw (← f) (omega arith)

-- ---- another one

module _ {apex : List ℕ} {limit : ℕ} {owners : List (List ℕ)} {i : ℕ} (c : Counted apex limit owners i) where
  module _ (h : i < length owners) where
    abbrev before : List ℕ
    before = get_or owners (i - 1) []

    pub next_counted : true ≡ follows apex limit before (get_or owners i []) → Counted apex limit owners (i + 1)
    unfolding following
    next_counted e =
        let t = both_true (is_member apex limit (get_or owners i [])) (is_before before (get_or owners i [])) (sym e) in
        let k : i + 1 - 1 ≡ i = omega arith in
        let d : following apex limit before (drop i owners) ≡ suc (following apex limit (get_or owners i []) (drop (i + 1) owners)) =
        rw (drop_next owners i [] h, ← e) in
        record {
          some = omega arith;
          within = omega arith;
          count = rw k (omega (arith, c.count, d));
          whole = rw k (member_tested apex limit (get_or owners i []) t.0).whole;
        }

    pub next_breaks : false ≡ follows apex limit before (get_or owners i []) → i ≡ unbroken apex limit owners
    unfolding following
    next_breaks e =
        let d : following apex limit before (drop i owners) ≡ 0 = rw (drop_next owners i [] h, ← e) in
        omega (arith, c.count, d)

  pub all_counted : length owners ≤ i → i ≡ unbroken apex limit owners
  unfolding following
  all_counted h =
      let d : following apex limit (get_or owners (i - 1) []) (drop i owners) ≡ 0 = rw (drop_of_length-le owners h) in
      omega (arith, c.count, d)

-- ---- octets that are folded

and_assoc : (a b c : Bool) → (a && b) && c ≡ a && (b && c)
and_assoc true b c = refl
and_assoc false b c = refl

and_true : (a : Bool) → a && true ≡ a
and_true true = refl
and_true false = refl

-- those up to an index are, where `same`, and it is asked of the others
pub record Folding (s : List ℕ) (same : Bool) (k : ℕ) : Type 0 where
  pub within : k ≤ length s
  pub is : same_octets (folded s) s ≡ same && same_octets (folded (drop k s)) (drop k s)

pub folding_none : (s : List ℕ) → Folding s true 0
folding_none s = record { within = omega arith; is = refl }

module _ {s : List ℕ} {same : Bool} {k : ℕ} (f : Folding s same k) where
  pub folding_next : k < length s → (o b : ℕ) (t : Bool) → o ≡ get_or s k 0 → b ≡ lower_of o → t ≡ eqb b o → Folding s (same && t) (k + 1)
  folding_next h o b t eo eb et =
      record {
        within = omega arith;
        is = f.is
            ∙ rw (drop_next s k 0 h, ← eo, ← eb, ← et) (sym (and_assoc same t (same_octets (folded (drop (k + 1) s)) (drop (k + 1) s))));
      }

  pub folding_all : length s ≤ k → same ≡ same_octets (folded s) s
  folding_all h = sym (f.is ∙ rw (drop_of_length-le s h) (and_true same))
