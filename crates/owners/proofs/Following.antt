-- What the tests of owners say: those that are not broken are members of the zone, each after the one before it (`following_rises`), and
-- such ones are not broken (`rises_following`).
use mathlib.Core.Path.{◌≡◌, refl, ap, ◌∙◌}
use mathlib.Core.List.{List, [], ◌∷◌}
use mathlib.Core.Bool.{Bool, true, false, cond, ◌&&◌}
use Prim.Native.Nat.{ℕ, suc, ◌≤◌}
use native.Mathlib.Omega.{arith}
use borrow.Author.Tests.{leb-true, le-leb}
use lib.Dec.{leb}
use lib.ListN.{length}
use Rattle.facts.proofs.Booleans.{both_true}
use Rattle.std.specs.Prelude.{Ok}
use Rattle.name.specs.Wire.{reading_of}
use Rattle.name.specs.Labels.{AllOctets}
use Rattle.space.specs.Fold.{folded}
use Rattle.space.specs.Octets.{Octets}
use Rattle.space.specs.Same.{same_octets}
use Rattle.space.proofs.SameBlocks.{same_octets_equal, same_octets_refl}
use Rattle.checks.specs.Under.{is_under}
use Rattle.neighbour.specs.Nearest.{InZone}
use Rattle.encloser.specs.Gap.{is_whole, is_before}
use Rattle.encloser.proofs.Gaps.{whole_true, true_whole, sorts_true, true_sorts}
use Rattle.owners.specs.Members.{is_member, follows, following, unbroken}
use Rattle.owners.specs.Lists.{Rises, none, next}
-- passed on, so that a wrong definition is refused at an example before any law of it is tried
pub use Rattle.owners.proofs.Examples.{accepted, zone_first, breaks}

module _ (apex : List ℕ) (limit : ℕ) where
  -- ---- one owner

  -- what the tests of a member ask
  pub record Tested (name : List ℕ) : Type 0 where
    pub whole : reading_of name ≡ Ok tt
    pub folds : folded name ≡ name
    pub fits : length name ≤ limit
    pub under : is_under apex name ≡ true

  pub member_tested : (name : List ℕ) → is_member apex limit name ≡ true → Tested name
  member_tested name t =
      let w : Bool = is_whole (reading_of name) in
      let f : Bool = same_octets (folded name) name in
      let c = both_true (w && f && leb (length name) limit) (is_under apex name) t in
      let b = both_true (w && f) (leb (length name) limit) c.0 in
      let a = both_true w f b.0 in
      record {
        whole = whole_true (reading_of name) a.0;
        folds = same_octets_equal (folded name) name a.1;
        fits = leb-true (length name) limit b.1;
        under = c.1;
      }

  pub tested_member : (name : List ℕ) → Tested name → is_member apex limit name ≡ true
  tested_member name t =
      let s : same_octets (folded name) name ≡ true = ap (λ (x : List ℕ). same_octets x name) t.folds ∙ same_octets_refl name in
      rw (true_whole (reading_of name) t.whole, s, le-leb (length name) limit t.fits, t.under)

  pub tested_zone : (name : List ℕ) → Octets name → Tested name → InZone apex limit name
  tested_zone name o t = record { formed = record { octets = o; whole = t.whole }; folds = t.folds; under = t.under; fits = t.fits }

  pub zone_tested : (name : List ℕ) → InZone apex limit name → Tested name
  zone_tested name z = record { whole = z.formed.whole; folds = z.folds; fits = z.fits; under = z.under }

  -- ---- owners behind one another

  pub following_rises : (before : List ℕ) (os : List (List ℕ)) → following apex limit before os ≡ length os → Rises Tested before os
  unfolding following
  following_rises before [] e = none
  following_rises before (o ∷ os) e = go (follows apex limit before o) refl e (following_rises o os)
    where
      go : (b : Bool) → follows apex limit before o ≡ b → cond b (suc (following apex limit o os)) 0 ≡ length (o ∷ os)
          → (following apex limit o os ≡ length os → Rises Tested o os) → Rises Tested before (o ∷ os)
      go true f g ih =
          let p = both_true (is_member apex limit o) (is_before before o) f in
          next o (member_tested o p.0) (true_sorts before o p.1) (ih (omega arith))
      go false f g ih = absurd (omega arith)

  pub rises_following : {before : List ℕ} {os : List (List ℕ)} → Rises Tested before os → following apex limit before os ≡ length os
  unfolding following
  rises_following none = refl
  rises_following {before} (next o t s r) = rw (tested_member o t, sorts_true before o s) (ap suc (rises_following r))

  pub following_most : (before : List ℕ) (os : List (List ℕ)) → following apex limit before os ≤ length os
  unfolding following
  following_most before [] = omega arith
  following_most before (o ∷ os) = go (follows apex limit before o) (following_most o os)
    where
      go : (b : Bool) → following apex limit o os ≤ length os → cond b (suc (following apex limit o os)) 0 ≤ length (o ∷ os)
      go true ih = omega arith
      go false ih = omega arith

  pub unbroken_most : (os : List (List ℕ)) → unbroken apex limit os ≤ length os
  unbroken_most [] = omega arith
  unbroken_most (o ∷ os) = go (same_octets o (folded apex))
    where
      go : (b : Bool) → cond b (suc (following apex limit o os)) 0 ≤ length (o ∷ os)
      go true = omega (arith, following_most o os)
      go false = omega arith

-- from one set to another
module _ {P Q : List ℕ → Type 0} where
  pub rises_map : ((name : List ℕ) → P name → Q name) → {before : List ℕ} {os : List (List ℕ)} → Rises P before os → Rises Q before os
  rises_map f none = none
  rises_map f (next o p s r) = next o (f o p) s (rises_map f r)

pub rises_zone : (apex : List ℕ) (limit : ℕ) {before : List ℕ} {os : List (List ℕ)} → AllOctets os → Rises (Tested apex limit) before os
    → Rises (InZone apex limit) before os
rises_zone apex limit a none = none
rises_zone apex limit a (next o t s r) = next o (tested_zone apex limit o a.0 t) s (rises_zone apex limit a.1 r)
