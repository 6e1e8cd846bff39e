-- The lines of the checks 1 to 6: each number is given where its test holds and those before it do not; a name that is not admitted is
-- refused whatever is asked for (`checks_refused`), and for an admitted one that is given (`checks_passed`).
use mathlib.Core.Path.{◌≡◌, refl, ◌∙◌}
use mathlib.Core.List.{List, []}
use mathlib.Core.Bool.{Bool, true, false, not, ◌||◌}
use Prim.Native.Nat.{ℕ, ◌+◌, ◌≤◌, ◌<◌}
use borrow.Author.Tests.{lt-ltb, le-ltb, ltb-false, not-false}
use lib.ListN.{length}
use lib.Dec.{ltb}
use Rattle.name.specs.declared.Fault.{Fault}
use Rattle.name.specs.Wire.{Reading}
use Rattle.std.specs.Prelude.{Ok, Err}
use Rattle.name.specs.declared.Refusal.{Refusal}
use Rattle.name.specs.declared.Refusal.TheVariants.{BadLimit, BadApex, ApexTooLong}
use Rattle.name.specs.Wire.{reading_of}
use Rattle.name.specs.Answer.{Result, refusal, refuse_if, refuse_broken, numbered}
use Rattle.checks.specs.Under.{is_under}
use Rattle.checks.specs.Checks.{checks}
use Rattle.checks.specs.Private.LastAbove.{refusal_of}
use Rattle.facts.proofs.Booleans.{neither_true}
-- passed on, so that a wrong line of 3 is refused at an example before any law of it is tried
pub use Rattle.checks.proofs.Examples.{room_for_one}

-- ---- a line that may refuse, before others

module _ {A : Type 0} {x y : Result A} where
  if_later : (t : Bool) (n : ℕ) → (t ≡ false → x ≡ y) → refuse_if t n x ≡ refuse_if t n y
  if_later true n f = refl
  if_later false n f = f refl

  broken_later : (r : Reading) (n : ℕ) → (r ≡ Ok tt → x ≡ y) → refuse_broken r n x ≡ refuse_broken r n y
  broken_later (Ok _) n f = f refl
  broken_later (Err w) n f = refl

-- ---- the numbers

module _ {A : Type 0} (apex : List ℕ) (limit : ℕ) (name : List ℕ) (next : Result A) where
  pub limit_0_refused : limit < 1 → checks apex limit name next ≡ numbered BadLimit
  limit_0_refused h = rw (lt-ltb limit 1 h)

  pub limit_256_refused : 1 ≤ limit → 255 < limit → checks apex limit name next ≡ numbered BadLimit
  limit_256_refused g h = rw (le-ltb limit 1 g, lt-ltb 255 limit h)

  module _ (some : 1 ≤ limit) (most : limit ≤ 255) where
    pub apex_refused : (f : Fault) → reading_of apex ≡ Err f → checks apex limit name next ≡ numbered (BadApex f)
    apex_refused f e = rw (le-ltb limit 1 some, le-ltb 255 limit most, e)

    module _ (e : reading_of apex ≡ Ok tt) where
      pub apex_too_long : limit < length apex + 2 → checks apex limit name next ≡ numbered ApexTooLong
      apex_too_long h = rw (le-ltb limit 1 some, le-ltb 255 limit most, e, lt-ltb limit (length apex + 2) h)

      apex_passed : length apex + 2 ≤ limit
          → checks apex limit name next
          ≡ refuse_broken (reading_of name) 4 (refuse_if (ltb limit (length name)) 5 (refuse_if (not (is_under apex name)) 6 next))
      apex_passed h = rw (le-ltb limit 1 some, le-ltb 255 limit most, e, le-ltb limit (length apex + 2) h)

module _ {A : Type 0} (apex : List ℕ) (limit : ℕ) (name : List ℕ) (w : Refusal) where
  -- past 5, the refusal is 6 whether or not it is tested
  pub name_refused : 1 ≤ limit → limit ≤ 255 → reading_of apex ≡ Ok tt → length apex + 2 ≤ limit
      → refuse_broken {A = A} (reading_of name) 4 (refuse_if (ltb limit (length name)) 5 (refusal 6 [])) ≡ numbered w
      → refusal_of {A = A} apex limit name ≡ numbered w
  name_refused some most e h g =
      apex_passed apex limit name (refusal 6 []) some most e h ∙ untested (is_under apex name) ∙ g
    where
      untested : (t : Bool)
          → refuse_broken {A = A} (reading_of name) 4 (refuse_if (ltb limit (length name)) 5 (refuse_if (not t) 6 (refusal 6 [])))
          ≡ refuse_broken (reading_of name) 4 (refuse_if (ltb limit (length name)) 5 (refusal 6 []))
      untested true = refl
      untested false = refl

-- ---- a name that passes, and one that does not

-- what the checks 1 to 6 ask
pub record Admitted (apex : List ℕ) (limit : ℕ) (name : List ℕ) : Type 0 where
  pub some : 1 ≤ limit
  pub most : limit ≤ 255
  pub apex_whole : reading_of apex ≡ Ok tt
  pub apex_fits : length apex + 2 ≤ limit
  pub name_whole : reading_of name ≡ Ok tt
  pub name_fits : length name ≤ limit
  pub is_under_lem : is_under apex name ≡ true

module _ {A : Type 0} (apex : List ℕ) (limit : ℕ) (name : List ℕ) where
  pub checks_passed : Admitted apex limit name → (next : Result A) → checks apex limit name next ≡ next
  checks_passed a next =
      apex_passed apex limit name next a.some a.most a.apex_whole a.apex_fits
      ∙ rw (a.name_whole, le-ltb limit (length name) a.name_fits, a.is_under_lem)

  pub checks_refused : (Admitted apex limit name → ⊥) → (next : Result A) → checks apex limit name next ≡ refusal_of apex limit name
  checks_refused f next =
      if_later (ltb limit 1 || ltb 255 limit) 1
      (λ l. let b = neither_true (ltb limit 1) (ltb 255 limit) l in
      broken_later (reading_of apex) 2
      (λ ea. if_later (ltb limit (length apex + 2)) 3
      (λ fa. broken_later (reading_of name) 4
      (λ en. if_later (ltb limit (length name)) 5
      (λ fn. if_later (not (is_under apex name)) 6
      (λ u. absurd (f (record {
        some = ltb-false limit 1 b.0;
        most = ltb-false 255 limit b.1;
        apex_whole = ea;
        apex_fits = ltb-false limit (length apex + 2) fa;
        name_whole = en;
        name_fits = ltb-false limit (length name) fn;
        is_under_lem = not-false (is_under apex name) u;
      }))))))))
