-- Reading from the front of octets: one thing after another is taken apart, and more octets after those read change neither what is found
-- nor what is wrong.
use mathlib.Core.Path.{◌≡◌, refl}
use mathlib.Core.List.{List, ◌++◌}
use mathlib.Core.Bool.{true≢false}
use Prim.Native.Nat.{ℕ}
use Rattle.question.specs.Fields.{Read, found, wrong, cut, and_then}

-- ---- the three cases differ

module _ {A : Type 0} where
  pub wrong_not_found : {a : A} {rest : List ℕ} → wrong ≡ found a rest → ⊥
  wrong_not_found e = true≢false (cc)

  pub cut_not_found : {a : A} {rest : List ℕ} → cut ≡ found a rest → ⊥
  cut_not_found e = true≢false (cc)

  pub cut_not_wrong : ◌≡◌ {A = Read A} cut wrong → ⊥
  cut_not_wrong e = true≢false (cc)

  pub found_not_wrong : {a : A} {rest : List ℕ} → found a rest ≡ wrong → ⊥
  found_not_wrong e = true≢false (cc)

  pub found_not_cut : {a : A} {rest : List ℕ} → found a rest ≡ cut → ⊥
  found_not_cut e = true≢false (cc)

  pub wrong_not_cut : ◌≡◌ {A = Read A} wrong cut → ⊥
  wrong_not_cut e = true≢false (cc)

  pub found_same : {a b : A} {r s : List ℕ} → found a r ≡ found b s → (a ≡ b) × (r ≡ s)
  found_same e = (cc, cc)

-- ---- one thing and then another

pub record Both {A B : Type 0} (r : Read A) (next : A → List ℕ → Read B) (b : B) (rest : List ℕ) : Type 0 where
  pub thing : A
  pub mid : List ℕ
  pub first : r ≡ found thing mid
  pub second : next thing mid ≡ found b rest

pub then_found : {A B : Type 0} (r : Read A) (next : A → List ℕ → Read B) {b : B} {rest : List ℕ} → and_then r next ≡ found b rest
    → Both r next b rest
then_found (found a mid) next e = record { thing = a; mid = mid; first = refl; second = e }
then_found wrong next e = absurd (wrong_not_found e)
then_found cut next e = absurd (cut_not_found e)

-- ---- more octets

pub record Grows {A : Type 0} (f : List ℕ → Read A) : Type 0 where
  pub found_more : {a : A} {rest : List ℕ} (s t : List ℕ) → f s ≡ found a rest → f (s ++ t) ≡ found a (rest ++ t)
  pub wrong_more : (s t : List ℕ) → f s ≡ wrong → f (s ++ t) ≡ wrong

pub then_grows : {A B : Type 0} (f : List ℕ → Read A) (g : A → List ℕ → Read B) → Grows f → ((a : A) → Grows (g a))
    → Grows (λ (s : List ℕ). and_then (f s) g)
then_grows {A} {B} f g hf hg = record { found_more = λ s t e. more s t (f s) refl e; wrong_more = λ s t e. none s t (f s) refl e }
  where
    more : {b : B} {rest : List ℕ} (s t : List ℕ) (r : Read A) → f s ≡ r → and_then r g ≡ found b rest
        → and_then (f (s ++ t)) g ≡ found b (rest ++ t)
    more s t (found a mid) h e = rw (hf.found_more s t h) ((hg a).found_more mid t e)
    more s t wrong h e = absurd (wrong_not_found e)
    more s t cut h e = absurd (cut_not_found e)

    none : (s t : List ℕ) (r : Read A) → f s ≡ r → and_then r g ≡ wrong → and_then (f (s ++ t)) g ≡ wrong
    none s t (found a mid) h e = rw (hf.found_more s t h) ((hg a).wrong_more mid t e)
    none s t wrong h e = rw (hf.wrong_more s t h)
    none s t cut h e = absurd (cut_not_wrong e)

-- nothing more is read: this is found, or it is wrong
pub found_grows : {A : Type 0} (a : A) → Grows (found a)
found_grows a = record { found_more = λ s t e. cc; wrong_more = λ s t e. absurd (found_not_wrong e) }

pub wrong_grows : {A : Type 0} → Grows {A = A} (λ (s : List ℕ). wrong)
wrong_grows = record { found_more = λ s t e. absurd (wrong_not_found e); wrong_more = λ s t e. refl }
