-- The test of 12: labels that an alphabet does not spell have an octet that it does not allow (`not_spelled`), and others have none
-- (`all_spelled_none`).
use mathlib.Core.Path.{◌≡◌, refl, sym, ap, ◌∙◌}
use mathlib.Core.List.{List, [], ◌∷◌, ◌++◌}
use mathlib.Core.Bool.{Bool, true, false, ◌&&◌, true≢false}
use Prim.Native.Nat.{ℕ}
use Rattle.facts.proofs.Booleans.{both_true}
use Rattle.alphabet.specs.declared.Alphabet.{Alphabet}
use Rattle.alphabet.specs.Alphabets.{allowed, spelled, all_spelled}
use Rattle.checks.specs.Under.{above}
use Rattle.demands.specs.DemandOne.{NotSpelled}

module _ (alphabet : Alphabet) where
  -- ---- an octet that is not allowed

  pub record Octet (l : List ℕ) : Type 0 where
    pub octet : ℕ
    pub front : List ℕ
    pub back : List ℕ
    pub is : l ≡ front ++ octet ∷ back
    pub other : allowed alphabet octet ≡ false

  octet_found : (l : List ℕ) → spelled alphabet l ≡ false → Octet l
  octet_found [] e = absurd (true≢false e)
  octet_found (o ∷ l) e = go (allowed alphabet o) refl e (λ k. octet_found l k)
    where
      go : (b : Bool) → allowed alphabet o ≡ b → b && spelled alphabet l ≡ false → (spelled alphabet l ≡ false → Octet l) → Octet (o ∷ l)
      go false h k f = record { octet = o; front = []; back = l; is = refl; other = h }
      go true h k f =
          let r = f k in
          record { octet = r.octet; front = o ∷ r.front; back = r.back; is = ap (λ (t : List ℕ). o ∷ t) r.is; other = r.other }

  pub record Label (ls : List (List ℕ)) : Type 0 where
    pub label : List ℕ
    pub left : List (List ℕ)
    pub right : List (List ℕ)
    pub is : ls ≡ left ++ label ∷ right
    pub has : Octet label

  label_found : (ls : List (List ℕ)) → all_spelled alphabet ls ≡ false → Label ls
  label_found [] e = absurd (true≢false e)
  label_found (l ∷ ls) e = go (spelled alphabet l) refl e (λ k. label_found ls k)
    where
      go : (b : Bool) → spelled alphabet l ≡ b → b && all_spelled alphabet ls ≡ false → (all_spelled alphabet ls ≡ false → Label ls)
          → Label (l ∷ ls)
      go false h k f = record { label = l; left = []; right = ls; is = refl; has = octet_found l h }
      go true h k f =
          let r = f k in
          record {
            label = r.label;
            left = l ∷ r.left;
            right = r.right;
            is = ap (λ (t : List (List ℕ)). l ∷ t) r.is;
            has = r.has;
          }

  pub not_spelled : (apex name : List ℕ) → all_spelled alphabet (above apex name) ≡ false → NotSpelled alphabet apex name
  not_spelled apex name e =
      let r = label_found (above apex name) e in
      let o = r.has in
      record {
        octet = o.octet;
        front = o.front;
        back = o.back;
        left = r.left;
        right = r.right;
        label = r.is ∙ ap (λ (l : List ℕ). r.left ++ l ∷ r.right) o.is;
        other = o.other;
      }

  -- ---- where all are

  octet_none : (l m : List ℕ) (o : ℕ) → spelled alphabet (l ++ o ∷ m) ≡ true → allowed alphabet o ≡ true
  octet_none [] m o e = (both_true (allowed alphabet o) (spelled alphabet m) e).0
  octet_none (x ∷ l) m o e = octet_none l m o (both_true (allowed alphabet x) (spelled alphabet (l ++ o ∷ m)) e).1

  label_none : (us ms : List (List ℕ)) (k : List ℕ) → all_spelled alphabet (us ++ k ∷ ms) ≡ true → spelled alphabet k ≡ true
  label_none [] ms k e = (both_true (spelled alphabet k) (all_spelled alphabet ms) e).0
  label_none (u ∷ us) ms k e = label_none us ms k (both_true (spelled alphabet u) (all_spelled alphabet (us ++ k ∷ ms)) e).1

  pub all_spelled_none : (apex name : List ℕ) → all_spelled alphabet (above apex name) ≡ true → NotSpelled alphabet apex name → ⊥
  all_spelled_none apex name e r =
      let label = r.front ++ r.octet ∷ r.back in
      let is = octet_none r.front r.back r.octet (label_none r.left r.right label (rw r.label at e)) in
      true≢false (sym is ∙ r.other)
