-- Where each of two operations undoes the other on the members of a set, where one leads to, the other leads back from (`leads_back`), so
-- that no name comes twice before the start (`round`), and if one comes to every member, so does the other (`round_back`).
use mathlib.Core.Path.{◌≡◌, refl, sym, ◌∙◌}
use mathlib.Core.List.{List}
use Prim.Native.Nat.{ℕ, zero, suc, ◌+◌}
use native.Mathlib.Nat.{zero-add}
use native.Mathlib.Omega.{arith}
use Rattle.name.specs.Answer.{Result, answer}
use Rattle.name.proofs.Answers.{answer_injective}
use Rattle.demands.specs.Turns.{Leads, GoesRound}

-- ---- steps

module _ (step : List ℕ → Result (List ℕ)) where
  -- there is one name that so many steps lead to
  pub leads_one : (k : ℕ) (s t u : List ℕ) → Leads step k s t → Leads step k s u → t ≡ u
  leads_one zero s t u a b = sym a ∙ b
  leads_one (suc k) s t u (v, e, a) (w, f, b) =
      let same : v ≡ w = answer_injective (sym e ∙ f) in
      leads_one k v t u a (rw same b)

  -- one step more
  pub leads_on : (k : ℕ) (s t u : List ℕ) → Leads step k s t → step t ≡ answer u → Leads step (suc k) s u
  leads_on zero s t u a e = (u, (rw a e), refl)
  leads_on (suc k) s t u (v, f, a) e = (v, f, leads_on k v t u a e)

  pub record Parted (j k : ℕ) (s u : List ℕ) : Type 0 where
    pub middle : List ℕ
    pub first : Leads step j s middle
    pub second : Leads step k middle u

  pub leads_part : (j k : ℕ) (s u : List ℕ) → Leads step (j + k) s u → Parted j k s u
  leads_part zero k s u a = record { middle = s; first = refl; second = rw (← zero-add k) a }
  leads_part (suc j) k s u a =
      let e : suc j + k ≡ suc (j + k) = omega arith in
      let b : Leads step (suc (j + k)) s u = rw e at a in
      let p = leads_part j k b.0 u b.2 in
      record { middle = p.middle; first = (b.0, b.1, p.first); second = p.second }

-- ---- two operations

-- a step from a member comes to a member, and the other operation leads back
pub record Undone (In : List ℕ → Type 0) (step back : List ℕ → Result (List ℕ)) : Type 0 where
  pub answered : (s : List ℕ) → In s → (u : List ℕ) × (step s ≡ answer u) × In u × (back u ≡ answer s)

module _ (In : List ℕ → Type 0) (step back : List ℕ → Result (List ℕ)) (undone : Undone In step back) where
  pub leads_back : (k : ℕ) (s t : List ℕ) → In s → Leads step k s t → In t × Leads back k t s
  leads_back zero s t m a = (rw (← a) m, sym a)
  leads_back (suc k) s t m (v, e, a) =
      let r = undone.answered s m in
      let same : r.0 ≡ v = answer_injective (sym r.1 ∙ e) in
      let b = leads_back k v t (rw (← same) r.2) a in
      (b.0, leads_on back k t v s b.1 (rw (← same) r.3))

module _ (In : List ℕ → Type 0) (step back : List ℕ → Result (List ℕ)) (undone : Undone In step back) (other : Undone In back step) where
  -- the steps back from where the same name comes part where it comes first
  leads_return : (j k : ℕ) (s u : List ℕ) → In s → Leads step j s u → Leads step (j + k) s u → Leads step k s s
  leads_return j k s u m a b =
      let p = leads_part back j k u s (leads_back In step back undone (j + k) s u m b).1 in
      let same : p.middle ≡ s = leads_one back j u p.middle s p.first (leads_back In step back undone j s u m a).1 in
      (leads_back In back step other k s s m (rw same at p.second)).1

  pub round : ((s t : List ℕ) → In s → In t → (k : ℕ) × Leads step k s t) → GoesRound In step
  round reaches = record { reaches = reaches; returns = leads_return }

module _ (In : List ℕ → Type 0) (step back : List ℕ → Result (List ℕ)) (undone : Undone In step back) (other : Undone In back step)
    (reaches : (s t : List ℕ) → In s → In t → (k : ℕ) × Leads step k s t) where
  pub round_back : GoesRound In back
  round_back =
      round In back step other undone
      (λ s t a b. let r = reaches t s b a in (r.0, (leads_back In step back undone r.0 t s b r.1).1))

-- ---- the same operation on the same members

leads_by : (f g : List ℕ → Result (List ℕ)) → ((s : List ℕ) → f s ≡ g s) → (k : ℕ) (s t : List ℕ) → Leads f k s t → Leads g k s t
leads_by f g same zero s t a = a
leads_by f g same (suc k) s t (v, e, a) = (v, sym (same s) ∙ e, leads_by f g same k v t a)

pub round_same : (In To : List ℕ → Type 0) → ((s : List ℕ) → To s → In s) → (f g : List ℕ → Result (List ℕ)) → ((s : List ℕ) → f s ≡ g s)
    → GoesRound In f → GoesRound To g
round_same In To from f g same r =
    record {
      reaches = λ s t a b. let k = r.reaches s t (from s a) (from t b) in (k.0, leads_by f g same k.0 s t k.1);
      returns = λ j k s u m a b.
          leads_by f g same k s s
          (r.returns j k s u (from s m) (leads_by g f (λ x. sym (same x)) j s u a) (leads_by g f (λ x. sym (same x)) (j + k) s u b));
    }
