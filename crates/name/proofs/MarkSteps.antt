-- Noting where labels begin while octets are read: the places that are stored at a place p are those of the octets before it, and what
-- stands from p on begins a label (`Noting`).
use mathlib.Core.Path.{◌≡◌, refl, sym, ap, ◌∙◌}
use mathlib.Core.List.{List, [], ◌∷◌, ◌++◌, append-nil, append_assoc}
use Prim.Native.Nat.{ℕ, zero, suc, ◌+◌, ◌*◌, ◌≤◌, ◌<◌}
use native.Mathlib.Nat.{pos_of_ne-zero}
use native.Mathlib.Numerals.{add-one}
use native.Mathlib.Omega.{arith}
use borrow.Author.Tests.{ne_eqb}
use lib.ListN.{length, take, drop, get_or, set, length-append, length-drop, length-take, take-append-drop}
use lib.Seq.{sets, take-add, take-suc, take_all, take-length, drop_at, length-take-le}
use Rattle.facts.proofs.Lists.{drop_next}
use Rattle.std.specs.Prelude.{Ok}
use Rattle.name.specs.Wire.{reading_of}
use Rattle.name.specs.Starts.{starts_from, starts_of}
use Rattle.name.specs.Private.Marks.{Notes}

-- a label that is there whole is passed over
pub starts_skip : (s : List ℕ) (p k : ℕ) → k ≤ length s → starts_from p k s ≡ starts_from (p + k) 0 (drop k s)
unfolding starts_from
starts_skip s p zero h = ap (λ (q : ℕ). starts_from q 0 s) (omega arith)
starts_skip [] p (suc k) h = absurd (omega arith)
starts_skip (o ∷ s) p (suc k) h =
    starts_skip s (p + 1) k (omega arith) ∙ ap (λ (q : ℕ). starts_from q 0 (drop k s)) (omega arith)

-- a label that runs to the end is the last
starts_short : (s : List ℕ) (p k : ℕ) → length s ≤ k → starts_from p k s ≡ []
unfolding starts_from
starts_short [] p k h = refl
starts_short (o ∷ s) p zero h = absurd (omega arith)
starts_short (o ∷ s) p (suc k) h = starts_short s (p + 1) k (omega arith)

-- one store more
sets_more : (xs l : List ℕ) (i x : ℕ) → sets l i (xs ++ x ∷ []) ≡ set (sets l i xs) (i + length xs) x
sets_more [] l i x = ap (λ (k : ℕ). set l k x) (omega arith)
sets_more (y ∷ xs) l i x =
    sets_more xs (set l i y) (suc i) x ∙ ap (λ (k : ℕ). set (sets (set l i y) (suc i) xs) k x) (omega arith)

-- the n places of the octets before p are stored, and a label begins at p, or the name ends there
pub record Noting (s before places : List ℕ) (n p : ℕ) : Type 0 where
  pub few : 2 * n ≤ p
  pub count : n ≡ length (starts_of (take p s))
  pub stored : places ≡ sets before 0 (starts_of (take p s))
  pub parts : p ≤ length s → (t : List ℕ) → starts_of (take p s ++ t) ≡ starts_of (take p s) ++ starts_from p 0 t

pub noting_none : (s before : List ℕ) → Noting s before before 0 0
unfolding starts_from
noting_none s before = record { few = omega arith; count = refl; stored = refl; parts = λ h t. refl }

module _ (s before places : List ℕ) (n p : ℕ) (at : Noting s before places n p) where
  pub noting_cut : length s ≤ p → places ≡ sets before 0 (starts_of (take (length s) s))
  noting_cut h = at.stored ∙ ap (λ (t : List ℕ). sets before 0 (starts_of t)) (take_all p s h ∙ sym (take-length s))

  module _ (h : p < length s) where
    -- the octet at p is 0
    ends : (t : List ℕ) → starts_of (take p s ++ 0 ∷ t) ≡ starts_of (take p s)
    unfolding starts_from
    ends t = at.parts (omega arith) (0 ∷ t) ∙ append-nil (starts_of (take p s))

    pub noting_left_over : get_or s p 0 ≡ 0 → places ≡ sets before 0 (starts_of (take (p + 1) s))
    noting_left_over z =
        at.stored
        ∙ ap (λ (t : List ℕ). sets before 0 t) (sym (ends []))
        ∙ ap (λ (t : List ℕ). sets before 0 (starts_of t)) (sym (rw (add-one p, take-suc s p 0, z)))

    pub noting_all : get_or s p 0 ≡ 0 → reading_of s ≡ Ok tt → Notes s before n places
    noting_all z e =
        record {
          whole = e;
          count = at.count ∙ ap length (sym all);
          stored = at.stored ∙ ap (λ (t : List ℕ). sets before 0 t) (sym all);
        }
      where
        all : starts_of s ≡ starts_of (take p s)
        all = ap starts_of (sym (take-append-drop p s)) ∙ rw (drop_next s p 0, z) (ends (drop (p + 1) s))

    -- a label begins at p: its octets, as many as there are, are passed
    module _ (some : get_or s p 0 ≡ 0 → ⊥) where
      passed : (t : List ℕ) → starts_of (take (p + 1 + get_or s p 0) s ++ t)
          ≡ starts_of (take p s) ++ p ∷ starts_from (p + 1) (get_or s p 0) (take (get_or s p 0) (drop (p + 1) s) ++ t)
      unfolding starts_from
      passed t =
          let o : ℕ = get_or s p 0 in
          let l : List ℕ = take o (drop (p + 1) s) in
          let i : p + 1 + o ≡ p + suc o = omega arith in
          let e : take (p + 1 + o) s ≡ take p s ++ o ∷ l = rw i (take-add p (suc o) s ∙ rw (drop_next s p 0)) in
          ap (λ (u : List ℕ). starts_of (u ++ t)) e
          ∙ ap starts_of (append_assoc (take p s) (o ∷ l) t)
          ∙ at.parts (omega arith) (o ∷ l ++ t)
          ∙ rw (ne_eqb o 0 some)

      one_more : starts_of (take (p + 1 + get_or s p 0) s) ≡ starts_of (take p s) ++ p ∷ []
      one_more =
          let o : ℕ = get_or s p 0 in
          let l : List ℕ = take o (drop (p + 1) s) in
          ap starts_of (sym (append-nil (take (p + 1 + o) s)))
          ∙ passed []
          ∙ ap (λ (u : List ℕ). starts_of (take p s) ++ p ∷ u)
          (starts_short (l ++ []) (p + 1) o (rw (append-nil l) (omega (arith, length-take o (drop (p + 1) s)))))

      pub noting_more : Noting s before (set places n p) (n + 1) (p + 1 + get_or s p 0)
      noting_more =
          let xs : List ℕ = starts_of (take p s) in
          record {
            few = omega (arith, at.few, pos_of_ne-zero some);
            count = omega (arith, ap length one_more, length-append xs (p ∷ []), at.count);
            stored =
                ap (λ (l : List ℕ). set l n p) at.stored
                ∙ ap (λ (k : ℕ). set (sets before 0 xs) k p) (omega (arith, at.count))
                ∙ sym (sets_more xs before 0 p)
                ∙ ap (λ (t : List ℕ). sets before 0 t) (sym one_more);
            parts = λ fits t.
                passed t
                ∙ ap (λ (u : List ℕ). xs ++ p ∷ u) (on fits t)
                ∙ sym (append_assoc xs (p ∷ []) (starts_from (p + 1 + get_or s p 0) 0 t))
                ∙ ap (λ (u : List ℕ). u ++ starts_from (p + 1 + get_or s p 0) 0 t) (sym one_more);
          }
        where
          on : p + 1 + get_or s p 0 ≤ length s → (t : List ℕ)
              → starts_from (p + 1) (get_or s p 0) (take (get_or s p 0) (drop (p + 1) s) ++ t) ≡ starts_from (p + 1 + get_or s p 0) 0 t
          on fits t =
              let o : ℕ = get_or s p 0 in
              let l : List ℕ = take o (drop (p + 1) s) in
              let e : length l ≡ o = length-take-le o (drop (p + 1) s) (omega (arith, length-drop (p + 1) s)) in
              starts_skip (l ++ t) (p + 1) o (omega (arith, e, length-append l t))
              ∙ ap (λ (u : List ℕ). starts_from (p + 1 + o) 0 u) (drop_at l t o e)
