-- Owners that are laid out: from names and starts whose owners have octets, the owners joined are the names and their lengths give the
-- starts (`owners_lay_out`); and what is laid out is found again (`laid_out`).
use mathlib.Core.Path.{◌≡◌, refl, sym, ap, ◌∙◌}
use mathlib.Core.List.{List, [], ◌∷◌, ◌++◌, append-nil, append_assoc}
use mathlib.Core.Bool.{Bool, true, false, cond}
use Prim.Native.Nat.{ℕ, zero, suc, ◌+◌, ◌-◌, ◌≤◌, ◌<◌}
use native.Mathlib.Omega.{arith}
use borrow.Author.Tests.{leb-true, le-leb}
use lib.Dec.{leb}
use lib.ListN.{length, take, drop, get_or, length-append, length-drop, take-append-drop}
use lib.Seq.{drop-drop, length-take-le, take_all, drop-append_seam, take-append_seam}
use Rattle.owners.specs.Layout.{part, owners_of}
use Rattle.owners.specs.Lists.{joined, starts_from}

-- every owner has an octet
abbrev pub AllSome : List (List ℕ) → Type 0
AllSome [] = Unit {0}
AllSome (o ∷ os) = (1 ≤ length o) × AllSome os

-- ---- one owner

-- an owner with an octet runs from its start to its end
record Runs (names : List ℕ) (start end : ℕ) : Type 0 where
  up : start < end
  within : end ≤ length names
  is : part names start end ≡ take (end - start) (drop start names)
  size : length (part names start end) ≡ end - start
  before : part names start end ++ drop end names ≡ drop start names

runs : (names : List ℕ) (start end : ℕ) → 1 ≤ length (part names start end) → Runs names start end
runs names start end = go (leb end (length names)) refl
  where
    go : (b : Bool) → leb end (length names) ≡ b → 1 ≤ length (cond b (take (end - start) (drop start names)) [])
        → Runs names start end
    go true e h =
        let w : end ≤ length names = leb-true end (length names) e in
        let u : start < end = up (end - start) refl h in
        let s : length (take (end - start) (drop start names)) ≡ end - start =
        length-take-le (end - start) (drop start names) (rw (length-drop start names) (omega arith)) in
        let j : start + (end - start) ≡ end = omega arith in
        let d : drop (end - start) (drop start names) ≡ drop end names =
        drop-drop (end - start) start names ∙ ap (λ (n : ℕ). drop n names) j in
        record {
          up = u;
          within = w;
          is = rw e;
          size = rw e s;
          before = rw (e, ← d) (take-append-drop (end - start) (drop start names));
        }
      where
        up : (n : ℕ) → end - start ≡ n → 1 ≤ length (take n (drop start names)) → start < end
        up zero z g = absurd (omega arith)
        up (suc n) z g = omega arith
    go false e h = absurd (omega arith)

-- ---- from names and starts to owners

pub owners_lay_out : (names : List ℕ) (s : ℕ) (starts : List ℕ) → AllSome (owners_of names (s ∷ starts))
    → (drop s names ≡ joined (owners_of names (s ∷ starts))) × (s ∷ starts ≡ starts_from s (owners_of names (s ∷ starts)))
unfolding owners_of joined starts_from
owners_lay_out names s [] a =
    let r = runs names s (length names) a.0 in (
      sym (append-nil (part names s (length names)) ∙ r.is
          ∙ take_all (length names - s) (drop s names) (omega (arith, length-drop s names))),
      refl,
    )
owners_lay_out names s (e ∷ starts) a =
    let r = runs names s e a.0 in
    let ih = owners_lay_out names e starts a.1 in
    let n : s + length (part names s e) ≡ e = omega (arith, r.size, r.up) in
    (sym r.before ∙ ap (λ (x : List ℕ). part names s e ++ x) ih.0, rw n (ap (λ (x : List ℕ). s ∷ x) ih.1))

-- ---- and back

next_start : (names pre : List ℕ) (at : ℕ) (o : List ℕ) (os : List (List ℕ)) → names ≡ pre ++ joined (o ∷ os) → at ≡ length pre
    → get_or (starts_from (at + length o) os) 0 (length names) ≡ at + length o
unfolding joined starts_from
next_start names pre at o [] e h = omega (arith, ap length e, length-append pre (o ++ []), length-append o [])
next_start names pre at o (p ∷ os) e h = refl

pub laid_out : (names pre : List ℕ) (at : ℕ) (os : List (List ℕ)) → names ≡ pre ++ joined os → at ≡ length pre
    → owners_of names (starts_from at os) ≡ os
unfolding owners_of joined starts_from
laid_out names pre at [] e h = refl
laid_out names pre at (o ∷ os) e h =
    let n = next_start names pre at o os e h in
    let w : at + length o ≤ length names = omega (arith, ap length e, length-append pre (o ++ joined os), length-append o (joined os)) in
    let k : at + length o - at ≡ length o = omega arith in
    let d : drop at names ≡ o ++ joined os =
    ap (λ (x : List ℕ). drop at x) e ∙ ap (λ (m : ℕ). drop m (pre ++ (o ++ joined os))) h ∙ drop-append_seam pre (o ++ joined os) in
    rw (n, le-leb (at + length o) (length names) w, k, d, take-append_seam o (joined os))
    (ap (λ (x : List (List ℕ)). o ∷ x)
    (laid_out names (pre ++ o) (at + length o) os (e ∙ sym (append_assoc pre o (joined os))) (rw h (sym (length-append pre o)))))
