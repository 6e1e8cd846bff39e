-- The names at or under a name lie together in the canonical order: one between two of them is one of them (`amid`), for labels that differ
-- from theirs would put it before both or after both.
use mathlib.Core.Path.{◌≡◌, refl, sym, ap, ◌∙◌}
use mathlib.Core.List.{List, [], ◌∷◌, ◌++◌, reverse, reverse-append, reverse-reverse}
use mathlib.Core.Bool.{true}
use mathlib.Core.Logic.{◌⊎◌, inl, inr}
use Prim.Native.Nat.{ℕ}
use Rattle.order.specs.Order.{FromRight, SortsBefore, folded_labels}
use Rattle.order.proofs.Lexicographic.{lex_irreflexive, lex_transitive}
use Rattle.order.proofs.Canonical.{before_total, before_irreflexive}
use Rattle.checks.specs.Under.{is_under, above}
use Rattle.checks.proofs.UnderLabels.{under_labels, labels_under}
use Rattle.encloser.proofs.Gaps.{under_not_before}
use Rattle.owners.proofs.Searching.{sorts_transitive}

-- ---- names in order

-- the first name does not sort after the second
abbrev pub NotAfter : List ℕ → List ℕ → Type 0
NotAfter first second = SortsBefore first second ⊎ (folded_labels first ≡ folded_labels second)

pub not_both : (first second : List ℕ) → SortsBefore first second → NotAfter second first → ⊥
not_both first second h (inl k) = before_irreflexive (folded_labels first) (sorts_transitive first second first h k)
not_both first second h (inr e) = before_irreflexive (folded_labels first) (rw e at h)

pub not_after_transitive : (first second third : List ℕ) → NotAfter first second → NotAfter second third → NotAfter first third
not_after_transitive first second third (inl h) (inl k) = inl (sorts_transitive first second third h k)
not_after_transitive first second third (inl h) (inr e) = inl (rw e at h)
not_after_transitive first second third (inr e) k = rw e k

-- a name does not sort after one that is at or under it
pub above_not_after : (top name : List ℕ) → is_under top name ≡ true → NotAfter top name
above_not_after top name u = go (before_total (folded_labels top) (folded_labels name))
  where
    go : SortsBefore top name ⊎ ((folded_labels top ≡ folded_labels name) ⊎ SortsBefore name top) → NotAfter top name
    go (inl h) = inl h
    go (inr (inl e)) = inr e
    go (inr (inr h)) = absurd (under_not_before top name u h)

-- ---- a name between two others

-- labels, the rightmost first: what lies between two lists with a common front has that front
front_between : (cs ls ms ns : List (List ℕ)) → FromRight (cs ++ ls) ms → FromRight ms (cs ++ ns)
    → (rest : List (List ℕ)) × (ms ≡ cs ++ rest)
front_between [] ls ms ns h k = (ms, refl)
front_between (c ∷ cs) ls [] ns h k = absurd h
front_between (c ∷ cs) ls (m ∷ ms) ns (inl h) (inl k) = absurd (lex_irreflexive c (lex_transitive c m c h k))
front_between (c ∷ cs) ls (m ∷ ms) ns (inl h) (inr k) = absurd (lex_irreflexive c (rw k.0 at h))
front_between (c ∷ cs) ls (m ∷ ms) ns (inr h) (inl k) = absurd (lex_irreflexive m (rw h.0 at k))
front_between (c ∷ cs) ls (m ∷ ms) ns (inr h) (inr k) =
    let r = front_between cs ls ms ns h.1 k.1 in
    let e : c ≡ m = h.0 in
    let f : ms ≡ cs ++ r.0 = r.1 in
    (r.0, (cc))

module _ (top first name last : List ℕ) (u : is_under top first ≡ true) (v : is_under top last ≡ true) where
  abbrev T : List (List ℕ)
  T = folded_labels top

  strictly_amid : SortsBefore first name → SortsBefore name last → is_under top name ≡ true
  strictly_amid h k =
      let f : reverse (folded_labels first) ≡ reverse T ++ reverse (above top first) =
      ap reverse (under_labels top first u) ∙ reverse-append (above top first) T in
      let l : reverse (folded_labels last) ≡ reverse T ++ reverse (above top last) =
      ap reverse (under_labels top last v) ∙ reverse-append (above top last) T in
      let r = front_between (reverse T) (reverse (above top first)) (reverse (folded_labels name)) (reverse (above top last))
      (rw f at h) (rw l at k) in
      labels_under top name (reverse r.0)
      (sym (reverse-reverse (folded_labels name))
      ∙ ap reverse {y = reverse T ++ r.0} r.1
      ∙ reverse-append (reverse T) r.0
      ∙ ap (λ (x : List (List ℕ)). reverse r.0 ++ x) (reverse-reverse T))

  pub amid : NotAfter first name → NotAfter name last → is_under top name ≡ true
  amid (inl h) (inl k) = strictly_amid h k
  amid (inr e) k = labels_under top name (above top first) (sym e ∙ under_labels top first u)
  amid (inl h) (inr e) = labels_under top name (above top last) (e ∙ under_labels top last v)
