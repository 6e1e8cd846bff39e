-- Writing one label of a key: what holds when some of its octets are written (`Putting`), and how each next octet is taken from its code.
use mathlib.Core.Path.{◌≡◌, refl, sym, ap, ◌∙◌}
use mathlib.Core.List.{List, ◌∷◌}
use mathlib.Core.Logic.{◌⊎◌, inl, inr}
use Prim.Native.Nat.{ℕ, zero, suc, ◌+◌, ◌-◌, ◌≤◌, ◌<◌}
use native.Mathlib.Nat.{add-zero}
use native.Mathlib.Omega.{arith}
use lib.ListN.{length, drop, set, get_or, length-drop, drop_of_length-le}
use lib.Seq.{drop-drop, get_or-drop}
use Rattle.facts.proofs.Lists.{drop_next}
use Rattle.space.proofs.Putting.{Copied, copied_more, copied_written}
use Rattle.key.specs.Key.{coded, label_key, right_key}
use Rattle.fromkey.specs.Private.PutName.{label_at, labels_after, LabelAt, PutLabel}

-- ---- the octets at a place

-- at the place p stands the octet x, and then t
pub record Next (key : List ℕ) (p x : ℕ) (t : List ℕ) : Type 0 where
  pub inside : p < length key
  pub octet : get_or key p 0 ≡ x
  pub after : drop (p + 1) key ≡ t

pub next_octet : (key : List ℕ) (p x : ℕ) (t : List ℕ) → drop p key ≡ x ∷ t → Next key p x t
next_octet key p x t e =
    record {
      inside = omega (arith, ap length e, length-drop p key);
      octet = sym (ap (λ (n : ℕ). get_or key n 0) (add-zero p)) ∙ sym (get_or-drop p key 0 0) ∙ ap (λ (s : List ℕ). get_or s 0 0) e;
      after = sym (drop-drop 1 p key) ∙ ap (drop 1) e;
    }

-- the code of an octet is 01 and one more than it, or the octet itself
coded_octet : (o : ℕ) (k : List ℕ) → (coded o k ≡ 1 ∷ (o + 1) ∷ k) ⊎ ((o ≡ 1 → ⊥) × (coded o k ≡ o ∷ k))
coded_octet zero k = inl refl
coded_octet (suc zero) k = inl refl
coded_octet (suc (suc o)) k = inr (λ e. omega arith, refl)

module _ (key : List ℕ) (p o : ℕ) (k : List ℕ) (e : coded o k ≡ drop p key) where
  pub coded_inside : p < length key
  coded_inside = go (coded_octet o k)
    where
      go : (coded o k ≡ 1 ∷ (o + 1) ∷ k) ⊎ ((o ≡ 1 → ⊥) × (coded o k ≡ o ∷ k)) → p < length key
      go (inl i) = (next_octet key p 1 ((o + 1) ∷ k) (sym e ∙ i)).inside
      go (inr i) = (next_octet key p o k (sym e ∙ i.1)).inside

  pub coded_escape : get_or key p 0 ≡ 1 → Next key (p + 1) (o + 1) k
  coded_escape one = go (coded_octet o k)
    where
      go : (coded o k ≡ 1 ∷ (o + 1) ∷ k) ⊎ ((o ≡ 1 → ⊥) × (coded o k ≡ o ∷ k)) → Next key (p + 1) (o + 1) k
      go (inl i) = next_octet key (p + 1) (o + 1) k (next_octet key p 1 ((o + 1) ∷ k) (sym e ∙ i)).after
      go (inr i) = absurd (i.0 (sym (next_octet key p o k (sym e ∙ i.1)).octet ∙ one))

  pub coded_plain : (get_or key p 0 ≡ 1 → ⊥) → Next key p o k
  coded_plain f = go (coded_octet o k)
    where
      go : (coded o k ≡ 1 ∷ (o + 1) ∷ k) ⊎ ((o ≡ 1 → ⊥) × (coded o k ≡ o ∷ k)) → Next key p o k
      go (inl i) = absurd (f (next_octet key p 1 ((o + 1) ∷ k) (sym e ∙ i)).octet)
      go (inr i) = next_octet key p o k (sym e ∙ i.1)

-- ---- along a label

label_code : (l k : List ℕ) (i : ℕ) → i < length l → coded (get_or l i 0) (label_key (drop (i + 1) l) k) ≡ label_key (drop i l) k
unfolding label_key
label_code l k i h = rw (drop_next l i 0 h)

label_end : (l k : List ℕ) (i : ℕ) → length l ≤ i → 0 ∷ k ≡ label_key (drop i l) k
unfolding label_key
label_end l k i h = rw (drop_of_length-le l h)

-- i octets of the label at the place `from` are written, and the code of the others begins at p
pub record Putting (key d₀ : List ℕ) (from n at : ℕ) (d : List ℕ) (p i : ℕ) : Type 0 where
  pub copied : Copied d₀ at (label_at key from) n d i
  pub code : label_key (drop i (label_at key from)) (right_key (labels_after key from)) ≡ drop p key

module _ {key : List ℕ} {from n : ℕ} (l : LabelAt key from n) where
  module _ {d₀ : List ℕ} {at : ℕ} {d : List ℕ} {p i : ℕ} (a : Putting key d₀ from n at d p i) where
    pub putting_all : n ≤ i → PutLabel key from n at d₀ d p
    putting_all h =
        record {
          written = copied_written a.copied h;
          closed = label_end (label_at key from) (right_key (labels_after key from)) i (omega (arith, l.size)) ∙ a.code;
        }

    module _ (more : i < n) where
      octet : ℕ
      octet = get_or (label_at key from) i 0

      others : List ℕ
      others = label_key (drop (i + 1) (label_at key from)) (right_key (labels_after key from))

      here : coded octet others ≡ drop p key
      unfolding octet others
      here = label_code (label_at key from) (right_key (labels_after key from)) i (omega (arith, l.size)) ∙ a.code

      pub putting_inside : p < length key
      putting_inside = coded_inside key p octet others here

      pub putting_escaped : get_or key p 0 ≡ 1 → (p + 1 < length key) × (1 ≤ get_or key (p + 1) 0)
      putting_escaped one = let e = coded_escape key p octet others here one in omega (arith, e.inside, e.octet)

      putting_on : (x q : ℕ) → x ≡ octet → drop q key ≡ others → Putting key d₀ from n at (set d (at + i) x) q (i + 1)
      unfolding octet others
      putting_on x q ex eq = record { copied = copied_more a.copied (at + i) x more refl ex; code = sym eq }

      pub putting_escape : get_or key p 0 ≡ 1 → Putting key d₀ from n at (set d (at + i) (get_or key (p + 1) 0 - 1)) (p + 1 + 1) (i + 1)
      putting_escape one =
          let e = coded_escape key p octet others here one in
          putting_on (get_or key (p + 1) 0 - 1) (p + 1 + 1) (omega (arith, e.octet)) e.after

      pub putting_octet : (get_or key p 0 ≡ 1 → ⊥) → Putting key d₀ from n at (set d (at + i) (get_or key p 0)) (p + 1) (i + 1)
      putting_octet f = let e = coded_plain key p octet others here f in putting_on (get_or key p 0) (p + 1) e.octet e.after

-- the 00 of a label that is written is one of the key's octets
pub put_inside : {key : List ℕ} {p n at : ℕ} {before after : List ℕ} {end : ℕ} → PutLabel key p n at before after end → end < length key
put_inside {key} {p} {n} {at} {before} {after} {end} b = (next_octet key end 0 (right_key (labels_after key p)) (sym b.closed)).inside
