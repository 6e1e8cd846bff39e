-- Measuring a name for its text: the octets that are not written alone are counted over the whole name, and those among the length
-- octets as the name is read.
use mathlib.Core.Path.{◌≡◌, ap, ◌∙◌}
use mathlib.Core.List.{List, [], ◌∷◌, map}
use mathlib.Core.Bool.{Bool, not, cond}
use Prim.Native.Nat.{ℕ, suc, ◌+◌, ◌*◌, ◌≤◌, ◌<◌}
use native.Mathlib.Numerals.{add-one}
use native.Mathlib.Omega.{arith}
use lib.ListN.{length, drop, get_or, drop_of_length-le}
use lib.Seq.{drop-cons}
use Rattle.std.specs.Prelude.{Ok}
use Rattle.name.specs.Wire.{reading_of}
use Rattle.name.specs.Labels.{labels_of}
use Rattle.name.specs.Private.Standing.{Standing}
use Rattle.space.specs.Fold.{lower_of, folded}
use Rattle.name.proofs.Whole.{whole_fits}
use Rattle.name.proofs.ReadSteps.{At, at_start, at_next}
use Rattle.name.proofs.Folding.{lower_small, folded_length}
use Rattle.name.proofs.LabelSteps.{Here, here, counted, stands, at_root, not_root}
use Rattle.text.specs.Characters.{printable, special}
use Rattle.order.specs.Order.{folded_labels}
use Rattle.text.specs.WriteText.{characters_of, label_text, text_of}
use Rattle.text.proofs.Characters.{width_some, width_four, width_parts, parts_few, lower_width}
use Rattle.text.proofs.TextLength.{label_cons, label_text_most, name_text_length}
use Rattle.text.proofs.TextSteps.{text_labels}

-- ---- octets

-- of the octets before the i-th, a are special and b are not printable
pub record Counting (s : List ℕ) (a b i : ℕ) : Type 0 where
  pub small : length s ≤ 255
  pub within : i ≤ length s
  pub few : a + b ≤ i
  pub sum : a + 3 * b + i + length (label_text (folded (drop i s))) ≡ length (label_text (folded s))

module _ {s : List ℕ} {a b i : ℕ} (c : Counting s a b i) where
  pub counting_all : length s ≤ i → a + 3 * b + length s ≡ length (label_text (folded s))
  unfolding label_text
  counting_all h = omega (arith, c.sum, c.within, ap (λ (x : List ℕ). length (label_text (folded x))) (drop_of_length-le s h))

  pub counting_step : i < length s → {t u : Bool} → t ≡ special (get_or s i 0) → u ≡ printable (get_or s i 0) → {x y : ℕ}
      → x ≡ a + cond t 1 0 → y ≡ b + cond (not u) 1 0 → Counting s x y (i + 1)
  counting_step h {t} {u} et eu {x} {y} ex ey =
      let o : ℕ = get_or s i 0 in
      let fx : x ≡ a + cond (special o) 1 0 = rw (← et) ex in
      let fy : y ≡ b + cond (not (printable o)) 1 0 = rw (← eu) ey in
      let l : length (label_text (folded (drop i s)))
      ≡ length (characters_of (lower_of o)) + length (label_text (folded (drop (i + 1) s))) =
      rw (drop-cons s i 0 h, add-one i) (label_cons (lower_of o) (folded (drop (suc i) s))) in
      record {
        small = c.small;
        within = omega arith;
        few = omega (arith, c.few, parts_few o, fx, fy);
        sum = omega (arith, c.sum, l, lower_width o, width_parts o, fx, fy);
      }

-- ---- the length octets

-- those before the place p would have n characters more than one each
pub record Lengths (s : List ℕ) (n p : ℕ) : Type 0 where
  pub standing : Standing s p 0
  pub sum : n + length (labels_of s) + length (label_text (map length (labels_of (drop p s))))
      ≡ length (labels_of (drop p s)) + length (label_text (map length (labels_of s)))

-- all would
abbrev pub LengthsOf : List ℕ → ℕ → Type 0
LengthsOf s n = n + length (labels_of s) ≡ length (label_text (map length (labels_of s)))

module _ {s : List ℕ} {n p : ℕ} (c : Lengths s n p) where
  lengths_all : get_or s p 0 ≡ 0 → LengthsOf s n
  unfolding label_text
  lengths_all z = go (labels_of (drop p s)) c.sum (at_root c.standing z)
    where
      go : (ls : List (List ℕ))
          → n + length (labels_of s) + length (label_text (map length ls)) ≡ length ls + length (label_text (map length (labels_of s)))
          → length ls ≡ 0 → LengthsOf s n
      go [] e h = omega arith
      go (l ∷ ls) e h = absurd (omega arith)

  lengths_step : (get_or s p 0 ≡ 0 → ⊥) → {w : ℕ} → w ≡ length (characters_of (lower_of (get_or s p 0))) → {m : ℕ} → m + 1 ≡ n + w
      → Lengths s m (p + 1 + get_or s p 0)
  lengths_step some {w} e {m} k =
      let h : Here s p 1 = here s p 1 (counted c.standing 1 (not_root c.standing some)) (omega arith) in
      let t : length (label_text (map length (labels_of (drop p s))))
      ≡ length (characters_of (length h.label)) + length (label_text (map length h.rest)) =
      rw h.is (label_cons (length h.label) (map length h.rest)) in
      let l : lower_of (get_or s p 0) ≡ length h.label = lower_small (get_or s p 0) (omega (arith, h.octet, h.small)) ∙ h.octet in
      record {
        standing = rw h.octet (counted h.next 0 (omega arith));
        sum = rw (h.octet, h.after) (omega (arith, c.sum, t, ap (λ (x : ℕ). length (characters_of x)) l, ap length h.is));
      }

-- ---- reading

-- reading has come to the place p and, if it finds the octets whole, the length octets before p would have n characters more
pub record Measuring (s : List ℕ) (n p : ℕ) : Type 0 where
  pub small : p ≤ 254
  pub at : At s p
  pub few : n ≤ 3 * p
  pub lengths : reading_of s ≡ Ok tt → Lengths s n p

pub measuring_none : (s : List ℕ) → Measuring s 0 0
measuring_none s =
    record {
      small = omega arith;
      at = at_start s;
      few = omega arith;
      lengths = λ e. record { standing = stands s e; sum = omega arith };
    }

module _ {s : List ℕ} {n p : ℕ} (m : Measuring s n p) where
  pub measured_whole : reading_of s ≡ Ok tt → get_or s p 0 ≡ 0 → LengthsOf s n
  measured_whole e z = lengths_all (m.lengths e) z

  module _ {w : ℕ} (e : w ≡ length (characters_of (lower_of (get_or s p 0)))) where
    pub measuring_some : 1 ≤ w
    measuring_some = omega (arith, width_some (lower_of (get_or s p 0)))

    pub measuring_fits : n + w ≤ 3 * p + 4
    measuring_fits = omega (arith, width_four (lower_of (get_or s p 0)), m.few)

    pub measuring_more : p < length s → (get_or s p 0 ≡ 0 → ⊥) → get_or s p 0 ≤ 63 → p + 1 + get_or s p 0 ≤ 254
        → {k : ℕ} → k + 1 ≡ n + w → Measuring s k (p + 1 + get_or s p 0)
    measuring_more h some size fits c =
        record {
          small = fits;
          at = at_next s p m.at h some size fits;
          few = omega (arith, measuring_fits);
          lengths = λ x. lengths_step (m.lengths x) some e c;
        }

-- ---- the whole text

module _ (s : List ℕ) (e : reading_of s ≡ Ok tt) (x : ℕ) (sum : x + length s ≡ length (label_text (folded s))) where
  pub extra_fits : length s + x ≤ 1020
  extra_fits = omega (arith, sum, label_text_most (folded s), folded_length s, whole_fits s e)

  pub text_measured : (n : ℕ) → LengthsOf s n → (length s ≡ 1 → ⊥) → length s + x ≡ length (text_of (folded_labels s)) + n + 4
  text_measured n l more = omega (arith, sum, l, name_text_length s e, ap length (text_labels s e more))
