-- Writing a name from its end, label by label: what is written from the index `end` on, with the labels that are left put before it, is
-- the name (`Filling`).
use mathlib.Core.Path.{◌≡◌, refl, sym, ap, ◌∙◌}
use mathlib.Core.List.{List, [], ◌∷◌, ◌++◌, reverse_aux, map}
use Prim.Native.Nat.{ℕ, suc, ◌+◌, ◌-◌, ◌≤◌, ◌<◌}
use native.Mathlib.Omega.{arith}
use lib.ListN.{length, drop, set, get_or, length-drop}
use lib.Seq.{drop-drop}
use Rattle.space.specs.Octets.{overlay}
use Rattle.space.specs.Private.Written.{Written}
use Rattle.space.proofs.Written.{written_before, written_over, written_there, written_octet, written_front}
use Rattle.name.specs.Labels.{wire, rest}
use Rattle.key.specs.Key.{right_key}
use Rattle.fromkey.specs.Private.KeyLabels.{labels_in, sizes_in, name_in, first_label}
use Rattle.fromkey.specs.Private.PutName.{Layout, label_at, labels_after, LabelAt, PutLabel}
use Rattle.fromkey.proofs.KeySymbols.{labels_key, labels_end}
use Rattle.fromkey.proofs.MeasureKey.{total, name_total}
use Rattle.fromkey.proofs.ReadLabels.{Next, next_octet}

-- labels, the rightmost first, before the octets w
abbrev pub wire_onto : List (List ℕ) → List ℕ → List ℕ
wire_onto [] w = w
wire_onto (l ∷ ls) w = wire_onto ls (length l ∷ l ++ w)

wire_onto_lem : (ls ms : List (List ℕ)) → wire_onto ls (wire ms) ≡ wire (reverse_aux ls ms)
wire_onto_lem [] ms = refl
wire_onto_lem (l ∷ ls) ms = wire_onto_lem ls (l ∷ ms)

-- the sizes after the first, in the array
overlay_rest : (m : ℕ) (ms s : List ℕ) (k : ℕ) → overlay (m ∷ ms) (drop k s) ≡ m ∷ overlay ms (drop (k + 1) s)
overlay_rest m ms s k =
    let i : k + suc (length ms) ≡ k + 1 + length ms = omega arith in
    rw (drop-drop (suc (length ms)) k s, drop-drop (length ms) (k + 1) s, i)

-- ---- between two labels

-- the name is written from the index `end` on; the label to write next is at the place p, and its size the k-th of those noted
pub record Filling (key sizes d₀ d : List ℕ) (end p k : ℕ) : Type 0 where
  pub array : length sizes ≡ 127
  pub is : right_key (labels_in (drop p key)) ≡ drop p key
  pub noted : overlay (sizes_in (drop p key)) (drop k sizes) ≡ drop k sizes
  pub place : end ≡ total (sizes_in (drop p key))
  pub tail : List ℕ
  pub joins : wire_onto (labels_in (drop p key)) tail ≡ name_in key
  pub written : Written d₀ end end tail (length (name_in key)) (length (name_in key)) d

module _ {key sizes : List ℕ} {n : ℕ} (l : Layout key sizes n) where
  pub filling_size : 1 ≤ n
  filling_size = omega (arith, l.size, name_total (labels_in key))

  module _ (d : List ℕ) (h : n ≤ length d) where
    -- the last octet
    closed : Written d (n - 1) (n - 1) (0 ∷ []) (length (name_in key)) (length (name_in key)) (set d (n - 1) 0)
    closed = written_octet d (n - 1) 0 (omega (arith, l.size, filling_size)) (omega (arith, filling_size))

    pub filling_start : Filling key sizes (set d (n - 1) 0) (set d (n - 1) 0) (n - 1) 0 0
    filling_start =
        record {
          array = l.array;
          is = l.is;
          noted = l.noted;
          place = omega (arith, l.size, name_total (labels_in key));
          tail = 0 ∷ [];
          joins = wire_onto_lem (labels_in key) [];
          written = written_there closed;
        }

    pub filling_all : {e : List ℕ} {end p k : ℕ} → Filling key sizes (set d (n - 1) 0) e end p k → length key ≤ p
        → e ≡ overlay (name_in key) d
    filling_all {e} {end} {p} {k} a none =
        let labels : labels_in (drop p key) ≡ [] = labels_end key p none in
        let z : end ≡ 0 = a.place ∙ ap (λ (ls : List (List ℕ)). total (map length ls)) labels in
        let whole : a.tail ≡ name_in key = rw labels at a.joins in
        written_front (written_over closed (rw (z, whole) at a.written) (omega arith) (omega arith)) (omega arith)

-- where octets of the key are left, they begin with a label
label_first : (key : List ℕ) (p : ℕ) → right_key (labels_in (drop p key)) ≡ drop p key → p < length key
    → labels_in (drop p key) ≡ label_at key p ∷ labels_after key p
unfolding right_key
label_first key p e h = go (labels_in (drop p key)) refl
  where
    go : (ls : List (List ℕ)) → labels_in (drop p key) ≡ ls → ls ≡ first_label ls ∷ rest ls
    go [] i = absurd (omega (arith, length-drop p key, ap length (sym e ∙ ap right_key i)))
    go (l ∷ ls) i = refl

module _ {key sizes d₀ d : List ℕ} {end p k : ℕ} (a : Filling key sizes d₀ d end p k) where
  module _ (h : p < length key) where
    first : labels_in (drop p key) ≡ label_at key p ∷ labels_after key p
    first = label_first key p a.is h

    size_noted : Next sizes k (length (label_at key p)) (overlay (map length (labels_after key p)) (drop (k + 1) sizes))
    size_noted =
        next_octet sizes k (length (label_at key p)) (overlay (map length (labels_after key p)) (drop (k + 1) sizes))
        (sym a.noted
        ∙ ap (λ (ls : List (List ℕ)). overlay (map length ls) (drop k sizes)) first
        ∙ overlay_rest (length (label_at key p)) (map length (labels_after key p)) sizes k)

    pub filling_label : LabelAt key p (get_or sizes k 0)
    unfolding right_key
    filling_label = record { is = sym (ap right_key first) ∙ a.is; size = sym size_noted.octet }

    pub filling_index : k < 127
    filling_index = omega (arith, size_noted.inside, a.array)

    place_first : end ≡ get_or sizes k 0 + 1 + total (map length (labels_after key p))
    place_first = a.place ∙ ap (λ (ls : List (List ℕ)). total (map length ls)) first ∙ omega (arith, size_noted.octet)

    pub filling_fits : get_or sizes k 0 < end
    filling_fits = omega (arith, place_first)

    pub filling_next : {d₁ : List ℕ} {at next : ℕ} → PutLabel key p (get_or sizes k 0) at d d₁ next → at ≡ end - get_or sizes k 0
        → Filling key sizes d₀ (set d₁ (at - 1) (get_or sizes k 0)) (at - 1) (next + 1) (k + 1)
    filling_next {d₁} {at} {next} b i =
        let whole : at + get_or sizes k 0 ≡ end = omega (arith, filling_fits) in
        let label : Written d at at (label_at key p) end end d₁ = rw whole at b.written in
        let after : drop (next + 1) key ≡ right_key (labels_after key p) =
        (next_octet key next 0 (right_key (labels_after key p)) (sym b.closed)).after in
        let others : labels_in (drop (next + 1) key) ≡ labels_after key p = ap labels_in after ∙ labels_key (labels_after key p) in
        record {
          array = a.array;
          is = ap right_key others ∙ sym after;
          noted = ap (λ (ls : List (List ℕ)). overlay (map length ls) (drop (k + 1) sizes)) others ∙ sym size_noted.after;
          place = omega (arith, place_first, ap (λ (ls : List (List ℕ)). total (map length ls)) others);
          tail = get_or sizes k 0 ∷ (label_at key p ++ a.tail);
          joins = rw (others, size_noted.octet) (sym (ap (λ (ls : List (List ℕ)). wire_onto ls a.tail) first) ∙ a.joins);
          written =
              written_before (written_before a.written label (omega arith))
              (written_octet d₁ (at - 1) (get_or sizes k 0) (omega (arith, filling_fits)) (omega (arith, filling_fits))) (omega arith);
        }
