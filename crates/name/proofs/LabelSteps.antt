-- A label at a place of a name: what stands there, and the place of the next one.
use mathlib.Core.Path.{◌≡◌, refl, sym, ap, ◌∙◌}
use mathlib.Core.List.{List, [], ◌∷◌, ◌++◌}
use Prim.Native.Nat.{ℕ, ◌+◌, ◌-◌, ◌≤◌, ◌<◌}
use native.Mathlib.Nat.{add-zero}
use native.Mathlib.Omega.{arith}
use lib.ListN.{length, take, drop, get_or, length-drop, length-append}
use lib.Seq.{get_or-drop, drop-drop, take-append_seam, drop-append_seam}
use Rattle.std.specs.Prelude.{Ok}
use Rattle.name.specs.Wire.{reading_of}
use Rattle.name.specs.Labels.{wire, Sizes, labels_of}
use Rattle.name.specs.Private.Standing.{Standing}
use Rattle.name.proofs.Labels.{labels_wire, wire_some, wire_labels, label_sizes}

pub record Here (s : List ℕ) (at above : ℕ) : Type 0 where
  pub label : List ℕ
  pub rest : List (List ℕ)
  pub is : labels_of (drop at s) ≡ label ∷ rest
  pub octet : get_or s at 0 ≡ length label
  pub octets : take (length label) (drop (at + 1) s) ≡ label
  pub some : 1 ≤ length label
  pub small : length label ≤ 63
  pub within : at + 1 + length label < length s
  pub after : labels_of (drop (at + 1 + length label) s) ≡ rest
  pub next : Standing s (at + 1 + length label) (above - 1)

pub here : (s : List ℕ) (at above : ℕ) → Standing s at above → 1 ≤ above → Here s at above
here s at above st pos = go (labels_of (drop at s)) refl
  where
    go : (ls : List (List ℕ)) → labels_of (drop at s) ≡ ls → Here s at above
    go [] e = absurd (omega (arith, st.count, ap length e, pos))
    go (l ∷ ls) e =
        let w : length l ∷ l ++ wire ls ≡ drop at s = ap wire (sym e) ∙ st.back in
        let v : Sizes (l ∷ ls) = rw e at st.sizes in
        let n : length l + length (wire ls) + 1 ≡ length s - at =
        omega (arith, ap length w, length-append l (wire ls), length-drop at s) in
        let o : get_or s at 0 ≡ length l =
        ap (λ (i : ℕ). get_or s i 0) (sym (add-zero at)) ∙ sym (get_or-drop at s 0 0) ∙ ap (λ (t : List ℕ). get_or t 0 0) (sym w) in
        let t : drop (at + 1) s ≡ l ++ wire ls = sym (drop-drop 1 at s) ∙ ap (λ (r : List ℕ). drop 1 r) (sym w) in
        let r : drop (at + 1 + length l) s ≡ wire ls = sym (drop-drop (length l) (at + 1) s) ∙ rw t (drop-append_seam l (wire ls)) in
        let a : labels_of (drop (at + 1 + length l) s) ≡ ls = ap labels_of r ∙ labels_wire ls v.2 in
        record {
          label = l;
          rest = ls;
          is = e;
          octet = o;
          octets = rw t (take-append_seam l (wire ls));
          some = v.0;
          small = v.1;
          within = omega (arith, n, wire_some ls);
          after = a;
          next = record {
            sizes = rw a v.2;
            back = rw a (sym r);
            count = rw a (omega (arith, st.count, ap length e));
          };
        }

-- ---- where a name starts, and where it ends

pub stands : (s : List ℕ) → reading_of s ≡ Ok tt → Standing s 0 0
stands s e = record { sizes = label_sizes s e; back = wire_labels s e; count = omega arith }

pub counted : {s : List ℕ} {at above : ℕ} → Standing s at above → (n : ℕ) → n ≤ length (labels_of (drop at s)) → Standing s at n
counted st n h = record { sizes = st.sizes; back = st.back; count = h }

-- the octet at a place where labels begin
pub octet_at : (s : List ℕ) (at above : ℕ) → Standing s at above → get_or s at 0 ≡ get_or (wire (labels_of (drop at s))) 0 0
octet_at s at above st =
    ap (λ (i : ℕ). get_or s i 0) (sym (add-zero at)) ∙ sym (get_or-drop at s 0 0) ∙ ap (λ (t : List ℕ). get_or t 0 0) (sym st.back)

pub inside : {s : List ℕ} {at above : ℕ} → Standing s at above → at < length s
inside {s} {at} st = omega (arith, ap length st.back, wire_some (labels_of (drop at s)), length-drop at s)

pub at_root : {s : List ℕ} {at above : ℕ} → Standing s at above → get_or s at 0 ≡ 0 → length (labels_of (drop at s)) ≡ 0
at_root {s} {at} {above} st z = go (labels_of (drop at s)) st.sizes (sym (octet_at s at above st) ∙ z)
  where
    go : (ls : List (List ℕ)) → Sizes ls → get_or (wire ls) 0 0 ≡ 0 → length ls ≡ 0
    go [] v e = refl
    go (l ∷ ls) v e = absurd (omega (arith, v.0))

pub not_root : {s : List ℕ} {at above : ℕ} → Standing s at above → (get_or s at 0 ≡ 0 → ⊥) → 1 ≤ length (labels_of (drop at s))
not_root {s} {at} {above} st f = go (labels_of (drop at s)) (octet_at s at above st)
  where
    go : (ls : List (List ℕ)) → get_or s at 0 ≡ get_or (wire ls) 0 0 → 1 ≤ length ls
    go [] e = absurd (f e)
    go (l ∷ ls) e = omega arith

-- ---- the place of the next label

pub record Next (s : List ℕ) (at : ℕ) : Type 0 where
  pub within : at + 1 + get_or s at 0 < length s
  pub stands : Standing s (at + 1 + get_or s at 0) 0
  pub drops : labels_of (drop (at + 1 + get_or s at 0) s) ≡ drop 1 (labels_of (drop at s))
