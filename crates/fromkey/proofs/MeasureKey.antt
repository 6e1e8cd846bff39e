-- Measuring a key label by label: what holds between two labels (`Measuring`), and what it says at the end of the key.
use mathlib.Core.Path.{◌≡◌, refl, sym, ap, ◌∙◌}
use mathlib.Core.List.{List, [], ◌∷◌, ◌++◌, append-nil, reverse, reverse-reverse, map}
use Prim.Native.Nat.{ℕ, ◌+◌, ◌-◌, ◌*◌, ◌≤◌}
use native.Mathlib.Omega.{arith}
use lib.ListN.{length, take, drop, take-append-drop, drop_of_length-le}
use lib.Seq.{length-take-le}
use Rattle.name.specs.Labels.{wire}
use Rattle.order.specs.Sequence.{symbols, labels}
use Rattle.order.specs.Place.{at, full}
use Rattle.order.proofs.Sequences.{symbols_cons, labels_symbols}
use Rattle.order.proofs.Canonical.{sequence_length}
use Rattle.order.proofs.Members.{valid_member}
use Rattle.key.specs.Key.{right_key}
use Rattle.key.specs.ReadKey.{Read, found, stops, reading}
use Rattle.fromkey.specs.Private.KeyLabels.{symbols_in, labels_in, sizes_in}
use Rattle.fromkey.specs.Private.Measure.{stop_of, stop_from}
use Rattle.fromkey.specs.Private.PutName.{Layout}
use Rattle.key.proofs.Codes.{code, key_is_code}
use Rattle.key.proofs.ReaderSteps.{read_end}
use Rattle.key.proofs.ReaderFinds.{Coded, read_found}
use Rattle.fromkey.proofs.KeySymbols.{symbols_code, labels_end}

-- ---- what was read

-- octets that are read to their end are the key of their labels
pub found_key : (key s : List ℕ) → reading key ≡ found s → right_key (labels s) ≡ key
found_key key s e =
    let c : Coded 254 (at 127) key s = read_found key s e in
    let m = valid_member full 254 127 s c.valid in
    rw (← m.1, labels_symbols m.0) (key_is_code m.0 ∙ ap code m.1 ∙ c.is)

found_symbols : (key s : List ℕ) → reading key ≡ found s → s ≡ symbols_in key
found_symbols key s e = sym (symbols_code s) ∙ ap symbols_in (read_found key s e).is

pub read_whole : (key : List ℕ) → stop_of (reading key) ≡ 0 → reading key ≡ found (symbols_in key)
read_whole key h = go (reading key) refl h
  where
    go : (r : Read) → reading key ≡ r → stop_of r ≡ 0 → reading key ≡ found (symbols_in key)
    go (found s) e i = e ∙ ap found (found_symbols key s e)
    go (stops p) e i = absurd (omega arith)

-- ---- lengths

-- how many octets labels of these sizes have, with their length octets
abbrev pub total : List ℕ → ℕ
total [] = 0
total (m ∷ ms) = m + 1 + total ms

symbols_total : (ls : List (List ℕ)) → length (symbols ls) ≡ total (map length ls)
unfolding symbols
symbols_total [] = refl
symbols_total (l ∷ ls) = omega (arith, symbols_cons l ls, symbols_total ls)

pub name_total : (ls : List (List ℕ)) → length (wire (reverse ls)) ≡ total (map length ls) + 1
name_total ls = sequence_length (reverse ls) ∙ rw (reverse-reverse ls) (omega (arith, symbols_total ls))

-- ---- between two labels

-- k labels are measured, `left` symbols are left, and the next label's place is p
pub record Measuring (key sizes : List ℕ) (left p k : ℕ) : Type 0 where
  pub within_key : p ≤ length key
  pub fits : left + 2 * k ≤ 254
  pub array : length sizes ≡ 127
  pub reads : stop_of (reading key) ≡ stop_from key left (127 - k) 0 p
  pub noted : take k sizes ++ sizes_in (drop p key) ≡ sizes_in key
  pub length_left : left + total (sizes_in key) ≡ 254 + total (sizes_in (drop p key))

module _ {key sizes : List ℕ} {left p k : ℕ} (a : Measuring key sizes left p k) where
  pub measuring_whole : length key ≤ p → (reading key ≡ found (symbols_in key)) × Layout key sizes (255 - left)
  measuring_whole h =
      let end : drop p key ≡ [] = drop_of_length-le key h in
      let e : reading key ≡ found (symbols_in key) = read_whole key (a.reads ∙ rw (end, read_end (left - 0) (at (127 - k)) p)) in
      let none : sizes_in (drop p key) ≡ [] = ap (map length) (labels_end key p h) in
      let noted : take k sizes ≡ sizes_in key = sym (append-nil (take k sizes)) ∙ rw none at a.noted in (
        e,
        record {
          is = found_key key (symbols_in key) e;
          array = a.array;
          noted = rw (← noted, length-take-le k sizes (omega (arith, a.fits, a.array))) (take-append-drop k sizes);
          size = omega (arith, a.fits, a.length_left, ap total none, name_total (labels_in key));
        },
      )
