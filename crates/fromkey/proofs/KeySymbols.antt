-- The symbols and labels of a key's octets: the code gives its symbols back (`symbols_code`), a key its labels (`labels_key`), and which
-- symbol stands at a place is told by one octet or two (`zero_stands`, `octet_stands`, `escape_stands`).
use mathlib.Core.Path.{◌≡◌, refl, sym, ap, ◌∙◌}
use mathlib.Core.List.{List, [], ◌∷◌, map}
use mathlib.Core.Bool.{true, false, true≢false}
use Prim.Native.Nat.{ℕ, zero, suc, ◌+◌, ◌≤◌, ◌<◌}
use native.Mathlib.Omega.{arith}
use borrow.Author.Tests.{lt-leb}
use lib.Dec.{leb}
use lib.ListN.{length, drop, get_or, length-drop, drop_of_length-le}
use lib.Seq.{drop-cons, drop-drop}
use Rattle.facts.proofs.Lists.{drop_next}
use Rattle.order.specs.Sequence.{symbols, on_first, labels}
use Rattle.order.proofs.Sequences.{labels_symbols}
use Rattle.key.specs.Key.{right_key}
use Rattle.fromkey.specs.Private.KeyLabels.{symbols_in, labels_in, sizes_in}
use Rattle.fromkey.specs.Private.Measure.{is_escape}
use Rattle.key.proofs.Codes.{symbol_code, code, key_is_code}
use Rattle.key.proofs.ReaderSteps.{NoEscape, width, symbol_length}

-- ---- what the code of a symbol holds

pub symbols_symbol : (x : ℕ) (s : List ℕ) → symbols_in (symbol_code x s) ≡ x ∷ symbols_in s
unfolding symbols_in
symbols_symbol zero s = refl
symbols_symbol (suc zero) s = refl
symbols_symbol (suc (suc zero)) s = refl
symbols_symbol (suc (suc (suc o))) s = refl

pub symbols_code : (s : List ℕ) → symbols_in (code s) ≡ s
unfolding code symbols_in
symbols_code [] = refl
symbols_code (x ∷ s) = symbols_symbol x (code s) ∙ ap (λ (t : List ℕ). x ∷ t) (symbols_code s)

pub labels_key : (ls : List (List ℕ)) → labels_in (right_key ls) ≡ ls
labels_key ls = rw (key_is_code ls, symbols_code (symbols ls)) (labels_symbols ls)

pub labels_end : (key : List ℕ) (p : ℕ) → length key ≤ p → labels_in (drop p key) ≡ []
unfolding symbols_in labels
labels_end key p h = rw (drop_of_length-le key h)

-- n octets more at the front of the first label
abbrev pub grow_by : ℕ → List ℕ → List ℕ
grow_by n [] = []
grow_by n (m ∷ ms) = (n + m) ∷ ms

pub grow_more : (n : ℕ) (ms : List ℕ) → grow_by n (grow_by 1 ms) ≡ grow_by (n + 1) ms
grow_more n [] = refl
grow_more n (m ∷ ms) = ap (λ (x : ℕ). x ∷ ms) (omega arith)

sizes_first : (o : ℕ) (ls : List (List ℕ)) → map length (on_first o ls) ≡ grow_by 1 (map length ls)
sizes_first o [] = refl
sizes_first o (l ∷ ls) = ap (λ (x : ℕ). x ∷ map length ls) (omega arith)

pub sizes_octet : (o : ℕ) (s : List ℕ) → sizes_in (symbol_code (suc o) s) ≡ grow_by 1 (sizes_in s)
unfolding labels
sizes_octet o s = rw (symbols_symbol (suc o) s) (sizes_first o (labels_in s))

pub sizes_zero : (s : List ℕ) → sizes_in (symbol_code 0 s) ≡ 0 ∷ sizes_in s
unfolding labels symbols_in
sizes_zero s = refl

-- ---- which symbol stands at a place

pub escape_none : (s : List ℕ) (p : ℕ) → length s ≤ p → false ≡ is_escape (drop p s)
escape_none s p h = rw (drop_of_length-le s h)

-- the octet at the place p decides
module _ (s : List ℕ) (p : ℕ) (h : p < length s) where
  pub escape_zero : get_or s p 0 ≡ 0 → false ≡ is_escape (drop p s)
  escape_zero z = rw (drop-cons s p 0 h, z)

  pub escape_is : (get_or s p 0 ≡ 0 → ⊥) → leb (get_or s p 0) 2 ≡ is_escape (drop p s)
  escape_is f = rw (drop-cons s p 0 h) (go (get_or s p 0) f)
    where
      go : (o : ℕ) → (o ≡ 0 → ⊥) → leb o 2 ≡ is_escape (o ∷ drop (suc p) s)
      go zero f = absurd (f refl)
      go (suc zero) f = refl
      go (suc (suc zero)) f = refl
      go (suc (suc (suc o))) f = lt-leb (suc (suc (suc o))) 2 (omega arith)

-- the octets from the place p on are the code of the symbol x, w octets long, and others
pub record Stands (key : List ℕ) (p x w : ℕ) : Type 0 where
  pub code : drop p key ≡ symbol_code x (drop (p + w) key)
  pub long : w ≡ width x

width_some : (x : ℕ) → 1 ≤ width x
width_some zero = omega arith
width_some (suc zero) = omega arith
width_some (suc (suc zero)) = omega arith
width_some (suc (suc (suc o))) = omega arith

pub stands_within : {key : List ℕ} {p x w : ℕ} → Stands key p x w → p + w ≤ length key
stands_within {key} {p} {x} {w} s =
    omega (arith, ap length s.code, symbol_length x (drop (p + w) key), length-drop p key, width_some x, s.long)

module _ (key : List ℕ) (p : ℕ) (h : p < length key) where
  pub zero_stands : get_or key p 0 ≡ 0 → Stands key p 0 1
  zero_stands z = record { code = drop_next key p 0 h ∙ ap (λ (o : ℕ). o ∷ drop (p + 1) key) z; long = refl }

  pub octet_stands : (get_or key p 0 ≡ 0 → ⊥) → (get_or key p 0 ≡ 1 → ⊥) → Stands key p (suc (get_or key p 0)) 1
  octet_stands f g = go (get_or key p 0) (drop_next key p 0 h) f g
    where
      go : (o : ℕ) → drop p key ≡ o ∷ drop (p + 1) key → (o ≡ 0 → ⊥) → (o ≡ 1 → ⊥) → Stands key p (suc o) 1
      go zero e f g = absurd (f refl)
      go (suc zero) e f g = absurd (g refl)
      go (suc (suc o)) e f g = record { code = e; long = refl }

  module _ (one : get_or key p 0 ≡ 1) where
    pub escape_first : drop p key ≡ 1 ∷ drop (p + 1) key
    escape_first = drop_next key p 0 h ∙ ap (λ (o : ℕ). o ∷ drop (p + 1) key) one

    pub escape_stands : is_escape (drop (p + 1) key) ≡ true → (o : ℕ) × (o ≤ 1) × Stands key p (suc o) 2
    escape_stands e = go (drop (p + 1) key) refl e
      where
        rest : (x : ℕ) (t : List ℕ) → drop (p + 1) key ≡ x ∷ t → drop p key ≡ 1 ∷ x ∷ drop (p + 2) key
        rest x t i =
            let n : p + 1 + 1 ≡ p + 2 = omega arith in
            let j : drop (p + 2) key ≡ t = rw (← n, ← drop-drop 1 (p + 1) key, i) in
            escape_first ∙ ap (λ (s : List ℕ). 1 ∷ s) (i ∙ ap (λ (s : List ℕ). x ∷ s) (sym j))

        go : (t : List ℕ) → drop (p + 1) key ≡ t → is_escape t ≡ true → (o : ℕ) × (o ≤ 1) × Stands key p (suc o) 2
        go [] i e = absurd (true≢false (cc))
        go (zero ∷ t) i e = absurd (true≢false (cc))
        go (suc zero ∷ t) i e = (0, omega arith, record { code = rest 1 t i; long = refl })
        go (suc (suc zero) ∷ t) i e = (1, omega arith, record { code = rest 2 t i; long = refl })
        go (suc (suc (suc o)) ∷ t) i e = absurd (true≢false (cc))

    pub escape_missing : is_escape (drop (p + 1) key) ≡ false → NoEscape (drop (p + 1) key)
    escape_missing e = go (drop (p + 1) key) e
      where
        go : (t : List ℕ) → is_escape t ≡ false → NoEscape t
        go [] e = tt
        go (zero ∷ t) e = tt
        go (suc zero ∷ t) e = absurd (true≢false (cc))
        go (suc (suc zero) ∷ t) e = absurd (true≢false (cc))
        go (suc (suc (suc o)) ∷ t) e = tt
