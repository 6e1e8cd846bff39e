-- The canonical sequence of labels, leftmost first: the leftmost label stands at its end (`sequence_cons`), and its first labels are the
-- sequence of the last labels (`cut_sequence`).
use mathlib.Core.Path.{◌≡◌, refl, sym, ap, ◌∙◌}
use mathlib.Core.List.{List, [], ◌∷◌, ◌++◌, reverse, reverse-append, append_assoc}
use Prim.Native.Nat.{ℕ, zero, suc, ◌-◌, ◌≤◌}
use native.Mathlib.Omega.{arith}
use lib.ListN.{length, take, drop, length-drop, length-reverse, take-append-drop}
use mathlib.Core.Bool.{Bool}
use Rattle.order.specs.Sequence.{closed, symbols, sequence}
use Rattle.order.specs.Place.{at, within}
use Rattle.order.proofs.Members.{Labels}
use Rattle.zone.specs.Steps.{last_labels}
use Rattle.zone.proofs.Cut.{cut}
use Rattle.zone.proofs.Walk.{walk, walk_append}

-- a label that is not closed, before the symbols k
unfoldable pub opened : List ℕ → List ℕ → List ℕ
opened [] k = k
opened (o ∷ l) k = suc o ∷ opened l k

pub closed_opened : (l m k : List ℕ) → closed (l ++ m) k ≡ opened l (closed m k)
unfolding closed opened
closed_opened [] m k = refl
closed_opened (o ∷ l) m k = ap (λ (t : List ℕ). suc o ∷ t) (closed_opened l m k)

pub opened_closed : (l k : List ℕ) → opened l (0 ∷ k) ≡ closed l k
unfolding closed opened
opened_closed [] k = refl
opened_closed (o ∷ l) k = ap (λ (t : List ℕ). suc o ∷ t) (opened_closed l k)

pub closed_append : (l j k : List ℕ) → closed l j ++ k ≡ closed l (j ++ k)
unfolding closed
closed_append [] j k = refl
closed_append (o ∷ l) j k = ap (λ (t : List ℕ). suc o ∷ t) (closed_append l j k)

symbols_append : (ls ms : List (List ℕ)) → symbols (ls ++ ms) ≡ symbols ls ++ symbols ms
unfolding symbols
symbols_append [] ms = refl
symbols_append (l ∷ ls) ms = ap (closed l) (symbols_append ls ms) ∙ sym (closed_append l (symbols ls) (symbols ms))

pub sequence_append : (ls ms : List (List ℕ)) → sequence (ls ++ ms) ≡ sequence ms ++ sequence ls
sequence_append ls ms = ap symbols (reverse-append ls ms) ∙ symbols_append (reverse ms) (reverse ls)

pub sequence_cons : (l : List ℕ) (ls : List (List ℕ)) → sequence (l ∷ ls) ≡ sequence ls ++ closed l []
unfolding symbols
sequence_cons l ls = sequence_append (l ∷ []) ls

-- before further symbols
pub sequence_cons_append : (l : List ℕ) (ls : List (List ℕ)) (k : List ℕ) → sequence (l ∷ ls) ++ k ≡ sequence ls ++ closed l k
sequence_cons_append l ls k =
    ap (λ (t : List ℕ). t ++ k) (sequence_cons l ls)
    ∙ append_assoc (sequence ls) (closed l []) k
    ∙ ap (λ (t : List ℕ). sequence ls ++ t) (closed_append l [] k)

-- ---- the last labels

cut_closed : (l k : List ℕ) (d : ℕ) → cut (suc d) (closed l k) ≡ closed l (cut d k)
unfolding cut closed
cut_closed [] k d = refl
cut_closed (o ∷ l) k d = ap (λ (t : List ℕ). suc o ∷ t) (cut_closed l k d)

cut_symbols : (ls : List (List ℕ)) (k : List ℕ) → cut (length ls) (symbols ls ++ k) ≡ symbols ls
unfolding symbols cut
cut_symbols [] k = refl
cut_symbols (l ∷ ls) k =
    ap (cut (suc (length ls))) (closed_append l (symbols ls) k)
    ∙ cut_closed l (symbols ls ++ k) (length ls)
    ∙ ap (closed l) (cut_symbols ls k)

pub cut_sequence : (d : ℕ) (ls : List (List ℕ)) → d ≤ length ls → cut d (sequence ls) ≡ sequence (last_labels d ls)
cut_sequence d ls h =
    let k : ℕ = length ls - d in
    let ms : List (List ℕ) = drop k ls in
    let e : d ≡ length (reverse ms) = omega (arith, length-reverse ms, length-drop k ls) in
    ap (λ (xs : List (List ℕ)). cut d (sequence xs)) (sym (take-append-drop k ls))
    ∙ ap (cut d) (sequence_append (take k ls) ms)
    ∙ ap (λ (i : ℕ). cut i (sequence ms ++ sequence (take k ls))) e
    ∙ cut_symbols (reverse ms) (sequence (take k ls))

-- ---- the place after labels

walk_closed : (l : List ℕ) (d r : ℕ) → walk (within d r) (closed l []) ≡ at d
unfolding walk closed
walk_closed [] d r = refl
walk_closed (o ∷ l) d zero = walk_closed l d zero
walk_closed (o ∷ l) d (suc r) = walk_closed l d r

walk_label : (l : List ℕ) (d : ℕ) → 1 ≤ length l → walk (at (suc d)) (closed l []) ≡ at d
unfolding walk closed
walk_label [] d h = absurd (omega arith)
walk_label (o ∷ l) d h = walk_closed l d 62

module _ (allowed : ℕ → Bool) where
  pub walk_sequence : (ls : List (List ℕ)) (d : ℕ) → Labels allowed ls → length ls ≤ d → walk (at d) (sequence ls) ≡ at (d - length ls)
  unfolding walk symbols
  walk_sequence [] d h b = ap at (omega arith)
  walk_sequence (l ∷ ls) d h b =
      let e : d - length ls ≡ suc (d - suc (length ls)) = omega arith in
      rw (sequence_cons l ls, walk_append (sequence ls) (closed l []) (at d), walk_sequence ls d h.3 (omega arith), e)
      (walk_label l (d - suc (length ls)) h.0)
