-- All octets at the end of two lists that are the same, folded: those that are seen to be (`Tail`) are all where a list ends before them,
-- or where the octets before them differ.
use mathlib.Core.Path.{◌≡◌, refl, sym, ap, ◌∙◌}
use mathlib.Core.List.{List}
use Prim.Native.Nat.{ℕ, ◌+◌, ◌-◌, ◌≤◌, ◌<◌}
use native.Mathlib.Omega.{arith}
use native.Mathlib.Decide.{dec_le}
use lib.ListN.{length, drop, get_or, get_or-map}
use lib.Seq.{get_or-drop}
use Rattle.space.specs.Fold.{folded, lower_of}
use Rattle.tail.proofs.Tails.{Tail, tail_more, agree_start, agree_more}
use Rattle.enclosing.specs.Private.Ends.{SameEnd}

pub tail_of : {s t : List ℕ} {n : ℕ} → SameEnd s t n → Tail s t n
tail_of e = record { first = e.first; second = e.second; same = e.same }

-- the octet before the last c of the last m
octet_before : (s : List ℕ) (c m : ℕ) → c < m → m ≤ length s
    → get_or (drop (length s - m) (folded s)) (m - c - 1) 0 ≡ lower_of (get_or s (length s - c - 1) 0)
octet_before s c m h k =
    let i : length s - m + (m - c - 1) ≡ length s - c - 1 = omega arith in
    get_or-drop (length s - m) (folded s) (m - c - 1) 0
    ∙ ap (λ (j : ℕ). get_or (folded s) j 0) i
    ∙ get_or-map lower_of s (length s - c - 1) 0

module _ {s t : List ℕ} {c : ℕ} (g : Tail s t c) where
  pub ended : length s ≤ c → SameEnd s t c
  ended h = record { first = g.first; second = g.second; same = g.same; most = λ m a b e. omega arith }

  pub ended_second : length t ≤ c → SameEnd s t c
  ended_second h = record { first = g.first; second = g.second; same = g.same; most = λ m a b e. omega arith }

  module _ (hs : c < length s) (ht : c < length t) (x y : ℕ) (ex : x ≡ lower_of (get_or s (length s - c - 1) 0))
      (ey : y ≡ lower_of (get_or t (length t - c - 1) 0)) where
    pub one_more : x ≡ y → Tail s t (c + 1)
    one_more e =
        let p : length s - c - 1 + 0 ≡ length s - c - 1 = omega arith in
        let q : length t - c - 1 + 0 ≡ length t - c - 1 = omega arith in
        tail_more g 1 (omega arith) (omega arith)
        ((agree_more 0 (rw p ex) (rw q ey) (agree_start s (length s - c - 1) t (length t - c - 1)) (omega arith) (omega arith) e
        ).found refl)

    pub differ : (x ≡ y → ⊥) → SameEnd s t c
    differ f = record { first = g.first; second = g.second; same = g.same; most = λ m a b e. go m a b e (dec_le m c) }
      where
        go : (m : ℕ) → m ≤ length s → m ≤ length t → drop (length s - m) (folded s) ≡ drop (length t - m) (folded t) → Dec (m ≤ c) → m ≤ c
        go m a b e (yes h) = h
        go m a b e (no h) =
            absurd
            (f
            (ex
            ∙ sym (octet_before s c m (omega arith) a)
            ∙ ap (λ (l : List ℕ). get_or l (m - c - 1) 0) e
            ∙ octet_before t c m (omega arith) b
            ∙ sym ey))
