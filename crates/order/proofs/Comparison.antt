-- The comparison is what document 01 says: zero exactly where the labels are the same, otherwise 1 plus the number of labels shared from
-- the right, negative exactly where the first sorts before the second; it lies between -127 and 127, and swapping turns its sign.
use mathlib.Core.Path.{◌≡◌, refl, sym, ap, ◌∙◌}
use mathlib.Core.List.{List, [], ◌∷◌, reverse}
use mathlib.Core.Bool.{Bool, true, false, cond, true≢false}
use mathlib.Core.Logic.{◌⊎◌, inl, inr}
use Prim.Native.Nat.{ℕ, suc}
use native.Mathlib.Omega.{arith}
use borrow.Author.Tests.{ltb-true, lt-ltb, le-ltb}
use lib.Dec.{ltb}
use lib.IntN.{pos, negsuc, neg_ℤ, nat_abs}
use Rattle.std.specs.declared.cmp.Ordering.{Ordering}
use Rattle.std.specs.declared.cmp.Ordering.TheVariants.{Less, Equal, Greater}
use Rattle.order.specs.Order.{◌⊏◌, FromRight, Before}
use Rattle.order.specs.Compare.{order_of, decide, right_order, counted, right_shared, signed, number_of}
use Rattle.order.proofs.Lexicographic.{lex_total}
use Rattle.order.proofs.Canonical.{before_total}
-- passed on, so that a wrong comparison is refused at an example before any law of it is tried
pub use Rattle.order.proofs.Examples.{unsigned_octets, from_the_right, missing_octet, missing_label, letter_case}

-- the number of labels that two names share from the right
abbrev pub shared_labels : List (List ℕ) → List (List ℕ) → ℕ
shared_labels ls ms = right_shared (reverse ls) (reverse ms)

-- ---- one label

pub order_refl : (s : List ℕ) → order_of s s ≡ Equal
order_refl [] = refl
order_refl (x ∷ s) = rw (le-ltb x x (omega arith)) (order_refl s)

pub order_earlier : (s t : List ℕ) → s ⊏ t → order_of s t ≡ Less
order_earlier [] [] h = absurd h
order_earlier [] (y ∷ t) h = refl
order_earlier (x ∷ s) [] h = absurd h
order_earlier (x ∷ s) (y ∷ t) (inl h) = rw (lt-ltb x y h)
order_earlier (x ∷ s) (y ∷ t) (inr h) =
    rw (le-ltb x y (omega (arith, h.0)), le-ltb y x (omega (arith, h.0))) (order_earlier s t h.1)

-- where the two are swapped
abbrev turned : Ordering → Ordering
turned Less = Greater
turned Equal = Equal
turned Greater = Less

order_swap : (a b : List ℕ) → order_of b a ≡ turned (order_of a b)
order_swap [] [] = refl
order_swap [] (y ∷ b) = refl
order_swap (x ∷ a) [] = refl
order_swap (x ∷ a) (y ∷ b) = rw (order_swap a b) (go (ltb x y) (ltb y x) refl refl)
  where
    go : (p q : Bool) → ltb x y ≡ p → ltb y x ≡ q
        → cond q Less (cond p Greater (turned (order_of a b))) ≡ turned (cond p Less (cond q Greater (order_of a b)))
    go true true ep eq = absurd (omega (arith, ltb-true x y ep, ltb-true y x eq))
    go true false ep eq = refl
    go false true ep eq = refl
    go false false ep eq = refl

pub order_later : (s t : List ℕ) → t ⊏ s → order_of s t ≡ Greater
order_later s t h = order_swap t s ∙ ap turned (order_earlier t s h)

pub earlier_same : Less ≡ Equal → ⊥
earlier_same p = true≢false (cc)

pub later_same : Greater ≡ Equal → ⊥
later_same p = true≢false (cc)

pub order_same : (s t : List ℕ) → order_of s t ≡ Equal → s ≡ t
order_same s t e = go (lex_total s t)
  where
    go : (s ⊏ t) ⊎ ((s ≡ t) ⊎ (t ⊏ s)) → s ≡ t
    go (inl h) = absurd (earlier_same (sym (order_earlier s t h) ∙ e))
    go (inr (inl h)) = h
    go (inr (inr h)) = absurd (later_same (sym (order_later s t h) ∙ e))

pub order_differs : (s t : List ℕ) (o : Ordering) → order_of s t ≡ o → (o ≡ Equal → ⊥) → s ≡ t → ⊥
order_differs s t o e f h = f (sym e ∙ ap (λ (x : List ℕ). order_of x t) h ∙ order_refl t)

-- ---- labels, the rightmost first

pub right_refl : (ls : List (List ℕ)) → right_order ls ls ≡ Equal
right_refl [] = refl
right_refl (l ∷ ls) = rw (order_refl l) (right_refl ls)

pub right_earlier : (ls ms : List (List ℕ)) → FromRight ls ms → right_order ls ms ≡ Less
right_earlier [] [] h = absurd h
right_earlier [] (m ∷ ms) h = refl
right_earlier (l ∷ ls) [] h = absurd h
right_earlier (l ∷ ls) (m ∷ ms) (inl h) = rw (order_earlier l m h)
right_earlier (l ∷ ls) (m ∷ ms) (inr h) = rw (h.0, order_refl m) (right_earlier ls ms h.1)

decide_swap : (o p : Ordering) → decide (turned o) (turned p) ≡ turned (decide o p)
decide_swap Less p = refl
decide_swap Equal p = refl
decide_swap Greater p = refl

right_swap : (ls ms : List (List ℕ)) → right_order ms ls ≡ turned (right_order ls ms)
right_swap [] [] = refl
right_swap [] (m ∷ ms) = refl
right_swap (l ∷ ls) [] = refl
right_swap (l ∷ ls) (m ∷ ms) = rw (order_swap l m, right_swap ls ms) (decide_swap (order_of l m) (right_order ls ms))

pub right_later : (ls ms : List (List ℕ)) → FromRight ms ls → right_order ls ms ≡ Greater
right_later ls ms h = right_swap ms ls ∙ ap turned (right_earlier ms ls h)

-- ---- names

pub number_same : (ls : List (List ℕ)) → number_of ls ls ≡ pos 0
number_same ls = rw (right_refl (reverse ls))

pub number_earlier : (ls ms : List (List ℕ)) → Before ls ms → number_of ls ms ≡ negsuc (shared_labels ls ms)
number_earlier ls ms h = rw (right_earlier (reverse ls) (reverse ms) h)

pub number_later : (ls ms : List (List ℕ)) → Before ms ls → number_of ls ms ≡ pos (suc (shared_labels ls ms))
number_later ls ms h = rw (right_later (reverse ls) (reverse ms) h)

pub number_zero : (ls ms : List (List ℕ)) → number_of ls ms ≡ pos 0 → ls ≡ ms
number_zero ls ms e = go (before_total ls ms)
  where
    go : Before ls ms ⊎ ((ls ≡ ms) ⊎ Before ms ls) → ls ≡ ms
    go (inl h) = let f : negsuc (shared_labels ls ms) ≡ pos 0 = sym (number_earlier ls ms h) ∙ e in absurd (neg f)
      where
        neg : {k : ℕ} → negsuc k ≡ pos 0 → ⊥
        neg p = true≢false (cc)
    go (inr (inl h)) = h
    go (inr (inr h)) =
        let f : pos (suc (shared_labels ls ms)) ≡ pos 0 = sym (number_later ls ms h) ∙ e in absurd (omega (arith, ap nat_abs f))

-- ---- swapping turns the sign

counted_swap : (o : Ordering) (n : ℕ) → counted (turned o) n ≡ counted o n
counted_swap Less n = refl
counted_swap Equal n = refl
counted_swap Greater n = refl

shared_swap : (ls ms : List (List ℕ)) → right_shared ms ls ≡ right_shared ls ms
shared_swap [] [] = refl
shared_swap [] (m ∷ ms) = refl
shared_swap (l ∷ ls) [] = refl
shared_swap (l ∷ ls) (m ∷ ms) = rw (order_swap l m, shared_swap ls ms) (counted_swap (order_of l m) (right_shared ls ms))

signed_swap : (o : Ordering) (n : ℕ) → signed (turned o) n ≡ neg_ℤ (signed o n)
signed_swap Less n = refl
signed_swap Equal n = refl
signed_swap Greater n = refl

pub number_swap : (ls ms : List (List ℕ)) → number_of ms ls ≡ neg_ℤ (number_of ls ms)
number_swap ls ms =
    rw (right_swap (reverse ls) (reverse ms), shared_swap (reverse ls) (reverse ms))
    (signed_swap (right_order (reverse ls) (reverse ms)) (right_shared (reverse ls) (reverse ms)))
