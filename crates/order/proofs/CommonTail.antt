-- Two names that end in the same octets, folded, share the labels that begin within these octets at one distance from the end.
use mathlib.Core.Path.{◌≡◌, sym, ◌∙◌}
use mathlib.Core.List.{List}
use Prim.Native.Nat.{ℕ, ◌+◌, ◌-◌, ◌≤◌, ◌<◌}
use native.Mathlib.Omega.{arith}
use lib.ListN.{length, drop, get_or, drop_of_length-le}
use Rattle.space.specs.Fold.{folded}
use Rattle.name.specs.Private.Marks.{Starts}
use Rattle.name.proofs.Labels.{wire_unique}
use Rattle.order.specs.Order.{folded_labels}
use Rattle.order.proofs.StartPlaces.{start_rest, rest_sizes, starts_folded}

module _ {s a : List ℕ} {m : ℕ} {t b : List ℕ} {n : ℕ} (st : Starts s a m) (su : Starts t b n) where
  pub none_shared : drop (m - 0) (folded_labels s) ≡ drop (n - 0) (folded_labels t)
  none_shared =
      let hs : length (folded_labels s) ≤ m - 0 = omega (arith, starts_folded s a m st) in
      let ht : length (folded_labels t) ≤ n - 0 = omega (arith, starts_folded t b n su) in
      drop_of_length-le (folded_labels s) hs ∙ sym (drop_of_length-le (folded_labels t) ht)

  -- the label before the last k of each name begins at p and at q
  module _ (k p q : ℕ) (hm : k < m) (hn : k < n) (ep : p ≡ get_or a (m - k - 1) 0) (eq : q ≡ get_or b (n - k - 1) 0) where
    pub one_more_shared : drop p (folded s) ≡ drop q (folded t)
        → drop (m - (k + 1)) (folded_labels s) ≡ drop (n - (k + 1)) (folded_labels t)
    one_more_shared e =
        let i : m - (k + 1) ≡ m - k - 1 = omega arith in
        let j : n - (k + 1) ≡ n - k - 1 = omega arith in
        rw (i, j)
        (wire_unique (drop (m - k - 1) (folded_labels s)) (drop (n - k - 1) (folded_labels t)) (rest_sizes s a m (m - k - 1) st)
        (rest_sizes t b n (n - k - 1) su)
        (sym (start_rest s a m (m - k - 1) p st (omega arith) ep) ∙ e ∙ start_rest t b n (n - k - 1) q su (omega arith) eq))
