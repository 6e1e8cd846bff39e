-- The neighbours of a sequence found from its end: a legal front stays, unless nothing after it can be raised or lowered
-- (`raise_after`, `raise_last_append`, `lower_front`).
use mathlib.Core.Path.{◌≡◌, refl, sym, ap, ◌∙◌}
use mathlib.Core.List.{List, [], ◌∷◌, ◌++◌, append-nil}
use mathlib.Core.Option.{Option, none, some}
use mathlib.Core.Bool.{Bool, true, false}
use Prim.Native.Nat.{ℕ, suc, ◌+◌}
use native.Mathlib.Nat.{suc-add, zero-add}
use native.Mathlib.Omega.{arith}
use lib.ListN.{length, length-append}
use lib.Dec.{T}
use Rattle.order.specs.Place.{Place, move, legal, Valid}
use Rattle.zone.specs.Ring.{prefer, when, lift, raise, lower}

-- the place after a front
unfoldable pub walk : Place → List ℕ → Place
walk q [] = q
walk q (x ∷ c) = walk (move q x) c

pub walk_append : (c e : List ℕ) (q : Place) → walk q (c ++ e) ≡ walk (walk q c) e
unfolding walk
walk_append [] e q = refl
walk_append (x ∷ c) e q = walk_append c e (move q x)

-- an answer found after the front c, or else another
abbrev pub after : List ℕ → Option (List ℕ) → Option (List ℕ) → Option (List ℕ)
after c (some t) m = some (c ++ t)
after c none m = m

after_nil : (m : Option (List ℕ)) → m ≡ after [] m none
after_nil (some t) = refl
after_nil none = refl

after_cons : (x : ℕ) (c : List ℕ) (m a b : Option (List ℕ)) → prefer x (after c m a) b ≡ after (x ∷ c) m (prefer x a b)
after_cons x c (some t) a b = refl
after_cons x c none a b = refl

pub when_true : (b : Bool) (m : Option (List ℕ)) → T b → when b m ≡ m
when_true true m h = refl
when_true false m h = absurd h

module _ (allowed : ℕ → Bool) where
  -- every symbol of the front may stand there, where n symbols are left after it
  abbrev pub Front : Place → List ℕ → ℕ → Type 0
  Front q [] n = Unit {0}
  Front q (x ∷ c) n = T (legal allowed (suc (length c + n)) q x) × Front (move q x) c n

  pub valid_front : (c : List ℕ) (n : ℕ) (q : Place) → Valid allowed (length c + n) q c → Front q c n
  valid_front [] n q v = tt
  valid_front (x ∷ c) n q v =
      let w : Valid allowed (suc (length c + n)) q (x ∷ c) = rw (suc-add (length c) n) at v in
      (w.0, valid_front c n (move q x) w.1)

  -- the last symbol of c that can be raised is, where n symbols are left after c
  unfoldable pub raise_last : ℕ → Place → List ℕ → Option (List ℕ)
  raise_last n q [] = none
  raise_last n q (x ∷ c) = prefer x (raise_last n (move q x) c) (lift allowed (suc (length c + n)) q x)

  pub raise_append : (c : List ℕ) (n : ℕ) (q : Place) (s : List ℕ) → Front q c n
      → raise allowed (length c + n) q (c ++ s) ≡ after c (raise allowed n (walk q c) s) (raise_last n q c)
  unfolding walk raise raise_last
  raise_append [] n q s v = rw zero-add (after_nil (raise allowed n q s))
  raise_append (x ∷ c) n q s v =
      rw (
        suc-add,
        when_true (legal allowed (suc (length c + n)) q x) (raise allowed (length c + n) (move q x) (c ++ s)) v.0,
        raise_append c n (move q x) s v.1,
      )
      (after_cons x c (raise allowed n (walk (move q x) c) s) (raise_last n (move q x) c) (lift allowed (suc (length c + n)) q x))

  -- a sequence ends after its front
  pub raise_after : (c : List ℕ) (n : ℕ) (q : Place) → Front q c n
      → raise allowed (length c + n) q c ≡ after c (raise allowed n (walk q c) []) (raise_last n q c)
  raise_after c n q v =
      ap (λ (s : List ℕ). raise allowed (length c + n) q s) (sym (append-nil c)) ∙ raise_append c n q [] v

  pub raise_last_append : (c e : List ℕ) (n : ℕ) (q : Place)
      → raise_last n q (c ++ e) ≡ after c (raise_last n (walk q c) e) (raise_last (length e + n) q c)
  unfolding walk raise_last
  raise_last_append [] e n q = after_nil (raise_last n q e)
  raise_last_append (x ∷ c) e n q =
      let k : length (c ++ e) + n ≡ length c + (length e + n) = omega (arith, length-append c e) in
      rw (raise_last_append c e n (move q x), k)
      (after_cons x c (raise_last n (walk (move q x) c) e) (raise_last (length e + n) (move q x) c)
      (lift allowed (suc (length c + (length e + n))) q x))

  pub lower_front : (c : List ℕ) (n : ℕ) (q : Place) (s t : List ℕ) → Front q c n → lower allowed n (walk q c) s ≡ some t
      → lower allowed (length c + n) q (c ++ s) ≡ some (c ++ t)
  unfolding walk lower
  lower_front [] n q s t v h = rw zero-add h
  lower_front (x ∷ c) n q s t v h =
      rw (suc-add, lower_front c n (move q x) s t v.1 h, when_true (legal allowed (suc (length c + n)) q x) (some (c ++ t)) v.0)
