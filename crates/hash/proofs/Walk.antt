-- Octets that are rewritten one by one from the right: those from the index i on are what f makes of them, and those before it are as they
-- were. What f makes of octets is what it makes of all but the first, with one octet in front (`rewritten_more`).
use Rattle.std.proofs.Common.{◌≡◌, ℕ, suc, ◌-◌, ◌<◌, ◌≤◌, List, [], ◌∷◌, ◌++◌, length, get_or, take, drop, set, ap, ◌∙◌, append_assoc}
use Rattle.std.proofs.Common.{append-nil, arith, length-take-le, drop-cons, get_or-take, take-suc}
use lib.ListN.{get_or-append}
use lib.Seq.{set_at, take-length, drop-length}

pub record Rewritten (f : List ℕ → List ℕ) (s d : List ℕ) (i : ℕ) : Type 0 where
  pub within : i ≤ length s
  pub octets : d ≡ take i s ++ f (drop i s)

pub drop_before : (s : List ℕ) (i : ℕ) → 0 < i → i ≤ length s → drop (i - 1) s ≡ get_or s (i - 1) 0 ∷ drop i s
drop_before s i pos h =
    let e : suc (i - 1) ≡ i = omega arith in
    drop-cons s (i - 1) 0 (omega arith) ∙ ap (λ (k : ℕ). get_or s (i - 1) 0 ∷ drop k s) e

module _ {f : List ℕ → List ℕ} {s : List ℕ} where
  pub rewritten_none : (n : ℕ) → length s ≡ n → f [] ≡ [] → Rewritten f s s n
  rewritten_none n e none = record { within = omega arith; octets = rw (← e, take-length, drop-length, none, append-nil) }

  module _ {d : List ℕ} {i : ℕ} (w : Rewritten f s d i) where
    pub rewritten_all : i ≤ 0 → d ≡ f s
    rewritten_all h = let z : i ≡ 0 = omega arith in w.octets ∙ rw z

    module _ (pos : 0 < i) where
      -- the next octet is as it was
      pub rewritten_octet : get_or d (i - 1) 0 ≡ get_or s (i - 1) 0
      rewritten_octet =
          rw (w.octets, get_or-append (take i s) (f (drop i s)) 0 (i - 1) (omega (arith, w.within, length-take-le i s w.within)))
          (get_or-take i s (i - 1) 0 (omega arith))

      pub rewritten_more : (x : ℕ) → f (get_or s (i - 1) 0 ∷ drop i s) ≡ x ∷ f (drop i s) → Rewritten f s (set d (i - 1) x) (i - 1)
      rewritten_more x e =
          let n : i ≡ suc (i - 1) = omega arith in
          let front : take i s ≡ take (i - 1) s ++ get_or s (i - 1) 0 ∷ [] =
          ap (λ (k : ℕ). take k s) n ∙ take-suc s (i - 1) 0 (omega (arith, w.within)) in
          record {
            within = omega (arith, w.within);
            octets = rw (w.octets, drop_before s i pos w.within, e, front, append_assoc)
                (set_at (take (i - 1) s) _ _ x (i - 1) (length-take-le (i - 1) s (omega (arith, w.within))));
          }
