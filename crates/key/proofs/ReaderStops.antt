-- Where the key reader stops: what stands before the place can be completed to a key, and with the octet at the place it cannot
-- (`stop_at`). So the place is the length of the longest beginning that some key also begins with (`read_stops`).
use mathlib.Core.Path.{◌≡◌, refl, sym, ap, ◌∙◌}
use mathlib.Core.List.{List, [], ◌∷◌, ◌++◌, reverse}
use mathlib.Core.Bool.{Bool, true, false, cond, true≢false}
use Prim.Native.Nat.{ℕ, zero, suc, ◌+◌, ◌-◌, ◌≤◌}
use native.Mathlib.Omega.{arith}
use lib.ListN.{length, take, length-append}
use lib.Seq.{length-take-le}
use Rattle.name.specs.Labels.{wire}
use Rattle.name.specs.Answer.{refusal}
use Rattle.order.specs.Sequence.{labels}
use Rattle.order.specs.Place.{Place, at, within, room, move, legal, full}
use Rattle.key.specs.ReadKey.{Read, found, stops, before, read_key, reading, name_read, read_key_of}
use Rattle.name.proofs.Beginnings.{stops_not_found, Completes, Blocked, Stop, stop_here, completes_on, stop_on, stop_longest}
use Rattle.key.specs.Begins.{IsKey, Begins, Longest}
use Rattle.key.proofs.Codes.{symbol_code}
use Rattle.key.proofs.KeyLength.{key_at_most_504}
use Rattle.key.proofs.ReaderSteps.{NoEscape, code_induction, width, symbol_length, symbol_append, escape_legal, read_symbol}
use Rattle.key.proofs.ReaderSteps.{read_end, read_escape_lem, read_broken}
use Rattle.key.proofs.ReadNames.{answered_has_key, refused_no_key}

abbrev Stops : List ℕ → Type 0
Stops k = (n : ℕ) (q : Place) (p m : ℕ) → read_key n q p k ≡ stops m → Stop (read_key n q p) p k m

-- ---- one step

symbol_on : (n : ℕ) (q : Place) (p x : ℕ) (s : List ℕ) (r : Read) → legal full n q x ≡ true
    → read_key (n - 1) (move q x) (p + width x) s ≡ r → read_key n q p (symbol_code x s) ≡ before x r
symbol_on n q p x s r e i = read_symbol n q p x s ∙ rw (e, i)

symbol_off : (n : ℕ) (q : Place) (p x : ℕ) (s : List ℕ) → legal full n q x ≡ false → read_key n q p (symbol_code x s) ≡ stops p
symbol_off n q p x s e = read_symbol n q p x s ∙ rw e

-- a symbol that may stand here is passed
module _ (n : ℕ) (q : Place) (p x : ℕ) (e : legal full n q x ≡ true) where
  symbol_found : (s t : List ℕ) → read_key (n - 1) (move q x) (p + width x) s ≡ found t
      → (w : List ℕ) × (read_key n q p (symbol_code x [] ++ s) ≡ found w)
  symbol_found s t i = (x ∷ t, rw (symbol_append x [] s) (symbol_on n q p x s (found t) e i))

  symbol_stops : (s : List ℕ) (m : ℕ) → read_key (n - 1) (move q x) (p + width x) s ≡ stops m
      → read_key n q p (symbol_code x [] ++ s) ≡ stops m
  symbol_stops s m i = rw (symbol_append x [] s) (symbol_on n q p x s (stops m) e i)

-- nothing before the place: a 0 closes an open label
completes_here : (n : ℕ) (q : Place) (p : ℕ) → Completes (read_key n q p) []
completes_here n (at d) p = record { rest = []; whole = []; finds = read_end n (at d) p }
completes_here n (within d r) p =
    record { rest = 0 ∷ []; whole = 0 ∷ []; finds = symbol_on n (within d r) p 0 [] (found []) refl (read_end (n - 1) (at d) (p + 1)) }

-- after 01 another 01 makes it a symbol
completes_escape : (n : ℕ) (q : Place) (p : ℕ) → room n q ≡ true → Completes (read_key n q p) (1 ∷ [])
completes_escape n q p e =
    let i : legal full n q 1 ≡ true = escape_legal n q ∙ e in
    let c : Completes (read_key n q p) (1 ∷ 1 ∷ []) =
    completes_on (read_key n q p) (read_key (n - 1) (move q 1) (p + 2)) (1 ∷ 1 ∷ []) (symbol_found n q p 1 i) (symbol_stops n q p 1 i) []
    (completes_here (n - 1) (move q 1) (p + 2)) in
    record { rest = 1 ∷ c.rest; whole = c.whole; finds = c.finds }

-- a symbol that may not stand here is stopped at its first octet
blocked_here : (n : ℕ) (q : Place) (p x : ℕ) (k : List ℕ) → legal full n q x ≡ false → Blocked (read_key n q p) [] (symbol_code x k) p
blocked_here n q p zero k e = λ rest. symbol_off n q p 0 rest e
blocked_here n q p (suc zero) k e = λ rest. read_escape_lem n q p rest (sym (escape_legal n q) ∙ e)
blocked_here n q p (suc (suc zero)) k e = λ rest. read_escape_lem n q p rest (sym (escape_legal n q) ∙ e)
blocked_here n q p (suc (suc (suc o))) k e = λ rest. symbol_off n q p (suc (suc (suc o))) rest e

blocked_escape : (n : ℕ) (q : Place) (p : ℕ) (k : List ℕ) → NoEscape k → room n q ≡ true → Blocked (read_key n q p) (1 ∷ []) k (p + 1)
blocked_escape n q p [] h e = tt
blocked_escape n q p (zero ∷ k) h e = λ rest. read_broken n q p (0 ∷ rest) tt e
blocked_escape n q p (suc zero ∷ k) h e = absurd h
blocked_escape n q p (suc (suc zero) ∷ k) h e = absurd h
blocked_escape n q p (suc (suc (suc o)) ∷ k) h e = λ rest. read_broken n q p (suc (suc (suc o)) ∷ rest) tt e

-- ---- where it stops

stop_end : Stops []
stop_end n (at d) p m e = absurd (stops_not_found (sym e ∙ read_end n (at d) p))
stop_end n (within d r) p m e =
    stop_here (read_key n (within d r) p) p m [] (completes_here n (within d r) p) (sym (read_end n (within d r) p) ∙ e) tt

stop_symbol : (x : ℕ) (k : List ℕ) → Stops k → Stops (symbol_code x k)
stop_symbol x k ih n q p m e =
    go (legal full n q x) (read_key (n - 1) (move q x) (p + width x) k) refl refl (sym (read_symbol n q p x k) ∙ e)
  where
    go : (b : Bool) (r : Read) → legal full n q x ≡ b → read_key (n - 1) (move q x) (p + width x) k ≡ r
        → cond b (before x r) (stops p) ≡ stops m → Stop (read_key n q p) p (symbol_code x k) m
    go true (found t) eb er i = absurd (stops_not_found (sym i))
    go true (stops j) eb er i =
        rw (symbol_append x [] k) at
        (stop_on (read_key n q p) (read_key (n - 1) (move q x) (p + width x)) (symbol_code x []) (symbol_found n q p x eb)
        (symbol_stops n q p x eb) p
        (p + width x) k m (omega (arith, symbol_length x [])) (ih (n - 1) (move q x) (p + width x) m (er ∙ i)))
    go false r eb er i = stop_here (read_key n q p) p m (symbol_code x k) (completes_here n q p) i (blocked_here n q p x k eb)

stop_broken : (k : List ℕ) → NoEscape k → Stops (1 ∷ k)
stop_broken k h n q p m e = go (room n q) refl
  where
    go : (b : Bool) → room n q ≡ b → Stop (read_key n q p) p (1 ∷ k) m
    go true eb =
        let i : p + 1 ≡ m = cc (read_broken n q p k h eb) in
        record {
          front = 1 ∷ [];
          back = k;
          is = refl;
          place = omega arith;
          completes = completes_escape n q p eb;
          blocked = rw i at (blocked_escape n q p k h eb);
        }
    go false eb =
        stop_here (read_key n q p) p m (1 ∷ k) (completes_here n q p) (sym (read_escape_lem n q p k eb) ∙ e)
        (λ rest. read_escape_lem n q p rest eb)

stop_at : (k : List ℕ) → Stops k
stop_at k = code_induction Stops stop_end stop_symbol stop_broken k

-- ---- keys that begin so

reads_key : (k s : List ℕ) → reading k ≡ found s → IsKey k
reads_key k s e =
    let a : List ℕ = wire (reverse (labels s)) in
    record { name = a; has = (answered_has_key k a (ap name_read e)).key }

pub read_stops : (k : List ℕ) (p : ℕ) → read_key_of k ≡ refusal 10 (p ∷ []) → Longest k p
read_stops k p e = go (reading k) refl e
  where
    go : (r : Read) → reading k ≡ r → name_read r ≡ refusal 10 (p ∷ []) → Longest k p
    go (found s) er i = absurd (true≢false (cc))
    go (stops m) er i =
        let j : m ≡ p = cc in
        stop_longest IsKey reading reads_key (λ t n h a. refused_no_key t (n ∷ []) a.name (ap name_read h) a.has) k p
        (stop_at k 254 (at 127) 0 p (er ∙ ap stops j))

pub stop_small : (k : List ℕ) (p : ℕ) → read_key_of k ≡ refusal 10 (p ∷ []) → p ≤ 504
stop_small k p e =
    let l : Longest k p = read_stops k p e in
    let b : Begins (take p k) = l.begins p (omega arith) in
    omega (
      arith,
      key_at_most_504 b.accepted.name b.accepted.has.whole,
      ap length b.accepted.has.is,
      length-append (take p k) b.rest,
      length-take-le p k l.within,
    )
