-- Where the text reader stops: what stands before the place can be completed to a text, and with the character at the place it cannot
-- (`stop_at`). So the place is the length of the longest beginning that some text also begins with (`read_stops`).
use mathlib.Core.Path.{◌≡◌, refl, sym, ap, ◌∙◌}
use mathlib.Core.List.{List, [], ◌∷◌, ◌++◌, append_assoc}
use mathlib.Core.Bool.{Bool, true, false, cond}
use Prim.Native.Nat.{ℕ, ◌+◌, ◌≤◌}
use native.Mathlib.Omega.{arith}
use borrow.Author.Tests.{eqb-true, leb-true}
use lib.Dec.{eqb, leb}
use lib.ListN.{length}
use Rattle.facts.proofs.Booleans.{both_true}
use Rattle.name.specs.Reader.{stops}
use Rattle.name.proofs.Beginnings.{stops_not_found, Completes, Blocked, Stop, stop_here, stop_on, stop_longest}
use Rattle.text.specs.Characters.{dot, backslash, number, digit}
use Rattle.text.specs.Grammar.{Spells, escaped, IsText, Longest}
use Rattle.text.specs.ReadText.{fits, close, read_on, after_root, read_text}
use Rattle.text.proofs.Spellings.{goes_on, takes_digit, first_digits, Broken, character, escape, second, third}
use Rattle.text.proofs.Spellings.{text_induction, spelling_starts}
use Rattle.text.proofs.ReaderSteps.{read_dot, read_full, read_spelled, read_broken, broken_full}
use Rattle.text.proofs.ReaderFinds.{has_text_read, read_has_text}

abbrev Stops : List ℕ → Type 0
Stops t = (done label : List ℕ) (p m : ℕ) → read_on done label p t ≡ stops m → Stop (read_on done label p) p t m

-- ---- nothing before the place

-- a dot closes an open label
completes_here : (done label : List ℕ) (p : ℕ) → Completes (read_on done label p) []
unfolding read_on
completes_here done [] p = record { rest = []; whole = done ++ 0 ∷ []; finds = refl }
completes_here done (o ∷ label) p = record { rest = dot ∷ []; whole = close done (o ∷ label) ++ 0 ∷ []; finds = refl }

-- where no further octet fits
blocked_full : (done label : List ℕ) (p y : ℕ) (t : List ℕ) → eqb y dot ≡ false → fits done label ≡ false
    → Blocked (read_on done label p) [] (y ∷ t) p
blocked_full done label p y t e f = λ rest. read_full done label p y rest e f

-- ---- one step

-- the reader passes the characters c, and stops later
passes : (done label : List ℕ) (p : ℕ) (done' label' : List ℕ) (p' : ℕ) (c t : List ℕ) (m : ℕ) → p' ≡ p + length c
    → ((s : List ℕ) → read_on done label p (c ++ s) ≡ read_on done' label' p' s)
    → Stop (read_on done' label' p') p' t m → Stop (read_on done label p) p (c ++ t) m
passes done label p done' label' p' c t m e f k =
    stop_on (read_on done label p) (read_on done' label' p') c (λ s n i. (n, f s ∙ i)) (λ s n i. f s ∙ i) p p' t m e k

stop_end : Stops []
unfolding read_on
stop_end done [] p m e = absurd (stops_not_found (sym e))
stop_end done (o ∷ label) p m e = stop_here (read_on done (o ∷ label) p) p m [] (completes_here done (o ∷ label) p) e tt

stop_dot : (s : List ℕ) → Stops s → Stops (dot ∷ s)
stop_dot s ih done [] p m e =
    stop_here (read_on done [] p) p m (dot ∷ s) (completes_here done [] p) (sym (read_dot done [] p s) ∙ e)
    (λ rest. read_dot done [] p rest)
stop_dot s ih done (o ∷ label) p m e =
    passes done (o ∷ label) p (close done (o ∷ label)) [] (p + 1) (dot ∷ []) s m refl (λ t. read_dot done (o ∷ label) p t)
    (ih (close done (o ∷ label)) [] (p + 1) m (sym (read_dot done (o ∷ label) p s) ∙ e))

stop_spelled : (o : ℕ) (c s : List ℕ) → Spells o c → Stops s → Stops (c ++ s)
stop_spelled o c s h ih done label p m e = go (fits done label) refl
  where
    go : (b : Bool) → fits done label ≡ b → Stop (read_on done label p) p (c ++ s) m
    go true f =
        passes done label p done (label ++ o ∷ []) (p + length c) c s m refl (λ t. read_spelled done label p f o c t h)
        (ih done (label ++ o ∷ []) (p + length c) m (sym (read_spelled done label p f o c s h) ∙ e))
    go false f =
        let r = spelling_starts o c h in
        let i : r.head ∷ (r.tail ++ s) ≡ c ++ s = sym (ap (λ (x : List ℕ). x ++ s) r.is) in
        rw i at
        (stop_here (read_on done label p) p m (r.head ∷ (r.tail ++ s)) (completes_here done label p)
        (sym (read_full done label p r.head (r.tail ++ s) r.no_dot f) ∙ ap (read_on done label p) i ∙ e)
        (blocked_full done label p r.head (r.tail ++ s) r.no_dot f))

-- ---- a spelling that is broken off

-- what follows the beginning of an escape matters by its first character alone
broken_any : (front : List ℕ) (y : ℕ) (back rest : List ℕ) → Broken front (y ∷ back) → Broken front (y ∷ rest)
broken_any front y back rest (character x s a b h ef eb) =
    let i : x ≡ y = cc in character y rest (rw i at a) (rw i at b) (rw i at h) ef refl
broken_any front y back rest (escape h ef) = escape h ef
broken_any front y back rest (second c hc h ef) = second c hc h ef
broken_any front y back rest (third c d hc hd h ef) = third c d hc hd h ef

blocked_broken : (done label : List ℕ) (p : ℕ) → fits done label ≡ true → (front back : List ℕ) → Broken front back
    → Blocked (read_on done label p) front back (p + length front)
blocked_broken done label p f front [] g = tt
blocked_broken done label p f front (y ∷ back) g = λ rest. read_broken done label p f front (y ∷ rest) (broken_any front y back rest g)

-- the rest of a spelling, and a dot behind the label
completes_spelled : (done label : List ℕ) (p : ℕ) → fits done label ≡ true → (o : ℕ) (front rest : List ℕ) → Spells o (front ++ rest)
    → Completes (read_on done label p) front
completes_spelled done label p f o front rest h =
    let q : ℕ = p + length (front ++ rest) in
    let k : Completes (read_on done (label ++ o ∷ []) q) [] = completes_here done (label ++ o ∷ []) q in
    record {
      rest = rest ++ k.rest;
      whole = k.whole;
      finds =
          ap (read_on done label p) (sym (append_assoc front rest k.rest))
          ∙ read_spelled done label p f o (front ++ rest) k.rest h
          ∙ k.finds;
    }

-- behind a backslash an exclamation mark goes on, and behind a digit a 0
completes_broken : (done label : List ℕ) (p : ℕ) → fits done label ≡ true → (front back : List ℕ) → Broken front back
    → Completes (read_on done label p) front
completes_broken done label p f front back (character y s a b h ef eb) = rw ef (completes_here done label p)
completes_broken done label p f front back (escape h ef) =
    rw ef (completes_spelled done label p f 33 (backslash ∷ []) (33 ∷ []) (escaped tt tt refl))
completes_broken done label p f front back (second c hc h ef) =
    let v : number 0 c ≤ 2 = leb-true (number 0 c) 2 (both_true (digit c) (leb (number 0 c) 2) hc).1 in
    let d : goes_on 25 (number 0 c) 48 ≡ true = takes_digit 25 (number 0 c) 0 (omega arith) (omega arith) in
    let e : goes_on 255 (number (number 0 c) 48) 48 ≡ true = takes_digit 255 (number (number 0 c) 48) 0 (omega arith) (omega arith) in
    rw ef (completes_spelled done label p f (number (number (number 0 c) 48) 48) (backslash ∷ c ∷ []) (48 ∷ 48 ∷ [])
    (first_digits c 48 48 hc d e))
completes_broken done label p f front back (third c d hc hd h ef) =
    let v : number (number 0 c) d ≤ 25 = leb-true (number (number 0 c) d) 25 (both_true (digit d) (leb (number (number 0 c) d) 25) hd).1 in
    let e : goes_on 255 (number (number 0 c) d) 48 ≡ true = takes_digit 255 (number (number 0 c) d) 0 (omega arith) (omega arith) in
    rw ef (completes_spelled done label p f (number (number (number 0 c) d) 48) (backslash ∷ c ∷ d ∷ []) (48 ∷ [])
    (first_digits c d 48 hc hd e))

-- it begins with a character that is no dot
broken_blocked : (done label : List ℕ) (p : ℕ) → fits done label ≡ false → (front back : List ℕ) → Broken front back
    → Blocked (read_on done label p) [] (front ++ back) p
broken_blocked done label p f front back (character y s a b h ef eb) = rw (ef, eb) (blocked_full done label p y s a f)
broken_blocked done label p f front back (escape h ef) = rw ef (blocked_full done label p backslash back refl f)
broken_blocked done label p f front back (second c hc h ef) = rw ef (blocked_full done label p backslash (c ∷ back) refl f)
broken_blocked done label p f front back (third c d hc hd h ef) = rw ef (blocked_full done label p backslash (c ∷ d ∷ back) refl f)

stop_broken : (front back : List ℕ) → Broken front back → Stops (front ++ back)
stop_broken front back g done label p m e = go (fits done label) refl
  where
    go : (b : Bool) → fits done label ≡ b → Stop (read_on done label p) p (front ++ back) m
    go true f =
        let i : p + length front ≡ m = cc (read_broken done label p f front back g) in
        record {
          front = front;
          back = back;
          is = refl;
          place = i;
          completes = completes_broken done label p f front back g;
          blocked = rw i at (blocked_broken done label p f front back g);
        }
    go false f =
        stop_here (read_on done label p) p m (front ++ back) (completes_here done label p)
        (sym (broken_full done label p f front back g) ∙ e) (broken_blocked done label p f front back g)

stop_at : (t : List ℕ) → Stops t
stop_at t = text_induction Stops stop_end stop_dot stop_spelled stop_broken t

-- ---- the whole text

-- where no dot comes first
as_read : (c : ℕ) (s : List ℕ) → eqb c dot ≡ false → read_text (c ∷ s) ≡ read_on [] [] 0 (c ∷ s)
as_read c s e = rw e

-- the root's text completes what is empty
completes_root : Completes read_text []
completes_root = record { rest = dot ∷ []; whole = 0 ∷ []; finds = refl }

text_completes : (x : ℕ) (front : List ℕ) → eqb x dot ≡ false → Completes (read_on [] [] 0) (x ∷ front) → Completes read_text (x ∷ front)
text_completes x front e k = record { rest = k.rest; whole = k.whole; finds = as_read x (front ++ k.rest) e ∙ k.finds }

text_blocked : (x : ℕ) (front back : List ℕ) (m : ℕ) → eqb x dot ≡ false → Blocked (read_on [] [] 0) (x ∷ front) back m
    → Blocked read_text (x ∷ front) back m
text_blocked x front [] m e b = tt
text_blocked x front (y ∷ back) m e b = λ rest. as_read x (front ++ y ∷ rest) e ∙ b rest

text_stop : (c : ℕ) (s : List ℕ) (m : ℕ) → eqb c dot ≡ false → Stop (read_on [] [] 0) 0 (c ∷ s) m → Stop read_text 0 (c ∷ s) m
text_stop c s m e k = go k.front k.back k.is k.place k.completes k.blocked
  where
    go : (front back : List ℕ) → front ++ back ≡ c ∷ s → 0 + length front ≡ m → Completes (read_on [] [] 0) front
        → Blocked (read_on [] [] 0) front back m → Stop read_text 0 (c ∷ s) m
    go [] [] i l h b = absurd (omega (arith, ap length i))
    go [] (y ∷ back) i l h b =
        let j : y ≡ c = cc in
        record {
          front = [];
          back = y ∷ back;
          is = i;
          place = l;
          completes = completes_root;
          blocked = λ rest. as_read y rest (rw j e) ∙ b rest;
        }
    go (x ∷ front) back i l h b =
        let j : x ≡ c = cc in
        let n : eqb x dot ≡ false = rw j e in
        record {
          front = x ∷ front;
          back = back;
          is = i;
          place = l;
          completes = text_completes x front n h;
          blocked = text_blocked x front back m n b;
        }

root_stop : (s : List ℕ) (m : ℕ) → after_root s ≡ stops m → Stop read_text 0 (dot ∷ s) m
root_stop [] m e = absurd (stops_not_found (sym e))
root_stop (c ∷ s) m e =
    let i : m ≡ 1 = cc in
    record {
      front = dot ∷ [];
      back = c ∷ s;
      is = refl;
      place = omega arith;
      completes = record { rest = []; whole = 0 ∷ []; finds = refl };
      blocked = λ rest. ap stops (sym i);
    }

read_stop : (t : List ℕ) (m : ℕ) → read_text t ≡ stops m → Stop read_text 0 t m
read_stop [] m e = stop_here read_text 0 m [] completes_root e tt
read_stop (c ∷ s) m e = go (eqb c dot) refl e
  where
    go : (b : Bool) → eqb c dot ≡ b → cond b (after_root s) (read_on [] [] 0 (c ∷ s)) ≡ stops m → Stop read_text 0 (c ∷ s) m
    go true i h = rw (eqb-true c dot i) (root_stop s m h)
    go false i h = text_stop c s m i (stop_at (c ∷ s) [] [] 0 m h)

-- ---- texts that begin so

pub read_stops : (t : List ℕ) (p : ℕ) → read_text t ≡ stops p → Longest t p
read_stops t p e =
    stop_longest IsText read_text (λ s n h. record { name = n; has = read_has_text s n h })
    (λ s m h k. stops_not_found (sym h ∙ has_text_read k.name s k.has)) t p (read_stop t p e)
