-- The characters of a label written from the table, four octets at a time, with or without what is of no use behind them: what holds when
-- those of its first octets are (`Filling`).
use mathlib.Core.Path.{◌≡◌, refl, sym, ap, ◌∙◌}
use mathlib.Core.List.{List, [], ◌∷◌, ◌++◌, append-nil, append_assoc, map-append}
use Prim.Native.Nat.{ℕ, zero, suc, ◌+◌, ◌*◌, ◌/◌, ◌≤◌, ◌<◌}
use native.Mathlib.Numerals.{add-one}
use native.Mathlib.Omega.{arith}
use lib.ListN.{length, take, drop, get_or, set, length-drop, take-append-drop}
use lib.Seq.{take-suc, get_or-drop, get_or-set_other, set-get_or}
use Rattle.space.specs.Fold.{lower_of, folded}
use Rattle.space.specs.Private.Put.{folded_part}
use Rattle.space.specs.Private.Written.{Written}
use Rattle.space.proofs.Written.{written_wider, written_behind, written_part, written_none, written_stored}
use Rattle.space.proofs.Putting.{part_length}
use Rattle.text.specs.WriteText.{characters_of, label_text}
use Rattle.text.proofs.Characters.{width_some, width_four, width_digits}
use Rattle.text.proofs.TextLength.{label_text_most}
use Rattle.totext.specs.Private.Table.{Entry}

-- ---- one octet

pub entry_written : (e : List ℕ) (at o a b c d : ℕ) → at + 4 ≤ length e → Entry o a b c d
    → Written e at at (characters_of (lower_of o)) (at + 1 + d / 16) (at + 4)
    (set (set (set (set e at a) (at + 1) b) (at + 2) c) (at + 3) d)
entry_written e at o a b c d room is =
    let four : List ℕ = a ∷ b ∷ c ∷ d ∷ [] in
    let l : List ℕ = characters_of (lower_of o) in
    written_part (written_stored e at four refl room) [] l (drop (length l) four)
    (ap (λ (x : List ℕ). x ++ drop (length l) four) (sym is.1) ∙ take-append-drop (length l) four) (omega arith) (omega (arith, is.0))

-- what stands at an index of e is stored there again, after others were stored before it
stored_again : (e f : List ℕ) (i x : ℕ) → get_or f i 0 ≡ get_or e i 0 → x ≡ get_or e i 0 → set f i x ≡ f
stored_again e f i x same is = ap (set f i) (is ∙ sym same) ∙ set-get_or f i 0

written_same : {e f g : List ℕ} {at : ℕ} {k l : List ℕ} {end last : ℕ} → Written e at at k end end f → k ≡ l → end ≡ last → f ≡ g
    → Written e at at l last last g
written_same w is same out = rw (← is, ← same, ← out) w

-- an octet has no three characters
width_not_three : (o n : ℕ) → 1 + n ≡ length (characters_of o) → 1 < n → n ≡ 3
width_not_three o n is more = omega (arith, is, ap length (width_digits o (λ e. omega arith) (λ e. omega arith)))

-- the characters of an octet and, behind them, what stands there
pub entry_exact : (e : List ℕ) (at o a b c d x y z : ℕ) → at + 4 ≤ length e → Entry o a b c d
    → (0 < d / 16 → x ≡ b) → (d / 16 ≤ 0 → x ≡ get_or e (at + 1) 0)
    → (1 < d / 16 → (y ≡ c) × (z ≡ d)) → (d / 16 ≤ 1 → (y ≡ get_or e (at + 2) 0) × (z ≡ get_or e (at + 3) 0))
    → Written e at at (characters_of (lower_of o)) (at + 1 + d / 16) (at + 1 + d / 16)
    (set (set (set (set e at a) (at + 1) x) (at + 2) y) (at + 3) z)
entry_exact e at o a b c d x y z room is more none two one = go (d / 16) refl
  where
    l : List ℕ
    l = characters_of (lower_of o)

    -- the first characters of the entry
    first : (n : ℕ) → n ≡ length l → take n (a ∷ b ∷ c ∷ d ∷ []) ≡ l
    first n same = ap (λ (i : ℕ). take i (a ∷ b ∷ c ∷ d ∷ [])) same ∙ is.1

    go : (n : ℕ) → n ≡ d / 16
        → Written e at at l (at + 1 + d / 16) (at + 1 + d / 16) (set (set (set (set e at a) (at + 1) x) (at + 2) y) (at + 3) z)
    go zero m =
        let f : List ℕ = set e at a in
        written_same (written_stored e at (a ∷ []) refl (omega arith)) (first 1 (omega (arith, is.0))) (omega arith)
        (sym (ap (λ (t : List ℕ). set (set t (at + 2) y) (at + 3) z)
        (stored_again e f (at + 1) x (get_or-set_other e at (at + 1) a 0 (λ q. omega arith)) (none (omega arith)))
        ∙ ap (λ (t : List ℕ). set t (at + 3) z)
        (stored_again e f (at + 2) y (get_or-set_other e at (at + 2) a 0 (λ q. omega arith)) (one (omega arith)).0)
        ∙ stored_again e f (at + 3) z (get_or-set_other e at (at + 3) a 0 (λ q. omega arith)) (one (omega arith)).1))
    go (suc zero) m =
        let f : List ℕ = set (set e at a) (at + 1) x in
        let other : (i : ℕ) → at + 1 < i → get_or f i 0 ≡ get_or e i 0 =
        λ i h. get_or-set_other (set e at a) (at + 1) i x 0 (λ q. omega arith) ∙ get_or-set_other e at i a 0 (λ q. omega arith) in
        written_same (written_stored e at (a ∷ x ∷ []) refl (omega arith)) (rw (more (omega arith)) (first 2 (omega (arith, is.0))))
        (omega arith)
        (sym (ap (λ (t : List ℕ). set t (at + 3) z)
        (stored_again e f (at + 2) y (other (at + 2) (omega arith)) (one (omega arith)).0)
        ∙ stored_again e f (at + 3) z (other (at + 3) (omega arith)) (one (omega arith)).1))
    go (suc (suc k)) m =
        let n : d / 16 ≡ 3 = width_not_three (lower_of o) (d / 16) is.0 (omega arith) in
        written_same (written_stored e at (a ∷ x ∷ y ∷ z ∷ []) refl room)
        (rw (more (omega arith), (two (omega arith)).0, (two (omega arith)).1) (first 4 (omega (arith, is.0)))) (omega arith) refl

-- ---- octets of a name

labels_append : (l m : List ℕ) → label_text (l ++ m) ≡ label_text l ++ label_text m
unfolding label_text
labels_append [] m = refl
labels_append (o ∷ l) m =
    ap (λ (x : List ℕ). characters_of o ++ x) (labels_append l m) ∙ sym (append_assoc (characters_of o) (label_text l) (label_text m))

-- those of one octet more
label_more : (s : List ℕ) (from n : ℕ) → from + n < length s
    → label_text (folded_part s from (n + 1)) ≡ label_text (folded_part s from n) ++ characters_of (lower_of (get_or s (from + n) 0))
unfolding label_text
label_more s from n h =
    let t : List ℕ = drop from s in
    let o : ℕ = get_or s (from + n) 0 in
    let is : take (n + 1) t ≡ take n t ++ o ∷ [] =
    ap (λ (i : ℕ). take i t) (add-one n) ∙ take-suc t n 0 (omega (arith, length-drop from s))
    ∙ ap (λ (x : ℕ). take n t ++ x ∷ []) (get_or-drop from s n 0) in
    ap (λ (x : List ℕ). label_text (folded x)) is
    ∙ ap label_text (map-append lower_of (take n t) (o ∷ []))
    ∙ labels_append (folded_part s from n) (lower_of o ∷ [])
    ∙ ap (λ (x : List ℕ). label_text (folded_part s from n) ++ x) (append-nil (characters_of (lower_of o)))

-- an octet has four characters at most
pub written_most : (s : List ℕ) (from i : ℕ) → from + i ≤ length s → {d : List ℕ} {start at to : ℕ} {e : List ℕ}
    → Written d start start (label_text (folded_part s from i)) at to e → at ≤ start + 4 * i
written_most s from i has w = omega (arith, w.ends, label_text_most (folded_part s from i), part_length s from i has)

-- the characters of the first i octets of those from the index `from` on are written from the index `start` on
pub record Filling (before : List ℕ) (start : ℕ) (s : List ℕ) (from i : ℕ) (after : List ℕ) (at to : ℕ) : Type 0 where
  pub has : from + i ≤ length s
  pub written : Written before start start (label_text (folded_part s from i)) at to after

pub filling_none : (d : List ℕ) (start : ℕ) (s : List ℕ) (from : ℕ) {to : ℕ} → from ≤ length s → start ≤ to → to ≤ length d
    → Filling d start s from 0 d start to
unfolding label_text
filling_none d start s from has more room = record { has = omega arith; written = written_none d (omega arith) more room }

module _ {d : List ℕ} {start : ℕ} {s : List ℕ} {from i : ℕ} {e : List ℕ} {at to : ℕ} (p : Filling d start s from i e at to) where
  pub filling_most : at ≤ start + 4 * i
  filling_most = written_most s from i p.has p.written

  -- the octet at the index j comes next
  pub filling_more : {j : ℕ} → j ≡ from + i → j < length s → {m : ℕ} → m ≡ i + 1 → {end over : ℕ} {f : List ℕ}
      → Written e at at (characters_of (lower_of (get_or s j 0))) end over f → {last : ℕ} → (to ≤ last) × (over ≤ last) × (last ≤ length d)
      → Filling d start s from m f end last
  filling_more {j} is less {m} next w fits =
      rw next (record {
        has = omega arith;
        written =
            rw (label_more s from i (omega arith), ← is)
            (written_behind p.written (written_wider w (omega arith) fits.1 (omega (arith, p.written.size))) fits.0);
      })

  -- it is written from the table, and has room with those behind it, n in all
  pub filling_four : to ≡ at + 3 → {j : ℕ} → j ≡ from + i → {n : ℕ} → i < n → from + n ≤ length s → start + 4 * n + 3 ≤ length d
      → {end : ℕ} {f : List ℕ} → Written e at at (characters_of (lower_of (get_or s j 0))) end (at + 4) f
      → Filling d start s from (i + 1) f end (end + 3)
  filling_four is {j} from-i less all room {end} w =
      let o : ℕ = lower_of (get_or s j 0) in
      filling_more from-i (omega arith) refl w (omega (arith, w.ends, width_some o, width_four o, filling_most))

-- the last two are written, and nothing behind the second
pub filling_end : (s : List ℕ) (from i : ℕ) {d : List ℕ} {start : ℕ} {e : List ℕ} {at : ℕ}
    → Written d start start (label_text (folded_part s from i)) at (at + 3) e
    → {n : ℕ} → i + 2 ≡ n → from + n ≤ length s → start + 4 * n + 1 ≤ length d
    → {j : ℕ} → j ≡ from + i → {mid : ℕ} {f : List ℕ} → Written e at at (characters_of (lower_of (get_or s j 0))) mid mid f
    → {k : ℕ} → k ≡ j + 1 → {end : ℕ} {g : List ℕ} → Written f mid mid (characters_of (lower_of (get_or s k 0))) end end g
    → Written d start start (label_text (folded_part s from n)) end (end + 1) g
filling_end s from i {d} {start} {e} {at} h {n} two all room {j} first {mid} w {k} second {end} v =
    let o : ℕ = lower_of (get_or s j 0) in
    let u : ℕ = lower_of (get_or s k 0) in
    let p : Filling d start s from i e at (at + 3) = record { has = omega arith; written = h } in
    let q =
    filling_more p first (omega arith) refl w {last = mid + 2} (omega (arith, w.ends, width_some o, width_four o, filling_most p)) in
    (filling_more q {j = k} (omega arith) (omega arith) {m = n} (omega arith) v {last = end + 1}
    (omega (arith, w.ends, v.ends, width_some u, width_four o, width_four u, filling_most p))).written

-- a label of one octet
pub filling_one : (s : List ℕ) (from : ℕ) {n : ℕ} → n ≡ 1 → from + n ≤ length s → {d : List ℕ} {start : ℕ} → start + 4 * n + 1 ≤ length d
    → {end : ℕ} {f : List ℕ} → Written d start start (characters_of (lower_of (get_or s from 0))) end end f
    → Written d start start (label_text (folded_part s from n)) end (end + 1) f
filling_one s from {n} one has {d} {start} room {end} w =
    (filling_more (filling_none d start s from {to = start} (omega arith) (omega arith) (omega arith)) {j = from} (omega arith)
    (omega arith)
    {m = n} (omega arith) w {last = end + 1} (omega (arith, w.ends, width_four (lower_of (get_or s from 0))))).written
