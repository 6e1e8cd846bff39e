-- Octets written into a space. What is written right behind a piece (`written_behind`) or right before it (`written_before`) makes one
-- piece with it, and a piece that begins at 0 and has nothing behind it is the front of the space (`written_front`).
use mathlib.Core.Path.{◌≡◌, refl, sym, ap, ◌∙◌}
use mathlib.Core.List.{List, [], ◌∷◌, ◌++◌, append-nil, append_assoc}
use Prim.Native.Nat.{ℕ, suc, ◌+◌, ◌-◌, ◌≤◌, ◌<◌}
use native.Mathlib.Numerals.{add-one}
use native.Mathlib.Omega.{arith}
use borrow.Rule.Slice.PartMut.{put_mid, mid_of}
use lib.ListN.{length, take, drop, set, length-append, length-set, length-drop, drop_of_length-le, take-append-drop}
use lib.Seq.{slice, slice_empty, length-take-le, take_all, take-take, take_at, drop_at, drop-drop, set_split, append_snoc}
use lib.Seq.{take-set-le, take-set-lt, drop-set-lt, drop-set-add}
use Rattle.space.specs.Octets.{overlay}
use Rattle.space.specs.Private.Written.{Written}
use Rattle.facts.proofs.Parts.{take_fewer, drop_more, slice_take, slice_behind, slice_split}

-- ---- two pieces

module _ {d : List ℕ} {from at : ℕ} {k : List ℕ} {end to : ℕ} {e : List ℕ} (w : Written d from at k end to e) where
  pub written_wider : {first last : ℕ} → first ≤ from → to ≤ last → last ≤ length d → Written d first at k end last e
  written_wider {first} {last} f l h =
      record {
        begins = omega arith;
        ends = w.ends;
        within = omega arith;
        room = h;
        size = w.size;
        front = take_fewer first from e d f w.front;
        octets = w.octets;
        back = drop_more to last e d l w.back;
      }

  -- it may be written over what is of no use behind the first piece
  pub written_behind : {l : List ℕ} {last more : ℕ} {f : List ℕ} → Written e end end l last more f → to ≤ more
      → Written d from at (k ++ l) last more f
  written_behind {l} {last} {more} {f} v h =
      record {
        begins = w.begins;
        ends = omega (arith, length-append k l);
        within = v.within;
        room = omega arith;
        size = v.size ∙ w.size;
        front = take_fewer from end f e (omega arith) v.front ∙ w.front;
        octets = slice_split at end last f (omega arith) (omega arith) (omega arith) ∙ rw (v.front, w.octets, v.octets);
        back = v.back ∙ drop_more to more e d h w.back;
      }

  -- and over what is of no use before it
  pub written_before : {l : List ℕ} {less first : ℕ} {f : List ℕ} → Written e less first l at at f → less ≤ from
      → Written d less first (l ++ k) end to f
  written_before {l} {less} {first} {f} v h =
      let back : slice at end f ≡ k = slice_behind at end f e (omega arith) (omega arith) (omega arith) v.back ∙ w.octets in
      record {
        begins = v.begins;
        ends = omega (arith, length-append l k);
        within = w.within;
        room = w.room;
        size = v.size ∙ w.size;
        front = v.front ∙ take_fewer less from e d h w.front;
        octets = slice_split first at end f (omega arith) (omega arith) (omega arith) ∙ rw (v.octets, back);
        back = drop_more at to f e (omega arith) v.back ∙ w.back;
      }

  -- a part of what is written
  pub written_part : (a l b : List ℕ) → a ++ l ++ b ≡ k → {first last : ℕ} → at + length a ≡ first → first + length l ≡ last
      → Written d from first l last to e
  written_part a l b is {first} {last} ef el =
      let less : length (a ++ l) + length b ≡ length k = sym (length-append (a ++ l) b) ∙ ap length is in
      let more : length a + length l ≡ length (a ++ l) = sym (length-append a l) in
      let count : last - at ≡ length (a ++ l) = omega arith in
      record {
        begins = omega arith;
        ends = el;
        within = omega arith;
        room = w.room;
        size = w.size;
        front = w.front;
        octets =
            rw (← ef, ← drop-drop (length a) at (take last e), ← take-take last end e (omega arith))
            (rw (slice_take at last (take end e) (omega arith) (omega (arith, length-take-le end e (omega arith))), w.octets, ← is, count)
            (rw (take_at (a ++ l) b (length (a ++ l)) refl) (drop_at a l (length a) refl)));
        back = w.back;
      }

  -- one of its octets is written over, at the index j
  pub written_set : (i j o : ℕ) → i < length k → j ≡ at + i → Written d from at (set k i o) end to (set e j o)
  written_set i j o h is =
      record {
        begins = w.begins;
        ends = simp length-set w.ends;
        within = w.within;
        room = w.room;
        size = length-set e j o ∙ w.size;
        front = take-set-le from e j o (omega arith) ∙ w.front;
        octets = rw (take-set-lt end e j o (omega arith), is, drop-set-add at (take end e) i o, w.octets);
        back = drop-set-lt to e j o (omega arith) ∙ w.back;
      }

  -- what is written over is forgotten
  pub written_over : {less first : ℕ} {l : List ℕ} {last more : ℕ} {f : List ℕ} → Written e less first l last more f
      → less ≤ from → to ≤ more → Written d less first l last more f
  written_over {less} {first} {l} {last} {more} {f} v g h =
      record {
        begins = v.begins;
        ends = v.ends;
        within = v.within;
        room = omega arith;
        size = v.size ∙ w.size;
        front = v.front ∙ take_fewer less from e d g w.front;
        octets = v.octets;
        back = v.back ∙ drop_more to more e d h w.back;
      }

  -- what is written stands there
  pub written_there : Written e from at k end to e
  written_there =
      record {
        begins = w.begins;
        ends = w.ends;
        within = w.within;
        room = omega arith;
        size = refl;
        front = refl;
        octets = w.octets;
        back = refl;
      }

-- ---- one piece

pub written_none : (d : List ℕ) {from at to : ℕ} → from ≤ at → at ≤ to → to ≤ length d → Written d from at [] at to d
written_none d {from} {at} {to} f t h =
    record { begins = f; ends = omega arith; within = t; room = h; size = refl; front = refl; octets = slice_empty at d; back = refl }

-- exactly k
module _ {d : List ℕ} {at : ℕ} {k : List ℕ} {end : ℕ} {e : List ℕ} where
  pub written_exactly : e ≡ take at d ++ k ++ drop end d → at + length k ≡ end → end ≤ length d → Written d at at k end end e
  written_exactly is ends room =
      let head : length (take at d) ≡ at = length-take-le at d (omega arith) in
      let count : length (take at d ++ k) ≡ end = omega (arith, length-append (take at d) k) in
      let whole : take end e ≡ take at d ++ k = ap (take end) is ∙ take_at (take at d ++ k) (drop end d) end count in
      record {
        begins = omega arith;
        ends = ends;
        within = omega arith;
        room = room;
        size = omega (arith, ap length is, length-append (take at d ++ k) (drop end d), length-drop end d);
        front = sym (take-take at end e (omega arith)) ∙ ap (take at) whole ∙ take_at (take at d) k at head;
        octets = ap (drop at) whole ∙ drop_at (take at d) k at head;
        back = ap (drop end) is ∙ drop_at (take at d ++ k) (drop end d) end count;
      }

  pub written_space : Written d at at k end end e → e ≡ take at d ++ k ++ drop end d
  written_space w =
      let whole : take end e ≡ take at d ++ k =
      sym (take-append-drop at (take end e)) ∙ rw (take-take at end e (omega arith), w.front, w.octets) in
      sym (take-append-drop end e) ∙ rw (whole, w.back)

pub written_octet : (d : List ℕ) (i x : ℕ) {end : ℕ} → end ≡ i + 1 → i < length d → Written d i i (x ∷ []) end end (set d i x)
written_octet d i x e h =
    written_exactly (set_split d i x h ∙ rw (e, add-one i) (sym (append_snoc (take i d) x (drop (suc i) d)))) (omega arith) (omega arith)

-- ---- the front of a space

pub written_front : {d : List ℕ} {from : ℕ} {k : List ℕ} {end to : ℕ} {e : List ℕ} → Written d from 0 k end to e → to ≤ end
    → e ≡ overlay k d
written_front {d} {from} {k} {end} {to} {e} w h =
    let same : to ≡ end = omega arith in
    let count : end ≡ length k = omega arith in
    sym (take-append-drop end e) ∙ rw (w.octets, ← same, w.back, same, count)

pub overlay_written : {d k e : List ℕ} → e ≡ overlay k d → {end : ℕ} → end ≡ length k → end ≤ length d → Written d 0 0 k end end e
overlay_written is n room = written_exactly (is ∙ rw n) (omega arith) room

-- octets written over the front of a part, which was lent from the index `from` on and has come back
pub written_lent : (d : List ℕ) (from : ℕ) (k : List ℕ) {ys : List ℕ} → ys ≡ overlay k (mid_of from (length d - from) d) → {end : ℕ}
    → from + length k ≡ end → end ≤ length d → Written d from from k end end (put_mid from (length d - from) d ys)
written_lent d from k {ys} is {end} ends room =
    let all : length (drop from d) ≤ length d - from = omega (arith, length-drop from d) in
    written_exactly
    (rw (
      drop_of_length-le (drop from d) all,
      append-nil ys,
      is,
      take_all (length d - from) (drop from d) all,
      drop-drop (length k) from d,
      ends,
    ) (sym (append_assoc (take from d) k (drop end d)))) ends room

-- ---- octets stored one after the other

-- from the index `at + n` on
abbrev pub stored_from : List ℕ → ℕ → ℕ → List ℕ → List ℕ
stored_from d at n [] = d
stored_from d at n (v ∷ vs) = stored_from (set d (at + n) v) at (suc n) vs

abbrev pub stored : List ℕ → ℕ → List ℕ → List ℕ
stored d at [] = d
stored d at (v ∷ vs) = stored_from (set d at v) at 1 vs

stored_on : (vs : List ℕ) {d : List ℕ} {from at : ℕ} {k : List ℕ} (start n : ℕ) {e : List ℕ} → Written d from at k (start + n) (start + n) e
    → {end : ℕ} → start + n + length vs ≡ end → end ≤ length d → Written d from at (k ++ vs) end end (stored_from e start n vs)
stored_on [] {d} {from} {at} {k} start n w {end} is room = let same : start + n ≡ end = omega arith in rw (append-nil k, ← same) w
stored_on (v ∷ vs) {d} {from} {at} {k} start n {e} w is room =
    rw (← append_snoc k v vs)
    (stored_on vs start (suc n) (written_behind w (written_octet e (start + n) v (omega arith) (omega arith)) (omega arith)) (omega arith)
    room)

pub written_stored : (d : List ℕ) (at : ℕ) (vs : List ℕ) {end : ℕ} → at + length vs ≡ end → end ≤ length d
    → Written d at at vs end end (stored d at vs)
written_stored d at [] {end} e room = let same : at ≡ end = omega arith in rw same (written_none d (omega arith) (omega arith) room)
written_stored d at (v ∷ vs) e room = stored_on vs at 1 (written_octet d at v refl (omega arith)) (omega arith) room

-- ---- pieces of a whole, from the first on

-- of the octets `whole`, which begin at the index `start`, those before the index `at` are written, and `left` is left
pub record Partly (before : List ℕ) (start : ℕ) (whole left : List ℕ) (at to : ℕ) (after : List ℕ) : Type 0 where
  pub fits : start + length whole ≤ length before
  pub done : List ℕ
  pub joins : done ++ left ≡ whole
  pub written : Written before start start done at to after

pub partly_none : (d : List ℕ) (start : ℕ) (whole : List ℕ) {to : ℕ} → start + length whole ≤ length d → start ≤ to → to ≤ length d
    → Partly d start whole whole start to d
partly_none d start whole fits h room = record { fits = fits; done = []; joins = refl; written = written_none d (omega arith) h room }

module _ {d : List ℕ} {start : ℕ} {whole left : List ℕ} {at to : ℕ} {a : List ℕ} (w : Partly d start whole left at to a) where
  pub partly_size : at + length left ≡ start + length whole
  partly_size = omega (arith, ap length w.joins, length-append w.done left)

  -- the next piece is written
  pub partly_more : (k : List ℕ) {rest : List ℕ} → left ≡ k ++ rest → {end more : ℕ} {b : List ℕ} → Written a at at k end more b → to ≤ more
      → Partly d start whole rest end more b
  partly_more k {rest} e v h =
      record {
        fits = w.fits;
        done = w.done ++ k;
        joins = append_assoc w.done k rest ∙ ap (λ (x : List ℕ). w.done ++ x) (sym e) ∙ w.joins;
        written = written_behind w.written v h;
      }

  pub partly_all : left ≡ [] → Written d start start whole at to a
  partly_all e =
      let k : w.done ≡ whole = sym (append-nil w.done) ∙ ap (λ (x : List ℕ). w.done ++ x) (sym e) ∙ w.joins in
      rw (← k) w.written
