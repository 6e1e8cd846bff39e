-- The folded name from its second octet on, with dots in place of the length octets, is its labels with a dot behind each: what holds when
-- those before a place are dots (`Dotting`).
use mathlib.Core.Path.{◌≡◌, refl, sym, ap, ◌∙◌}
use mathlib.Core.List.{List, [], ◌∷◌, ◌++◌, append_assoc, map-append}
use Prim.Native.Nat.{ℕ, ◌+◌, ◌-◌, ◌≤◌, ◌<◌}
use native.Mathlib.Numerals.{add-one}
use native.Mathlib.Omega.{arith}
use lib.ListN.{length, take, drop, get_or, set, length-append, drop_of_length-le, take-append-drop}
use lib.Seq.{drop-cons, drop-drop, set_at, append_snoc}
use Rattle.std.specs.Prelude.{Ok}
use Rattle.space.specs.Octets.{overlay}
use Rattle.name.specs.Wire.{reading_of}
use Rattle.name.specs.Private.Standing.{Standing}
use Rattle.space.specs.Fold.{lower_of, folded}
use Rattle.space.specs.Private.Put.{folded_part}
use Rattle.space.specs.Private.Put.{put_folded}
use Rattle.space.specs.Private.Written.{Written}
use Rattle.space.proofs.Written.{written_set, written_over, written_there, written_front}
use Rattle.space.proofs.Putting.{part_length, part_rest, folded_written}
use Rattle.name.proofs.LabelSteps.{stands}
use Rattle.order.specs.Order.{folded_labels}
use Rattle.text.specs.Characters.{dot}
use Rattle.text.proofs.TextSteps.{label_within, label_next}
use Rattle.totext.specs.Private.Shown.{joined}
use Rattle.totext.proofs.Joined.{joined_none, joined_step}

-- the labels before the place p are written, each with its dot, and behind them stand the folded octets of the name behind the place
pub record Dotting (s d : List ℕ) (p : ℕ) (a : List ℕ) : Type 0 where
  pub standing : Standing s p 0
  pub done : List ℕ
  pub joins : done ++ joined (folded_labels (drop p s)) ≡ joined (folded_labels s)
  pub size : length done ≡ p
  pub written : Written d 0 0 (done ++ folded (drop (p + 1) s)) (length s - 1) (length s - 1) a

module _ {s d : List ℕ} {p : ℕ} {a : List ℕ} (w : Dotting s d p a) where
  -- a label stands at the place p
  module _ (more : p + 1 < length s) where
    size_of : length (folded_part s (p + 1) (get_or s p 0)) ≡ get_or s p 0
    size_of = part_length s (p + 1) (get_or s p 0) (omega (arith, label_within s p w.standing more))

    -- the octets behind the place: the label, and the next length octet
    octets : folded (drop (p + 1) s)
        ≡ folded_part s (p + 1) (get_or s p 0) ++ lower_of (get_or s (p + 1 + get_or s p 0) 0) ∷ folded (drop (p + 1 + get_or s p 0 + 1) s)
    octets =
        let n : ℕ = get_or s p 0 in
        ap folded (sym (take-append-drop n (drop (p + 1) s)))
        ∙ map-append lower_of (take n (drop (p + 1) s)) (drop n (drop (p + 1) s))
        ∙ ap (λ (x : List ℕ). folded_part s (p + 1) n ++ folded x)
        (drop-drop n (p + 1) s ∙ drop-cons s (p + 1 + n) 0 (label_within s p w.standing more)
        ∙ ap (λ (i : ℕ). get_or s (p + 1 + n) 0 ∷ drop i s) (sym (add-one (p + 1 + n))))

    pub dotting_place : p + get_or s p 0 < length a
    dotting_place = omega (arith, label_within s p w.standing more)

    -- the dot is written over the next length octet
    dotted : set (w.done ++ folded (drop (p + 1) s)) (p + get_or s p 0) dot
        ≡ ((w.done ++ folded_part s (p + 1) (get_or s p 0)) ++ dot ∷ []) ++ folded (drop (p + 1 + get_or s p 0 + 1) s)
    dotted =
        let n : ℕ = get_or s p 0 in
        let l : List ℕ = folded_part s (p + 1) n in
        let r : List ℕ = folded (drop (p + 1 + n + 1) s) in
        let o : ℕ = lower_of (get_or s (p + 1 + n) 0) in
        let f : length (w.done ++ l) ≡ p + n = omega (arith, length-append w.done l, size_of) in
        ap (λ (x : List ℕ). set x (p + n) dot) (ap (λ (x : List ℕ). w.done ++ x) octets ∙ sym (append_assoc w.done l (o ∷ r)))
        ∙ set_at (w.done ++ l) o r dot (p + n) f
        ∙ sym (append_snoc (w.done ++ l) dot r)

    pub dotting_next : Dotting s d (p + 1 + get_or s p 0) (set a (p + get_or s p 0) dot)
    dotting_next =
        let n : ℕ = get_or s p 0 in
        let l : List ℕ = folded_part s (p + 1) n in
        let t : List ℕ = joined (folded_labels (drop (p + 1 + n) s)) in
        record {
          standing = label_next s p w.standing more;
          done = (w.done ++ l) ++ dot ∷ [];
          joins =
              append_assoc (w.done ++ l) (dot ∷ []) t
              ∙ append_assoc w.done l (dot ∷ t)
              ∙ ap (λ (x : List ℕ). w.done ++ x) (sym (joined_step s p w.standing more))
              ∙ w.joins;
          size = omega (arith, length-append w.done l, size_of, length-append (w.done ++ l) (dot ∷ []));
          written =
              rw dotted at
              (written_set w.written (p + n) (p + n) dot (omega (arith, label_within s p w.standing more)) (omega arith));
        }

-- ---- the copy

-- the space d, with the folded name from its second octet on at its front
module _ (s d b : List ℕ) (some : 1 ≤ length s) (room : length s ≤ length d + 1) (is : b ≡ put_folded d 0 s 1 (length s - 1)) where
  copied : Written d 0 0 (folded (drop 1 s)) (length s - 1) (length s - 1) b
  copied =
      rw (part_rest s 1 (length s - 1) (omega arith)) at
      (folded_written d 0 s 1 (length s - 1) (omega arith) is {end = length s - 1} (omega arith) (omega arith))

  pub dotting_none : reading_of s ≡ Ok tt → Dotting s b 0 b
  dotting_none e =
      record { standing = stands s e; done = []; joins = refl; size = refl; written = written_there copied }

  pub dotting_all : {p : ℕ} {a : List ℕ} → Dotting s b p a → length s ≤ p + 1 → a ≡ overlay (joined (folded_labels s)) d
  dotting_all {p} {a} w h =
      let whole : w.done ++ folded (drop (p + 1) s) ≡ joined (folded_labels s) =
      ap (λ (x : List ℕ). w.done ++ folded x) (drop_of_length-le s h)
      ∙ ap (λ (x : List ℕ). w.done ++ x) (sym (joined_none s p w.standing h)) ∙ w.joins in
      written_front (written_over copied (rw whole at w.written) (omega arith) (omega arith)) (omega arith)
