-- Questions: what is written is read back as meant, whatever follows; what is found is what stands there.
use mathlib.Core.Path.{◌≡◌, refl, sym, ap, ◌∙◌}
use mathlib.Core.List.{List, [], ◌∷◌, ◌++◌, append_assoc}
use Prim.Native.Nat.{ℕ, zero, suc, ◌+◌, ◌≤◌, ◌<◌}
use native.Mathlib.Omega.{arith}
use lib.ListN.{length, take, drop, get_or, length-drop}
use lib.Seq.{drop-drop}
use Rattle.facts.proofs.Lists.{length_one}
use Rattle.space.specs.Octets.{Octets}
use Rattle.question.specs.declared.Way.{Way}
use Rattle.std.specs.Prelude.{Option, Some, None}
use Rattle.question.specs.Fields.{field, found, field_of}
use Rattle.question.specs.Way.{octet_of, way_of}
use Rattle.question.specs.Question.{Question, asking, Askable, four_fields, question_octets, size, with_way, read_way, read_name}
use Rattle.question.specs.Question.{read_limit, read_of}
use Rattle.question.proofs.Ways.{octet_way, way_octet}
use Rattle.question.proofs.Readings.{wrong_not_found, found_same, then_found, Grows, then_grows, found_grows, wrong_grows}
use Rattle.question.proofs.Fields.{field_read, field_grows, Stands, field_stands}

-- ---- what is written is read

-- four fields with any octet as the way
pub fields_read : (apex : List ℕ) (limit : ℕ) (name : List ℕ) (octet : ℕ) (rest : List ℕ) → length apex ≤ 600 → length name ≤ 600
    → read_of (four_fields apex limit name octet ++ rest) ≡ with_way apex limit name (way_of octet) rest
unfolding read_of
fields_read apex limit name octet rest a n =
    let gs = field 3 name ++ field 4 (octet ∷ []) in
    let fs = field 2 (limit ∷ []) ++ gs in
    rw (
      append_assoc apex fs rest,
      field_read 1 0 600 apex (fs ++ rest) (omega arith) a,
      field_read 2 1 1 (limit ∷ []) (gs ++ rest) (omega arith) (omega arith),
      append_assoc name (field 4 (octet ∷ [])) rest,
      field_read 3 0 600 name (field 4 (octet ∷ []) ++ rest) (omega arith) n,
      field_read 4 1 1 (octet ∷ []) rest (omega arith) (omega arith),
    )

pub question_read : (q : Question) (rest : List ℕ) → Askable q → read_of (question_octets q ++ rest) ≡ found q rest
question_read q rest a =
    fields_read q.apex q.limit q.name (octet_of q.way) rest a.apex_fits a.name_fits ∙ rw (octet_way q.way)

-- ---- more octets

pub question_grows : Grows read_of
unfolding read_of
question_grows =
    then_grows (field_of 1 0 600) read_limit (field_grows 1 0 600) (λ apex.
    then_grows (field_of 2 1 1) (λ (limit rest : List ℕ). read_name apex (get_or limit 0 0) rest) (field_grows 2 1 1) (λ limit.
    then_grows (field_of 3 0 600) (read_way apex (get_or limit 0 0)) (field_grows 3 0 600) (λ name.
    then_grows (field_of 4 1 1) _ (field_grows 4 1 1) (λ way. way_grows apex (get_or limit 0 0) name (way_of (get_or way 0 0))))))
  where
    way_grows : (apex : List ℕ) (limit : ℕ) (name : List ℕ) (m : Option Way) → Grows (with_way apex limit name m)
    way_grows apex limit name (Some way) = found_grows (asking apex limit name way)
    way_grows apex limit name None = wrong_grows

-- ---- what is found stands there

-- the question at the front of s is q, and these octets come after it
pub record Holds (s : List ℕ) (q : Question) (rest : List ℕ) : Type 0 where
  pub apex_fits : length q.apex ≤ 600
  pub name_fits : length q.name ≤ 600
  pub within : size q ≤ length s
  pub apex_is : q.apex ≡ take (length q.apex) (drop 3 s)
  pub name_is : q.name ≡ take (length q.name) (drop (length q.apex + 10) s)
  pub after : rest ≡ drop (size q) s
  pub limit_octet : Octets s → q.limit < 256
  pub octets : Octets s → s ≡ question_octets q ++ rest

pub octets_drop : (n : ℕ) (s : List ℕ) → Octets s → Octets (drop n s)
octets_drop zero s o = o
octets_drop (suc n) [] o = o
octets_drop (suc n) (x ∷ s) o = octets_drop n s o.1

pub octets_take : (n : ℕ) (s : List ℕ) → Octets s → Octets (take n s)
octets_take zero s o = tt
octets_take (suc n) [] o = tt
octets_take (suc n) (x ∷ s) o = (o.0, octets_take n s o.1)

octets_first : (s : List ℕ) → Octets s → get_or s 0 0 < 256
octets_first [] o = omega arith
octets_first (x ∷ s) o = o.0

drop_again : (s t u : List ℕ) (m n k : ℕ) → t ≡ drop m s → u ≡ drop n t → m + n ≡ k → u ≡ drop k s
drop_again s t u m n k et eu e = eu ∙ rw et (drop-drop n m s ∙ ap (λ (i : ℕ). drop i s) e)

joined : (q : Question) (rest : List ℕ)
    → question_octets q ++ rest
    ≡ field 1 q.apex ++ (field 2 (q.limit ∷ []) ++ (field 3 q.name ++ (field 4 (octet_of q.way ∷ []) ++ rest)))
joined q rest =
    let w = field 4 (octet_of q.way ∷ []) in
    rw (append_assoc q.apex (field 2 (q.limit ∷ []) ++ (field 3 q.name ++ w)) rest, append_assoc q.name w rest)

-- the four fields, one after the other
holds : (s apex r1 limit r2 name r3 value r4 : List ℕ) → Stands 1 0 600 s apex r1 → Stands 2 1 1 r1 limit r2 → Stands 3 0 600 r2 name r3
    → Stands 4 1 1 r3 value r4 → (way : Way) → way_of (get_or value 0 0) ≡ Some way → Holds s (asking apex (get_or limit 0 0) name way) r4
holds s apex r1 limit r2 name r3 value r4 sa sl sn sw way known =
    let e2 : r2 ≡ drop (length apex + 7) s = drop_again s r1 r2 (3 + length apex) (3 + length limit) (length apex + 7) sa.after
    sl.after (omega (arith, sl.some, sl.few)) in
    let e3 : r3 ≡ drop (length apex + 10 + length name) s =
    drop_again s r2 r3 (length apex + 7) (3 + length name) (length apex + 10 + length name) e2 sn.after (omega arith) in
    record {
      apex_fits = sa.few;
      name_fits = sn.few;
      within = omega (arith, sa.within, sw.within, sw.some, ap length e3, length-drop (length apex + 10 + length name) s);
      apex_is = sa.is;
      name_is = sn.is ∙ ap (take (length name)) (drop_again s r2 (drop 3 r2) (length apex + 7) 3 (length apex + 10) e2 refl (omega arith));
      after = drop_again s r3 r4 (length apex + 10 + length name) (3 + length value) (length apex + length name + 14) e3 sw.after
          (omega (arith, sw.some, sw.few));
      limit_octet = λ os.
          let o1 : Octets r1 = rw sa.after (octets_drop (3 + length apex) s os) in
          octets_first limit (rw sl.is (octets_take (length limit) (drop 3 r1) (octets_drop 3 r1 o1)));
      octets = λ os.
          let o1 : Octets r1 = rw sa.after (octets_drop (3 + length apex) s os) in
          let o2 : Octets r2 = rw e2 (octets_drop (length apex + 7) s os) in
          let o3 : Octets r3 = rw e3 (octets_drop (length apex + 10 + length name) s os) in
          sa.octets os
          ∙ ap (λ (r : List ℕ). field 1 apex ++ r) (sl.octets o1
          ∙ ap (λ (r : List ℕ). field 2 limit ++ r) (sn.octets o2 ∙ ap (λ (r : List ℕ). field 3 name ++ r) (sw.octets o3)))
          ∙ ap (λ (l : List ℕ). field 1 apex ++ (field 2 l ++ (field 3 name ++ (field 4 value ++ r4))))
          (length_one limit 0 sl.some sl.few)
          ∙ ap (λ (v : List ℕ). field 1 apex ++ (field 2 (get_or limit 0 0 ∷ []) ++ (field 3 name ++ (field 4 v ++ r4))))
          (length_one value 0 sw.some sw.few ∙ ap (λ (o : ℕ). o ∷ []) (sym (way_octet (get_or value 0 0) way known)))
          ∙ sym (joined (asking apex (get_or limit 0 0) name way) r4);
    }

pub question_holds : (s : List ℕ) (q : Question) (rest : List ℕ) → read_of s ≡ found q rest → Holds s q rest
unfolding read_of
question_holds s q rest e =
    let a = then_found (field_of 1 0 600 s) read_limit e in
    let l = then_found (field_of 2 1 1 a.mid) (λ (limit r : List ℕ). read_name a.thing (get_or limit 0 0) r) a.second in
    let n = then_found (field_of 3 0 600 l.mid) (read_way a.thing (get_or l.thing 0 0)) l.second in
    let w = then_found (field_of 4 1 1 n.mid) _ n.second in
    go a.thing a.mid l.thing l.mid n.thing n.mid w.thing w.mid
    a.first l.first n.first w.first (way_of (get_or w.thing 0 0)) refl w.second
  where
    go : (apex r1 limit r2 name r3 value r4 : List ℕ) → field_of 1 0 600 s ≡ found apex r1 → field_of 2 1 1 r1 ≡ found limit r2
        → field_of 3 0 600 r2 ≡ found name r3 → field_of 4 1 1 r3 ≡ found value r4 → (m : Option Way) → way_of (get_or value 0 0) ≡ m
        → with_way apex (get_or limit 0 0) name m r4 ≡ found q rest → Holds s q rest
    go apex r1 limit r2 name r3 value r4 ea el en ew None t x = absurd (wrong_not_found x)
    go apex r1 limit r2 name r3 value r4 ea el en ew (Some way) t x =
        rw (← (found_same x).0, ← (found_same x).1)
        (holds s apex r1 limit r2 name r3 value r4 (field_stands 1 0 600 s ea) (field_stands 2 1 1 r1 el) (field_stands 3 0 600 r2 en)
        (field_stands 4 1 1 r3 ew) way t)

-- so octets begin with a question exactly where they are its octets and others after them
pub question_askable : (s : List ℕ) (q : Question) (rest : List ℕ) → Octets s → read_of s ≡ found q rest → Askable q
question_askable s q rest os e =
    let h = question_holds s q rest e in
    record { apex_fits = h.apex_fits; limit_fits = omega (arith, h.limit_octet os); name_fits = h.name_fits }
