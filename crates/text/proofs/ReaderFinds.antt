-- The reader accepts exactly the texts of the grammar whose name is well formed, and reads them as that name (`has_text_read`,
-- `read_has_text`).
use mathlib.Core.Path.{◌≡◌, refl, sym, ap, ◌∙◌}
use mathlib.Core.List.{List, [], ◌∷◌, ◌++◌, append_assoc, append-nil}
use mathlib.Core.Bool.{Bool, true, false, cond}
use Prim.Native.Nat.{ℕ, ◌+◌, ◌≤◌, ◌<◌}
use native.Mathlib.Omega.{arith}
use borrow.Author.Tests.{lt-ltb, ltb-true, eqb-true}
use lib.Dec.{eqb, ltb}
use lib.ListN.{length, length-append}
use Rattle.facts.proofs.Booleans.{both_true}
use Rattle.facts.proofs.Lists.{last_not_nil}
use Rattle.space.specs.Octets.{Octets}
use Rattle.name.specs.Labels.{wire, Sizes, AllOctets, IsName, labels_of}
use Rattle.name.specs.Reader.{Read, found}
use Rattle.name.proofs.Labels.{labels_wire, wire_whole, wire_octets, wire_labels, wire_some, octets_append, whole_name}
use Rattle.name.proofs.Beginnings.{stops_not_found}
use Rattle.text.specs.Characters.{dot, backslash, printable}
use Rattle.text.specs.Grammar.{Spells, itself, escaped, numbered, SpellsLabel, SpellsLabels, SpellsName, HasText}
use Rattle.text.specs.ReadText.{fits, close, at_dot, read_on, after_root, read_text}
use Rattle.text.proofs.Spellings.{Broken, text_induction, is_true, plain_parts, printable_small, Starts, spelling_starts}
use Rattle.text.proofs.ReaderSteps.{read_dot, read_full, read_spelled, read_broken, broken_full}

-- ---- room

pub fits_true : (done label : List ℕ) → length label < 63 → length done + length label < 253 → fits done label ≡ true
fits_true done label a b = rw (lt-ltb (length label) 63 a, lt-ltb (length done + length label) 253 b)

true_fits : (done label : List ℕ) → fits done label ≡ true → (length label < 63) × (length done + length label < 253)
true_fits done label e =
    let r = both_true (ltb (length label) 63) (ltb (length done + length label) 253) e in
    (ltb-true (length label) 63 r.0, ltb-true (length done + length label) 253 r.1)

-- ---- texts are read

read_label : (l done label : List ℕ) (p : ℕ) (t s : List ℕ) → SpellsLabel l t → length label + length l ≤ 63
    → length done + length label + length l ≤ 253 → read_on done label p (t ++ s) ≡ read_on done (label ++ l) (p + length t) s
read_label [] done label p t s h a b = let q : p + 0 ≡ p = omega arith in rw (h, append-nil label, q)
read_label (o ∷ l) done label p t s (c, u, ho, hl, e) a b =
    let n : length (label ++ o ∷ []) ≡ length label + 1 = length-append label (o ∷ []) in
    let q : p + length c + length u ≡ p + length (c ++ u) = omega (arith, length-append c u) in
    rw (e, append_assoc c u s)
    (read_spelled done label p (fits_true done label (omega arith) (omega arith)) o c (u ++ s) ho
    ∙ read_label l done (label ++ o ∷ []) (p + length c) u s hl (omega arith) (omega arith)
    ∙ rw (q, append_assoc label (o ∷ []) l))

pub dot_some : (l : List ℕ) (p : ℕ) (next : Read) → 1 ≤ length l → at_dot l p next ≡ next
dot_some [] p next h = absurd (omega arith)
dot_some (o ∷ l) p next h = refl

read_labels : (ls : List (List ℕ)) (done : List ℕ) (p : ℕ) (t : List ℕ) → SpellsLabels ls t → Sizes ls
    → length done + length (wire ls) ≤ 255 → read_on done [] p t ≡ found (done ++ wire ls)
unfolding read_on
read_labels [] done p t h v b = rw h
read_labels (l ∷ ls) done p t (c, s, hl, hs, e) v b =
    let some : 1 ≤ length (wire ls) = wire_some ls in
    let n : length (wire (l ∷ ls)) ≡ 1 + (length l + length (wire ls)) = omega (arith, length-append l (wire ls)) in
    let m : length (close done l) ≡ length done + (1 + length l) = omega (arith, length-append done (length l ∷ l)) in
    rw e
    (read_label l done [] p c (dot ∷ s) hl (omega (arith, v.1)) (omega arith)
    ∙ read_dot done l (p + length c) s
    ∙ dot_some l (p + length c) (read_on (close done l) [] (p + length c + 1) s) v.0
    ∙ read_labels ls (close done l) (p + length c + 1) s hs v.2 (omega arith)
    ∙ ap found (append_assoc done (length l ∷ l) (wire ls)))

labels_start : (l : List ℕ) (ls : List (List ℕ)) (t : List ℕ) → SpellsLabels (l ∷ ls) t → 1 ≤ length l → Starts t
labels_start [] ls t h some = absurd (omega arith)
labels_start (o ∷ l) ls t (c, s, (c', s', ho, hl, e'), hs, e) some =
    let r = spelling_starts o c' ho in
    record {
      head = r.head;
      tail = r.tail ++ (s' ++ dot ∷ s);
      is = e ∙ ap (λ (x : List ℕ). x ++ dot ∷ s) (e' ∙ ap (λ (x : List ℕ). x ++ s') r.is)
          ∙ ap (λ (x : List ℕ). r.head ∷ x) (append_assoc r.tail s' (dot ∷ s));
      no_dot = r.no_dot;
    }

labels_read : (l : List ℕ) (ls : List (List ℕ)) (t : List ℕ) → SpellsLabels (l ∷ ls) t → IsName (l ∷ ls)
    → read_text t ≡ found (wire (l ∷ ls))
labels_read l ls t h v =
    let r = labels_start l ls t h v.sizes.0 in
    rw (r.is, r.no_dot) (rw r.is at (read_labels (l ∷ ls) [] 0 t h v.sizes (omega (arith, v.fits))))

pub has_text_read : (name t : List ℕ) → HasText name t → read_text t ≡ found name
has_text_read name t h = go (labels_of name) refl h.spelled (whole_name name h.octets h.whole)
  where
    go : (ls : List (List ℕ)) → labels_of name ≡ ls → SpellsName ls t → IsName (labels_of name) → read_text t ≡ found name
    go [] e s v = rw s (ap found (sym (ap wire e) ∙ wire_labels name h.whole))
    go (l ∷ ls) e s v = labels_read l ls t s (rw e at v) ∙ ap found (sym (ap wire e) ∙ wire_labels name h.whole)

-- ---- and nothing else

-- what the reader keeps: the label and the name are not too long
pub record Open (done label : List ℕ) : Type 0 where
  pub small : length label ≤ 63
  pub fits : length done + length label ≤ 254
  pub closes : 1 ≤ length label → length done + length label ≤ 253
  pub octets : Octets label

-- the characters t spell what is left of the labels ls, of which the first begins with `label`
data SpellsRest (label : List ℕ) (ls : List (List ℕ)) (t : List ℕ) : Type 0 where
  none : label ≡ [] → ls ≡ [] → t ≡ [] → SpellsRest label ls t
  more : (l : List ℕ) (later : List (List ℕ)) (c s : List ℕ) → ls ≡ (label ++ l) ∷ later → SpellsLabel l c → SpellsLabels later s
      → t ≡ c ++ dot ∷ s → SpellsRest label ls t

record Finds (done label t name : List ℕ) : Type 0 where
  labels : List (List ℕ)
  sizes : Sizes labels
  octets : AllOctets labels
  is : name ≡ done ++ wire labels
  fits : length name ≤ 255
  spelled : SpellsRest label labels t

rest_labels : (ls : List (List ℕ)) (t : List ℕ) → SpellsRest [] ls t → SpellsLabels ls t
rest_labels ls t (none a b e) = rw (b, e)
rest_labels ls t (more l later c s e hl hs i) = rw e (c, s, hl, hs, i)

abbrev FoundText : List ℕ → Type 0
FoundText t =
    (done label : List ℕ) (p : ℕ) (name : List ℕ) → Open done label → read_on done label p t ≡ found name → Finds done label t name

found_end : FoundText []
unfolding read_on
found_end done [] p name k e =
    let i : name ≡ done ++ 0 ∷ [] = cc in
    record {
      labels = [];
      sizes = tt;
      octets = tt;
      is = i;
      fits = omega (arith, ap length i, length-append done (0 ∷ []), k.fits);
      spelled = none refl refl refl;
    }
found_end done (o ∷ label) p name k e = absurd (stops_not_found e)

pub open_closed : (done label : List ℕ) → Open done label → 1 ≤ length label → Open (close done label) []
open_closed done label k some =
    record {
      small = omega arith;
      fits = omega (arith, length-append done (length label ∷ label), k.closes some);
      closes = λ h. absurd (omega arith);
      octets = tt;
    }

found_dot : (s : List ℕ) → FoundText s → FoundText (dot ∷ s)
found_dot s ih done [] p name k e = absurd (stops_not_found (sym (read_dot done [] p s) ∙ e))
found_dot s ih done (o ∷ l) p name k e =
    let label : List ℕ = o ∷ l in
    let r : Finds (close done label) [] s name =
    ih (close done label) [] (p + 1) name (open_closed done label k (omega arith)) (sym (read_dot done label p s) ∙ e) in
    record {
      labels = label ∷ r.labels;
      sizes = (omega arith, k.small, r.sizes);
      octets = (k.octets, r.octets);
      is = r.is ∙ append_assoc done (length label ∷ label) (wire r.labels);
      fits = r.fits;
      spelled = more [] r.labels [] s (rw (append-nil label)) refl (rest_labels r.labels s r.spelled) refl;
    }

-- an octet that is spelled is one
spells_octet : (o : ℕ) (c : List ℕ) → Spells o c → o < 256
spells_octet o c (itself h e) = printable_small o (plain_parts (printable o) (eqb o dot) (eqb o backslash) h).0
spells_octet o c (escaped h g e) = printable_small o (is_true (printable o) h)
spells_octet o c (numbered h d u bh bd bu i b e) = omega arith

pub open_more : (done label : List ℕ) (o : ℕ) → Open done label → fits done label ≡ true → o < 256 → Open done (label ++ o ∷ [])
open_more done label o k f b =
    let r = true_fits done label f in
    let n : length (label ++ o ∷ []) ≡ length label + 1 = length-append label (o ∷ []) in
    record { small = omega arith; fits = omega arith; closes = λ h. omega arith; octets = octets_append label (o ∷ []) k.octets (b, tt) }

rest_more : (label : List ℕ) (o : ℕ) (c : List ℕ) (ls : List (List ℕ)) (s : List ℕ) → Spells o c → SpellsRest (label ++ o ∷ []) ls s
    → SpellsRest label ls (c ++ s)
rest_more label o c ls s h (none a b e) = absurd (last_not_nil label o a)
rest_more label o c ls s h (more l later d u e hl hs i) =
    more (o ∷ l) later (c ++ d) u (e ∙ ap (λ (x : List ℕ). x ∷ later) (append_assoc label (o ∷ []) l)) (c, d, h, hl, refl) hs
    (rw i (sym (append_assoc c d (dot ∷ u))))

found_spelled : (o : ℕ) (c s : List ℕ) → Spells o c → FoundText s → FoundText (c ++ s)
found_spelled o c s h ih done label p name k e = go (fits done label) refl
  where
    go : (b : Bool) → fits done label ≡ b → Finds done label (c ++ s) name
    go true f =
        let r : Finds done (label ++ o ∷ []) s name =
        ih done (label ++ o ∷ []) (p + length c) name (open_more done label o k f (spells_octet o c h))
        (sym (read_spelled done label p f o c s h) ∙ e) in
        record {
          labels = r.labels;
          sizes = r.sizes;
          octets = r.octets;
          is = r.is;
          fits = r.fits;
          spelled = rest_more label o c r.labels s h r.spelled;
        }
    go false f =
        let r = spelling_starts o c h in
        let i : c ++ s ≡ r.head ∷ (r.tail ++ s) = ap (λ (x : List ℕ). x ++ s) r.is in
        absurd (stops_not_found
        (sym (read_full done label p r.head (r.tail ++ s) r.no_dot f) ∙ ap (read_on done label p) (sym i) ∙ e))

found_broken : (front back : List ℕ) → Broken front back → FoundText (front ++ back)
found_broken front back g done label p name k e = go (fits done label) refl
  where
    go : (b : Bool) → fits done label ≡ b → Finds done label (front ++ back) name
    go true f = absurd (stops_not_found (sym (read_broken done label p f front back g) ∙ e))
    go false f = absurd (stops_not_found (sym (broken_full done label p f front back g) ∙ e))

found_text : (t : List ℕ) → FoundText t
found_text t = text_induction FoundText found_end found_dot found_spelled found_broken t

-- ---- names

name_has_text : (ls : List (List ℕ)) (t : List ℕ) → IsName ls → SpellsName ls t → HasText (wire ls) t
name_has_text ls t v s =
    record { octets = wire_octets ls v.sizes v.octets; whole = wire_whole ls v; spelled = rw (labels_wire ls v.sizes) s }

start_open : Open [] []
start_open = record { small = omega arith; fits = omega arith; closes = λ h. absurd (omega arith); octets = tt }

labels_name : (c : ℕ) (s : List ℕ) (ls : List (List ℕ)) → SpellsLabels ls (c ∷ s) → SpellsName ls (c ∷ s)
labels_name c s [] h = absurd (cons_not_nil (ap length h))
  where
    cons_not_nil : length (c ∷ s) ≡ 0 → ⊥
    cons_not_nil e = omega arith
labels_name c s (l ∷ ls) h = h

root_has_text : (s name : List ℕ) → after_root s ≡ found name → HasText name (dot ∷ s)
root_has_text [] name e =
    let i : name ≡ 0 ∷ [] = cc in
    rw i (name_has_text [] (dot ∷ []) (record { sizes = tt; octets = tt; fits = omega arith }) refl)
root_has_text (c ∷ s) name e = absurd (stops_not_found e)

pub read_has_text : (t name : List ℕ) → read_text t ≡ found name → HasText name t
read_has_text [] name e = absurd (stops_not_found e)
read_has_text (c ∷ s) name e = go (eqb c dot) refl e
  where
    go : (b : Bool) → eqb c dot ≡ b → cond b (after_root s) (read_on [] [] 0 (c ∷ s)) ≡ found name → HasText name (c ∷ s)
    go true i h = rw (eqb-true c dot i) (root_has_text s name h)
    go false i h =
        let r : Finds [] [] (c ∷ s) name = found_text (c ∷ s) [] [] 0 name start_open h in
        let v : IsName r.labels = record { sizes = r.sizes; octets = r.octets; fits = omega (arith, r.fits, ap length r.is) } in
        rw r.is (name_has_text r.labels (c ∷ s) v (labels_name c s r.labels (rest_labels r.labels (c ∷ s) r.spelled)))
