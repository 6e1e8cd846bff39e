-- Texts of names, read and written. A text is answered with exactly the name that it spells (`has_text_answered`, `answered_has_text`), and
-- anything else, as one without the final dot (`text_final_dot`), is refused with 14 at the place that the papers ask for
-- (`refused_longest`, `no_text_refused`). The written text of a name is read as its folded name (`read_written`), so that names with one
-- written text are one folded name (`written_unique`).
use mathlib.Core.Path.{◌≡◌, refl, sym, ap, ◌∙◌}
use mathlib.Core.List.{List, [], ◌∷◌, ◌++◌, append_assoc}
use mathlib.Core.Bool.{true≢false}
use mathlib.Core.Logic.{◌⊎◌, inl, inr}
use Prim.Native.Nat.{ℕ, ◌+◌, ◌*◌, ◌≤◌}
use native.Mathlib.Omega.{arith}
use lib.ListN.{length, take, length-append}
use lib.Seq.{length-take-le}
use Rattle.facts.proofs.Lists.{last_same}
use Rattle.std.specs.Prelude.{Ok}
use Rattle.space.specs.Octets.{Octets}
use Rattle.name.specs.Wire.{reading_of}
use Rattle.name.specs.Labels.{wire, labels_of}
use Rattle.space.specs.Fold.{folded}
use Rattle.name.specs.Answer.{answer, refusal}
use Rattle.name.specs.Reader.{Read, found, stops, Begins}
use Rattle.name.proofs.Whole.{whole_fits}
use Rattle.name.proofs.Labels.{label_sizes, wire_labels}
use Rattle.name.proofs.Answers.{answer_injective}
use Rattle.name.proofs.Beginnings.{longest_unique}
use Rattle.order.specs.Order.{folded_labels}
use Rattle.text.specs.Characters.{dot}
use Rattle.text.specs.Grammar.{Spells, itself, escaped, numbered, SpellsLabel, SpellsLabels, SpellsName, HasText, IsText, Longest}
use Rattle.text.specs.WriteText.{text_of}
use Rattle.text.specs.ReadText.{read_text, name_read, read_text_of}
use Rattle.text.proofs.TextLength.{labels_wire_most}
use Rattle.text.proofs.ReaderFinds.{has_text_read, read_has_text}
use Rattle.text.proofs.ReaderStops.{read_stops}
use Rattle.text.proofs.WrittenTexts.{written_has_text}

-- ---- the reader accepts exactly the grammar

pub has_text_answered : (name t : List ℕ) → HasText name t → read_text_of t ≡ answer name
has_text_answered name t h = ap name_read (has_text_read name t h)

pub answered_has_text : (t name : List ℕ) → read_text_of t ≡ answer name → HasText name t
answered_has_text t name e = go (read_text t) refl e
  where
    go : (r : Read) → read_text t ≡ r → name_read r ≡ answer name → HasText name t
    go (found n) i h = read_has_text t name (i ∙ ap found (answer_injective h))
    go (stops p) i h = absurd (true≢false (cc))

pub refused_longest : (t : List ℕ) (p : ℕ) → read_text_of t ≡ refusal 14 (p ∷ []) → Longest t p
refused_longest t p e = go (read_text t) refl e
  where
    go : (r : Read) → read_text t ≡ r → name_read r ≡ refusal 14 (p ∷ []) → Longest t p
    go (found n) i h = absurd (true≢false (cc))
    go (stops m) i h = let j : m ≡ p = cc in read_stops t p (i ∙ ap stops j)

-- a text is read as a name or refused with a place, and nothing else
abbrev pub AnsweredOrRefused : List ℕ → Type 0
AnsweredOrRefused t = ((a : List ℕ) × (read_text_of t ≡ answer a)) ⊎ ((p : ℕ) × (read_text_of t ≡ refusal 14 (p ∷ [])))

pub answered_or_refused : (t : List ℕ) → AnsweredOrRefused t
answered_or_refused t = go (read_text t) refl
  where
    go : (r : Read) → read_text t ≡ r → AnsweredOrRefused t
    go (found n) e = inl (n, ap name_read e)
    go (stops p) e = inr (p, ap name_read e)

-- a text spells one name, letter for letter
pub text_one_name : (name other t : List ℕ) → HasText name t → HasText other t → name ≡ other
text_one_name name other t h g = answer_injective (sym (has_text_answered name t h) ∙ has_text_answered other t g)

-- 14 is given exactly where no name has the text, and with one place
pub refused_no_text : (t vs : List ℕ) (n : ℕ) → read_text_of t ≡ refusal n vs → IsText t → ⊥
refused_no_text t vs n e i =
    let a : read_text_of t ≡ answer i.name = has_text_answered i.name t i.has in
    true≢false (cc)

pub no_text_refused : (t : List ℕ) (p : ℕ) → (IsText t → ⊥) → Longest t p → read_text_of t ≡ refusal 14 (p ∷ [])
no_text_refused t p none l = go (answered_or_refused t)
  where
    go : AnsweredOrRefused t → read_text_of t ≡ refusal 14 (p ∷ [])
    go (inl h) = absurd (none (record { name = h.0; has = answered_has_text t h.0 h.1 }))
    go (inr h) = h.1 ∙ ap (λ (m : ℕ). refusal 14 (m ∷ [])) (longest_unique IsText t h.0 p (refused_longest t h.0 h.1) l)

-- ---- a text ends in a dot

-- it is these characters and a dot
record Dotted (t : List ℕ) : Type 0 where
  front : List ℕ
  is : t ≡ front ++ dot ∷ []

labels_dotted : (l : List ℕ) (ls : List (List ℕ)) (t : List ℕ) → SpellsLabels (l ∷ ls) t → Dotted t
labels_dotted l [] t (c, s, hl, hs, e) = record { front = c; is = e ∙ rw hs }
labels_dotted l (m ∷ ls) t (c, s, hl, hs, e) =
    let d = labels_dotted m ls s hs in
    record {
      front = c ++ dot ∷ d.front;
      is = e ∙ ap (λ (x : List ℕ). c ++ dot ∷ x) d.is ∙ sym (append_assoc c (dot ∷ d.front) (dot ∷ []));
    }

text_dotted : (t : List ℕ) → IsText t → Dotted t
text_dotted t i = go (labels_of i.name) i.has.spelled
  where
    go : (ls : List (List ℕ)) → SpellsName ls t → Dotted t
    go [] h = record { front = []; is = h }
    go (l ∷ ls) h = labels_dotted l ls t h

pub text_final_dot : (t : List ℕ) (c : ℕ) → IsText (t ++ c ∷ []) → c ≡ dot
text_final_dot t c i = let d = text_dotted (t ++ c ∷ []) i in last_same t d.front c dot d.is

-- ---- each folded name has one written text

pub read_written : (name : List ℕ) → Octets name → reading_of name ≡ Ok tt
    → read_text_of (text_of (folded_labels name)) ≡ answer (folded name)
read_written name o e = has_text_answered (folded name) (text_of (folded_labels name)) (written_has_text name o e)

pub written_unique : (name other : List ℕ) → Octets name → reading_of name ≡ Ok tt → Octets other → reading_of other ≡ Ok tt
    → text_of (folded_labels name) ≡ text_of (folded_labels other) → folded name ≡ folded other
written_unique name other o e p f i = answer_injective (sym (read_written name o e) ∙ ap read_text_of i ∙ read_written other p f)

-- ---- the length of a text, and so a place, is at most 1004

spelling_most : (o : ℕ) (t : List ℕ) → Spells o t → length t ≤ 4
spelling_most o t (itself h e) = omega (arith, ap length e)
spelling_most o t (escaped h g e) = omega (arith, ap length e)
spelling_most o t (numbered h d u bh bd bu i b e) = omega (arith, ap length e)

label_most : (l t : List ℕ) → SpellsLabel l t → length t ≤ 4 * length l
label_most [] t h = omega (arith, ap length h)
label_most (o ∷ l) t (c, s, ho, hl, e) = omega (arith, ap length e, length-append c s, spelling_most o c ho, label_most l s hl)

labels_most : (ls : List (List ℕ)) (t : List ℕ) → SpellsLabels ls t → length t + 3 * length ls + 4 ≤ 4 * length (wire ls)
labels_most [] t h = omega (arith, ap length h)
labels_most (l ∷ ls) t (c, s, hl, hs, e) =
    omega (arith, ap length e, length-append c (dot ∷ s), label_most l c hl, labels_most ls s hs, length-append l (wire ls))

pub text_small : (name t : List ℕ) → HasText name t → length t ≤ 1004
text_small name t h = go (labels_of name) refl h.spelled
  where
    go : (ls : List (List ℕ)) → labels_of name ≡ ls → SpellsName ls t → length t ≤ 1004
    go [] e s = omega (arith, ap length s)
    go (l ∷ ls) e s =
        omega (
          arith,
          labels_most (l ∷ ls) t s,
          labels_wire_most (l ∷ ls) (rw e at (label_sizes name h.whole)),
          ap length (sym (ap wire e) ∙ wire_labels name h.whole),
          whole_fits name h.whole,
        )

pub stop_small : (t : List ℕ) (p : ℕ) → read_text_of t ≡ refusal 14 (p ∷ []) → p ≤ 1004
stop_small t p e =
    let l : Longest t p = refused_longest t p e in
    let b : Begins IsText (take p t) = l.begins p (omega arith) in
    omega (arith, text_small b.accepted.name _ b.accepted.has, length-append (take p t) b.rest, length-take-le p t l.within)

pub answer_small : (t a : List ℕ) → read_text_of t ≡ answer a → length a ≤ 255
answer_small t a e = whole_fits a (answered_has_text t a e).whole
