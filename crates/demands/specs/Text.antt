-- Request One of document 02, names as people type them, over the definitions that the contracts of `write_text`, `read_text` and the
-- reader cite. Each part is one of its sentences; characters are given by their numbers.
use Rattle.std.specs.Prelude.{◌≡◌, List, [], ◌∷◌, ◌++◌, ◌⊎◌, ◌↔◌, ℕ, ◌+◌, ◌*◌, ◌/◌, ◌%◌, ◌≤◌, ◌<◌, length, drop, Result as Outcome, Ok, Err}
use Rattle.space.specs.Octets.{overlay}
use Rattle.name.specs.WellFormed.{WellFormed}
use Rattle.space.specs.Fold.{folded}
use Rattle.name.specs.Fold.{fold_of}
use Rattle.name.specs.Answer.{answer, refusal, fitted}
use Rattle.order.specs.Order.{folded_labels}
use Rattle.text.specs.declared.TextRefusal.{TextRefusal}
use Rattle.text.specs.declared.TextRefusal.TheVariants.{NoRoom, NotAText}
use Rattle.text.specs.declared.TextRead.{TextRead}
use Rattle.text.specs.Grammar.{Spells, SpellsLabel, SpellsLabels, SpellsName, HasText, IsText, Longest}
use Rattle.text.specs.WriteText.{characters_of, text_of, write_text_of}
use Rattle.text.specs.ReadText.{read_text_of}
use Rattle.text.specs.Reads.{Reads}
use Rattle.reader.specs.declared.Reader.{Reader}
use Rattle.reader.specs.Moves.{Moves}
use Rattle.demands.specs.Lines.{NameLines, ReadLines}

-- ---- characters

-- a plain character is one of 33 to 126 but dot and backslash
abbrev pub Plain : ℕ → Type 0
Plain c = (33 ≤ c) × (c ≤ 126) × (c ≡ 46 → ⊥) × (c ≡ 92 → ⊥)

-- a non-digit of 33 to 126
abbrev pub NonDigit : ℕ → Type 0
NonDigit c = (33 ≤ c) × (c ≤ 126) × ((c < 48) ⊎ (57 < c))

-- the characters t are a backslash with three decimal digits of the octet o
abbrev pub ThreeDigits : ℕ → List ℕ → Type 0
ThreeDigits o t =
    (h : ℕ) × (d : ℕ) × (u : ℕ) × (h ≤ 9) × (d ≤ 9) × (u ≤ 9) × (o ≡ 100 * h + 10 * d + u) × (o ≤ 255)
    × (t ≡ 92 ∷ (48 + h) ∷ (48 + d) ∷ (48 + u) ∷ [])

-- . \ " ; ( ) @ $
abbrev pub Special : ℕ → Type 0
Special c = (c ≡ 46) ⊎ (c ≡ 92) ⊎ (c ≡ 34) ⊎ (c ≡ 59) ⊎ (c ≡ 40) ⊎ (c ≡ 41) ⊎ (c ≡ 64) ⊎ (c ≡ 36)

-- what reading leaves: its outcome, its place, and the space
abbrev pub Leaves : TextRead → List ℕ → Outcome ℕ TextRefusal → ℕ → List ℕ → Type 0
Leaves read after outcome place space = (read.outcome ≡ outcome) × (read.at ≡ place) × (after ≡ space)

-- ---- the request

pub record Text : Type 0 where
  -- an octet is a plain character, a backslash with a non-digit of 33 to 126, or a backslash with three decimal digits up to 255
  pub character : (o : ℕ) (t : List ℕ)
      → Spells o t ↔ (Plain o × (t ≡ o ∷ [])) ⊎ (NonDigit o × (t ≡ 92 ∷ o ∷ [])) ⊎ ThreeDigits o t
  -- labels with a dot after each, the root as a single dot
  pub labels : (l : List ℕ) (ls : List (List ℕ)) (t : List ℕ)
      → SpellsName (l ∷ ls) t ↔ (c : List ℕ) × (s : List ℕ) × SpellsLabel l c × SpellsLabels ls s × (t ≡ c ++ 46 ∷ s)
  pub root : (t : List ℕ) → SpellsName [] t ↔ t ≡ 46 ∷ []
  -- the reader accepts exactly the texts of that grammar whose name is well formed, and answers that name
  pub accepts : (name t : List ℕ) → read_text_of t ≡ answer name ↔ HasText name t
  -- it keeps letter case: a text spells one name, to the octet
  pub letter_case : (name other t : List ℕ) → HasText name t → HasText other t → name ≡ other
  -- any other gets number 14, however small the space, and 9 comes after it
  pub read : (t : List ℕ) (room : ℕ) → ReadLines (fitted room (read_text_of t)) 14 IsText t room (read_text_of t)
  -- its place is the length of the longest beginning that some text also begins with
  pub place : (t : List ℕ) (p : ℕ) → read_text_of t ≡ refusal 14 (p ∷ []) ↔ (IsText t → ⊥) × Longest t p
  -- as one without the final dot
  pub final_dot : (t : List ℕ) (c : ℕ) → (c ≡ 46 → ⊥) → (p : ℕ) × (read_text_of (t ++ c ∷ []) ≡ refusal 14 (p ∷ []))
  -- the writer folds, and refuses with 4, then 9
  pub write : (name : List ℕ) (room : ℕ) → NameLines (fitted room (write_text_of name)) name room (text_of (folded_labels name))
  -- it leaves octets 33 to 126 as they are except . \ " ; ( ) @ $, which take a backslash, and writes all others with three digits
  pub left : (o : ℕ) → 33 ≤ o → o ≤ 126 → (Special o → ⊥) → characters_of o ≡ o ∷ []
  pub backslashed : (o : ℕ) → Special o → characters_of o ≡ 92 ∷ o ∷ []
  pub digits : (o : ℕ) → (o < 33) ⊎ (126 < o) → characters_of o ≡ 92 ∷ (48 + o / 100) ∷ (48 + o / 10 % 10) ∷ (48 + o % 10) ∷ []
  -- each folded name has one written text: names have the same exactly where they differ in letter case at most
  pub one_text : (s t : List ℕ) → WellFormed s → WellFormed t → write_text_of s ≡ write_text_of t ↔ folded s ≡ folded t
  pub folded_text : (s f : List ℕ) → WellFormed s → fold_of s ≡ answer f → write_text_of f ≡ write_text_of s
  -- and reading it gives that name
  pub read_back : (s t : List ℕ) → WellFormed s → write_text_of s ≡ answer t → read_text_of t ≡ answer (folded s)
  -- it has at most 1,004 characters, and one has as many
  pub most : (s t : List ℕ) → write_text_of s ≡ answer t → length t ≤ 1004
  pub text_of_1004 : (s : List ℕ) × (t : List ℕ) × WellFormed s × (write_text_of s ≡ answer t) × (length t ≡ 1004)
  -- handed another place, the rest from there is the whole text: given room its name is answered, and the place moves to the end
  pub answered : (t : List ℕ) (at : ℕ) (before : List ℕ) (r : TextRead) (after a : List ℕ) → Reads t at before r after
      → read_text_of (drop at t) ≡ answer a → length a ≤ length before → Leaves r after (Ok (length a)) (length t) (overlay a before)
  -- a refusal leaves the place, and the space
  pub no_room : (t : List ℕ) (at : ℕ) (before : List ℕ) (r : TextRead) (after a : List ℕ) → Reads t at before r after
      → read_text_of (drop at t) ≡ answer a → length before < length a → Leaves r after (Err NoRoom) at before
  pub refused : (t : List ℕ) (at : ℕ) (before : List ℕ) (r : TextRead) (after : List ℕ) (p : ℕ) → Reads t at before r after
      → read_text_of (drop at t) ≡ refusal 14 (p ∷ []) → Leaves r after (Err (NotAText p)) at before
  -- past the end the rest is empty
  pub past_end : (t : List ℕ) (at : ℕ) → length t ≤ at → (drop at t ≡ []) × (read_text_of (drop at t) ≡ refusal 14 (0 ∷ []))
  -- the reader keeps hold of its text and of its own place: it reads from there on, and is then at the place that reading leaves
  pub reader : (was is : Reader) (before after : List ℕ) (o : Outcome ℕ TextRefusal) → Moves was before o is after
      → (is.text ≡ was.text) × Reads was.text.now was.at before (record { outcome = o; at = is.at }) after
