-- The texts of names (document 02, One): labels with a dot after each, the root as a single dot. This says what a text is; ReadText says
-- how one is read, and the laws show that the reader accepts exactly these.
use Rattle.std.specs.Prelude.{◌≡◌, List, [], ◌∷◌, ◌++◌, not, ℕ, ◌+◌, ◌*◌, ◌≤◌, T, Ok}
use Rattle.space.specs.Octets.{Octets}
use Rattle.name.specs.Wire.{reading_of}
use Rattle.name.specs.Labels.{labels_of}
use Rattle.name.specs.Reader.{Longest as LongestOf}
use Rattle.text.specs.Characters.{dot, backslash, printable, digit, plain}

-- the characters t stand for the octet o: itself, behind a backslash, or as three digits behind a backslash
pub data Spells (o : ℕ) (t : List ℕ) : Type 0 where
  itself : T (plain o) → t ≡ o ∷ [] → Spells o t
  escaped : T (printable o) → T (not (digit o)) → t ≡ backslash ∷ o ∷ [] → Spells o t
  numbered : (h d u : ℕ) → h ≤ 9 → d ≤ 9 → u ≤ 9 → o ≡ 100 * h + 10 * d + u → o ≤ 255
      → t ≡ backslash ∷ (48 + h) ∷ (48 + d) ∷ (48 + u) ∷ [] → Spells o t

-- the characters of the octets of a label
abbrev pub SpellsLabel : List ℕ → List ℕ → Type 0
SpellsLabel [] t = t ≡ []
SpellsLabel (o ∷ l) t = (c : List ℕ) × (s : List ℕ) × Spells o c × SpellsLabel l s × (t ≡ c ++ s)

-- labels, with a dot after each
abbrev pub SpellsLabels : List (List ℕ) → List ℕ → Type 0
SpellsLabels [] t = t ≡ []
SpellsLabels (l ∷ ls) t = (c : List ℕ) × (s : List ℕ) × SpellsLabel l c × SpellsLabels ls s × (t ≡ c ++ dot ∷ s)

-- the root as a single dot
abbrev pub SpellsName : List (List ℕ) → List ℕ → Type 0
SpellsName [] t = t ≡ dot ∷ []
SpellsName (l ∷ ls) t = SpellsLabels (l ∷ ls) t

-- this well formed name has the text t
pub record HasText (name t : List ℕ) : Type 0 where
  pub octets : Octets name
  pub whole : reading_of name ≡ Ok tt
  pub spelled : SpellsName (labels_of name) t

-- t is a text of some well formed name
pub record IsText (t : List ℕ) : Type 0 where
  pub name : List ℕ
  pub has : HasText name t

-- the longest beginning of these octets that some text also begins with has p octets
abbrev pub Longest : List ℕ → ℕ → Type 0
Longest t p = LongestOf IsText t p
