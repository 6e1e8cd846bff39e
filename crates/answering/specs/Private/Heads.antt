-- What stands at the front of an answer, before a name or for a refusal.
use Rattle.std.specs.Prelude.{◌≡◌, List, [], ◌∷◌, ◌++◌, ℕ, ◌+◌, ◌≤◌, ◌<◌, length, eqb}
use Rattle.space.specs.Octets.{overlay}
use Rattle.name.specs.declared.Refusal.{Refusal}
use Rattle.name.specs.Answer.{Result, answer, refusal, refuse_if, refusal_number}
use Rattle.question.specs.Fields.{field}

-- the number of a refusal in its field; 9 stands in no answer
abbrev pub refusal_front : Refusal → Result (List ℕ)
refusal_front why = refuse_if (eqb (refusal_number why) 9) 9 (answer (field 0x10 (refusal_number why ∷ [])))

-- what stands before a name of n octets, fewer than 256
abbrev pub heads : ℕ → List ℕ
heads n = field 0x10 (0 ∷ []) ++ (0x11 ∷ 0 ∷ n ∷ [])

-- the heads are written before a name of n octets, or have no room
abbrev pub Headed : ℕ → List ℕ → Result ℕ → List ℕ → Type 0
Headed n before (answer m) after = (m ≡ 7 + n) × (7 ≤ length before) × (after ≡ overlay (heads n) before)
Headed n before (refusal m vs) after = (m ≡ 9) × (vs ≡ []) × (length before < 7) × (after ≡ before)
