-- What the operations on bitmaps answer: 15 with its place, or of a list with its index, then 9 (document 02, Five).
use Rattle.std.specs.Prelude.{Option, Bool, List, [], ◌∷◌, cond, ℕ, ◌+◌, ltb, length, Result as Outcome, Some, None, Ok, Err, true, false}
use Rattle.name.specs.Answer.{Result, answer, refusal}
use Rattle.name.specs.Reader.{Read, found, stops}
use Rattle.types.specs.declared.TypesRefusal.{TypesRefusal}
use Rattle.types.specs.declared.TypesRefusal.TheVariants.{NoRoom, NoSet}
use Rattle.types.specs.declared.NoBitmap.{NoBitmap}
use Rattle.types.specs.Sets.{rising, has, last_of}
use Rattle.types.specs.Bitmap.{bitmap_of}
use Rattle.types.specs.ReadTypes.{read_types}

-- ---- the number and the values of each case

abbrev pub said : Outcome ℕ TypesRefusal → Result ℕ
said (Ok n) = answer n
said (Err (NoSet p)) = refusal 15 (p ∷ [])
said (Err NoRoom) = refusal 9 []

-- whether a type is there is 1 or 0
abbrev pub said_member : Outcome Bool NoBitmap → Result ℕ
said_member (Ok true) = answer 1
said_member (Ok false) = answer 0
said_member (Err w) = refusal 15 (w.0 ∷ [])

abbrev pub said_count : Outcome ℕ NoBitmap → Result ℕ
said_count (Ok n) = answer n
said_count (Err w) = refusal 15 (w.0 ∷ [])

-- a type is told as 1 plus the type, and 0 is none
abbrev pub said_type : Outcome (Option ℕ) NoBitmap → Result ℕ
said_type (Ok (Some t)) = answer (1 + t)
said_type (Ok None) = answer 0
said_type (Err w) = refusal 15 (w.0 ∷ [])

-- ---- the operations

-- what is asked of the set that was read, or 15 with the place
abbrev pub of_types : {A : Type 0} → (List ℕ → A) → Read → Result A
of_types f (found types) = answer (f types)
of_types f (stops p) = refusal 15 (p ∷ [])

abbrev pub read_types_of : List ℕ → Result (List ℕ)
read_types_of octets = of_types (λ types. types) (read_types octets)

abbrev pub has_type_of : List ℕ → ℕ → Result ℕ
has_type_of octets t = of_types (λ types. cond (has t types) 1 0) (read_types octets)

abbrev pub count_types_of : List ℕ → Result ℕ
count_types_of octets = of_types (λ types. length types) (read_types octets)

-- 1 plus the first type and 1 plus the last one, and 0 where there is none
abbrev pub smallest : List ℕ → ℕ
smallest [] = 0
smallest (t ∷ ts) = 1 + t

abbrev pub largest : List ℕ → ℕ
largest [] = 0
largest (t ∷ ts) = 1 + last_of t ts

abbrev pub smallest_type_of : List ℕ → Result ℕ
smallest_type_of octets = of_types smallest (read_types octets)

abbrev pub largest_type_of : List ℕ → Result ℕ
largest_type_of octets = of_types largest (read_types octets)

-- a list that does not rise gets 15 with the index of the first type that is not above the one before it
abbrev pub write_types_of : List ℕ → Result (List ℕ)
write_types_of types =
    cond (ltb (rising 0 types) (length types)) (refusal 15 (rising 0 types ∷ [])) (answer (bitmap_of types))
