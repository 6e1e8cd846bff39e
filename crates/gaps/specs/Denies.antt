-- What a denial says where it has so much room, and the space at exit: the names fill it back to back, and their lengths are told as one
-- number.
use Rattle.std.specs.Prelude.{◌≡◌, List, [], ◌∷◌, ◌++◌, cond, ℕ, ◌+◌, ◌*◌, leb, length}
use Rattle.name.specs.Answer.{Result, answer, refusal, space_after}

-- names back to back
abbrev pub joined : List (List ℕ) → List ℕ
joined [] = []
joined (n ∷ ns) = n ++ joined ns

-- the lengths of names: that of the first plus 2^8 times that of the second, and so on
abbrev pub lengths : List (List ℕ) → ℕ
lengths [] = 0
lengths (n ∷ ns) = length n + 256 * lengths ns

abbrev pub joined_result : Result (List (List ℕ)) → Result (List ℕ)
joined_result (answer ns) = answer (joined ns)
joined_result (refusal n vs) = refusal n vs

-- what is said where the names have room for so many octets: 9 where they are longer
abbrev pub measured : ℕ → Result (List (List ℕ)) → Result ℕ
measured room (answer ns) = cond (leb (length (joined ns)) room) (answer (lengths ns)) (refusal 9 [])
measured room (refusal n vs) = refusal n vs

-- the promise: what it says, and every octet of the space
pub record Denies (result : Result (List (List ℕ))) (before : List ℕ) (words : Result ℕ) (after : List ℕ) : Type 0 where
  pub says : words ≡ measured (length before) result
  pub space : after ≡ space_after (joined_result result) before
