-- What an operation answers: the numbers of document 01's table with their values, the answer measured against the space, and the space
-- at exit. Every operation's promise is stated with these.
use Rattle.std.specs.Prelude.{◌≡◌, ℕ, List, [], ◌∷◌, Bool, cond, length, leb, Ok, Err, Result as Outcome}
use Rattle.name.specs.declared.Fault.{Fault}
use Rattle.name.specs.declared.Fault.TheVariants.{CutShort, LeftOver, BadLength, TooLong}
use Rattle.name.specs.Wire.{Reading}
use Rattle.name.specs.declared.Refusal.{Refusal}
use Rattle.name.specs.declared.Refusal.TheVariants.{BadLimit, BadApex, ApexTooLong, BadName, NameTooLong, NotUnderApex, NoFullLabel}
use Rattle.name.specs.declared.Refusal.TheVariants.{NoRoom, NotAKey, BadSecondName, NotInAlphabet}
use Rattle.space.specs.Octets.{overlay}

-- the result of an operation: an answer, which is number 0, or a refusal with its number and the values that it holds
pub data Result (A : Type 0) : Type 0 where
  answer : A → Result A
  refusal : ℕ → List ℕ → Result A

-- document 01's number, 0 for an answer
abbrev pub number : {A : Type 0} → Result A → ℕ
number (answer a) = 0
number (refusal n vs) = n

-- the reason of a fault, and 0 where there is none
abbrev pub reason : {A : Type 0} → Result A → ℕ
reason (answer a) = 0
reason (refusal n []) = 0
reason (refusal n (p ∷ [])) = 0
reason (refusal n (r ∷ p ∷ vs)) = r

-- the number that is answered, or the place of a refusal, and 0 where there is none
abbrev pub value : Result ℕ → ℕ
value (answer n) = n
value (refusal n []) = 0
value (refusal n (p ∷ [])) = p
value (refusal n (r ∷ p ∷ vs)) = p

-- why octets are no name: 1 cut short, 2 left over, 3 bad length, 4 too long
abbrev pub fault_reason : Fault → ℕ
fault_reason (CutShort p) = 1
fault_reason (LeftOver p) = 2
fault_reason (BadLength p) = 3
fault_reason (TooLong p) = 4

abbrev pub fault_place : Fault → ℕ
fault_place (CutShort p) = p
fault_place (LeftOver p) = p
fault_place (BadLength p) = p
fault_place (TooLong p) = p

-- a fault's values: its reason and its place
abbrev pub fault_values : Fault → List ℕ
fault_values f = fault_reason f ∷ fault_place f ∷ []

-- document 01's number of each refusal, and 12 (document 02, request Eight); 8 is reserved and never given (request Four)
abbrev pub refusal_number : Refusal → ℕ
refusal_number BadLimit = 1
refusal_number (BadApex f) = 2
refusal_number ApexTooLong = 3
refusal_number (BadName f) = 4
refusal_number NameTooLong = 5
refusal_number NotUnderApex = 6
refusal_number NoFullLabel = 7
refusal_number NoRoom = 9
refusal_number (NotAKey p) = 10
refusal_number (BadSecondName f) = 11
refusal_number NotInAlphabet = 12

-- the values that it holds: a fault's reason and place, or the place of 10
abbrev pub refusal_values : Refusal → List ℕ
refusal_values BadLimit = []
refusal_values (BadApex f) = fault_values f
refusal_values ApexTooLong = []
refusal_values (BadName f) = fault_values f
refusal_values NameTooLong = []
refusal_values NotUnderApex = []
refusal_values NoFullLabel = []
refusal_values NoRoom = []
refusal_values (NotAKey p) = p ∷ []
refusal_values (BadSecondName f) = fault_values f
refusal_values NotInAlphabet = []

abbrev pub numbered : {A : Type 0} → Refusal → Result A
numbered w = refusal (refusal_number w) (refusal_values w)

-- what an operation said: the number of octets of its answer, or its refusal
abbrev pub said : Outcome ℕ Refusal → Result ℕ
said (Ok n) = answer n
said (Err w) = numbered w

-- a line of the table: this number where the test holds, otherwise what the later lines give
abbrev pub refuse_if : {A : Type 0} → Bool → ℕ → Result A → Result A
refuse_if test n next = cond test (refusal n []) next

-- a line of the table for octets that must be well formed: this number with the fault where they are not
abbrev pub refuse_broken : {A : Type 0} → Reading → ℕ → Result A → Result A
refuse_broken (Ok _) n next = next
refuse_broken (Err f) n next = refusal n (fault_values f)

-- the number of octets of an answer
abbrev pub sized : Result (List ℕ) → Result ℕ
sized (answer a) = answer (length a)
sized (refusal n vs) = refusal n vs

-- what is said where the answer has room for so many octets: 9 where it is longer
abbrev pub fitted : ℕ → Result (List ℕ) → Result ℕ
fitted room (answer a) = cond (leb (length a) room) (answer (length a)) (refusal 9 [])
fitted room (refusal n vs) = refusal n vs

-- the space at exit: an answer that fits fills its first octets, and a refusal changes none
abbrev pub space_after : Result (List ℕ) → List ℕ → List ℕ
space_after (answer a) before = cond (leb (length a) (length before)) (overlay a before) before
space_after (refusal n vs) before = before

-- the promise of whatever fills space: what it says, and every octet of the space
pub record Fills (result : Result (List ℕ)) (before : List ℕ) (words : Result ℕ) (after : List ℕ) : Type 0 where
  pub says : words ≡ fitted (length before) result
  pub space : after ≡ space_after result before
