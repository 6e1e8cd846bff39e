-- What the operations on hashes answer where the octets come from anywhere: 17 for octets that are no hash and for a label that is no
-- hash's, then 9 (document 02, Twelve).
use Rattle.std.specs.Prelude.{Bool, ℕ, cond, not, List, [], length, ◌==◌, Result as Outcome, Ok, Err, true, false}
use Rattle.name.specs.Answer.{Result, answer, refusal, refuse_if}
use Rattle.hash.specs.declared.HashRefusal.{HashRefusal}
use Rattle.hash.specs.declared.HashRefusal.TheVariants.{NoHash, NoRoom}
use Rattle.hash.specs.declared.NoHashes.{NoHashes}
use Rattle.hash.specs.Ring.{after, before}
use Rattle.hash.specs.Between.{lies_between}
use Rattle.hash.specs.Label.{label_of, is_label, hash_of}

-- the number of each case
abbrev pub said : Outcome ℕ HashRefusal → Result ℕ
said (Ok n) = answer n
said (Err NoHash) = refusal 17 []
said (Err NoRoom) = refusal 9 []

-- where a hash lies is 1 or 0
abbrev pub said_between : Outcome Bool NoHashes → Result ℕ
said_between (Ok true) = answer 1
said_between (Ok false) = answer 0
said_between (Err _) = refusal 17 []

-- a line of the table for octets that must be a hash
abbrev pub refuse_no_hash : {A : Type 0} → List ℕ → Result A → Result A
refuse_no_hash octets next = refuse_if (not (length octets == 20)) 17 next

abbrev pub after_of : List ℕ → Result (List ℕ)
after_of hash = refuse_no_hash hash (answer (after hash))

abbrev pub before_of : List ℕ → Result (List ℕ)
before_of hash = refuse_no_hash hash (answer (before hash))

abbrev pub write_label_of : List ℕ → Result (List ℕ)
write_label_of hash = refuse_no_hash hash (answer (label_of hash))

abbrev pub read_label_of : List ℕ → Result (List ℕ)
read_label_of label = refuse_if (not (is_label label)) 17 (answer (hash_of label))

abbrev pub between_of : List ℕ → List ℕ → List ℕ → Result ℕ
between_of first hash second =
    refuse_no_hash first
    (refuse_no_hash hash
    (refuse_no_hash second (answer (cond (lies_between first hash second) 1 0))))
