-- Request Twelve of document 02, hashed neighbours, over the definitions that the contracts of the functions on hashes cite. Each part is
-- one of its sentences; characters are given by their numbers.
use Rattle.std.specs.Prelude.{◌≡◌, List, [], ◌∷◌, ◌++◌, ◌⊎◌, ◌↔◌, true, cond, ℕ, ◌+◌, ◌-◌, ◌%◌, ◌^◌, ◌≤◌, ◌<◌, length, replicate}
use Rattle.space.specs.Octets.{Octets}
use Rattle.space.specs.Fold.{folded}
use Rattle.name.specs.Answer.{Result, answer, refusal, fitted}
use Rattle.order.specs.Order.{◌⊏◌}
use Rattle.hash.specs.Digits.{value}
use Rattle.hash.specs.Ring.{after, before}
use Rattle.hash.specs.Between.{lies_between}
use Rattle.hash.specs.Label.{label_of, hash_of}
use Rattle.hash.specs.Answers.{after_of, before_of, write_label_of, read_label_of, between_of}
use Rattle.demands.specs.Lines.{Line, RoomLine}

-- 20 octets
abbrev pub IsHash : List ℕ → Type 0
IsHash hash = (length hash ≡ 20) × Octets hash

-- 17 for other than 20 octets, then 9
abbrev pub HashLines : Result ℕ → List ℕ → ℕ → List ℕ → Type 0
HashLines result hash room octets = Line result (refusal 17 []) (length hash ≡ 20 → ⊥) (RoomLine result room octets)

-- a character of base32hex, in either letter case: 0 to 9, A to V or a to v
abbrev pub Base32Hex : ℕ → Type 0
Base32Hex c = ((48 ≤ c) × (c ≤ 57)) ⊎ ((65 ≤ c) × (c ≤ 86)) ⊎ ((97 ≤ c) × (c ≤ 118))

abbrev pub AllBase32Hex : List ℕ → Type 0
AllBase32Hex [] = Unit {0}
AllBase32Hex (c ∷ label) = Base32Hex c × AllBase32Hex label

-- 32 such characters
abbrev pub IsLabel : List ℕ → Type 0
IsLabel label = (length label ≡ 32) × AllBase32Hex label

-- ---- the request

pub record Hashes : Type 0 where
  -- the hash after and the hash before are given for 20 octets, other octets get 17, and 9 comes after it
  pub after_lines : (hash : List ℕ) (room : ℕ) → HashLines (fitted room (after_of hash)) hash room (after hash)
  pub before_lines : (hash : List ℕ) (room : ℕ) → HashLines (fitted room (before_of hash)) hash room (before hash)
  -- a hash is a 160-bit number that goes round at both ends
  pub one_more : (hash : List ℕ) → IsHash hash → IsHash (after hash) × (value 256 (after hash) ≡ (value 256 hash + 1) % 2 ^ 160)
  pub one_less : (hash : List ℕ) → IsHash hash
      → IsHash (before hash) × (value 256 (before hash) ≡ (value 256 hash + (2 ^ 160 - 1)) % 2 ^ 160)
  pub first_after_last : after_of (replicate 20 255) ≡ answer (replicate 20 0)
  -- adding one to the last octet turns 255 into 0 and carries
  pub last_octet : (s : List ℕ) (o : ℕ) → o < 255 → Octets s → after (s ++ o ∷ []) ≡ s ++ (o + 1) ∷ []
  pub carries : (s : List ℕ) → after (s ++ 255 ∷ []) ≡ after s ++ 0 ∷ []
  -- each undoes the other
  pub after_undone : (hash : List ℕ) → IsHash hash → before_of (after hash) ≡ answer hash
  pub before_undone : (hash : List ℕ) → IsHash hash → after_of (before hash) ≡ answer hash
  -- the owner label has 32 characters of base32hex, lower case, no padding
  pub write_lines : (hash : List ℕ) (room : ℕ) → HashLines (fitted room (write_label_of hash)) hash room (label_of hash)
  pub label_characters : (hash : List ℕ) → IsHash hash → IsLabel (label_of hash) × (folded (label_of hash) ≡ label_of hash)
  -- it is read in either case, any other label gets 17, and 9 comes after it
  pub read_lines : (label : List ℕ) (room : ℕ) → let result = fitted room (read_label_of label) in
      Line result (refusal 17 []) (IsLabel label → ⊥) (RoomLine result room (hash_of label))
  -- what is written is read back, and what is read is written again in lower case
  pub read_back : (hash : List ℕ) → IsHash hash → read_label_of (label_of hash) ≡ answer hash
  pub written_again : (label : List ℕ) → IsLabel label → IsHash (hash_of label) × (write_label_of (hash_of label) ≡ answer (folded label))
  -- labels sort as their hashes do
  pub label_order : (s t : List ℕ) → IsHash s → IsHash t → s ⊏ t ↔ label_of s ⊏ label_of t
  -- the test is for three hashes, and other octets get 17; it is told by 1 or 0
  pub between_lines : (first hash second : List ℕ)
      → Line (between_of first hash second) (refusal 17 []) ((length first ≡ 20) × (length hash ≡ 20) × (length second ≡ 20) → ⊥)
      (between_of first hash second ≡ answer (cond (lies_between first hash second) 1 0))
  -- strictly between two others on the ring, going up from the first
  pub lies_up : (first hash second : List ℕ) → value 256 first < value 256 second → lies_between first hash second ≡ true
      ↔ (value 256 first < value 256 hash) × (value 256 hash < value 256 second)
  pub lies_round : (first hash second : List ℕ) → value 256 second < value 256 first → lies_between first hash second ≡ true
      ↔ (value 256 first < value 256 hash) ⊎ (value 256 hash < value 256 second)
  -- if the two are equal, every other hash lies between
  pub lies_equal : (first hash : List ℕ) → IsHash first → IsHash hash → lies_between first hash first ≡ true ↔ (hash ≡ first → ⊥)
  -- what it is for: between the hash before and the hash after lies the hash itself and no other, so that these two ends deny nothing else
  pub lies_alone : (hash other : List ℕ) → IsHash hash → IsHash other → lies_between (before hash) other (after hash) ≡ true ↔ other ≡ hash
