-- Demand 3 of document 00, "One name, one key", over the definitions that the contracts of `fold`, `compare`, `write_key` and `read_key`
-- cite. Each part is one of its sentences.
use Rattle.std.specs.Prelude.{◌≡◌, List, [], ◌∷◌, ℕ, ◌≤◌, length, ℤ, pos, negsuc}
use Rattle.space.specs.Fold.{folded}
use Rattle.name.specs.Fold.{fold_of}
use Rattle.name.specs.Answer.{answer, refusal, fitted}
use Rattle.order.specs.Order.{◌⊏◌, SortsBefore, folded_labels}
use Rattle.order.specs.Compare.{number_of, compare_of}
use Rattle.key.specs.Key.{key_of, write_key_of}
use Rattle.key.specs.ReadKey.{read_key_of}
use Rattle.key.specs.Begins.{HasKey, Longest}
use Rattle.name.specs.WellFormed.{WellFormed}

-- what is asked of two names: both sorting keys, both folded names and the comparison
pub record Asked (s t : List ℕ) : Type 0 where
  pub first_key : List ℕ
  pub second_key : List ℕ
  pub first_folded : List ℕ
  pub second_folded : List ℕ
  pub number : ℤ
  pub first_key_is : write_key_of s ≡ answer first_key
  pub second_key_is : write_key_of t ≡ answer second_key
  pub first_folded_is : fold_of s ≡ answer first_folded
  pub second_folded_is : fold_of t ≡ answer second_folded
  pub number_is : compare_of s t ≡ answer number

-- the comparison is negative, or positive
abbrev pub Negative : ℤ → Type 0
Negative (pos n) = ⊥
Negative (negsuc n) = Unit {0}

abbrev pub Positive : ℤ → Type 0
Positive (pos n) = (n ≡ 0) → ⊥
Positive (negsuc n) = ⊥

-- of two well formed names
pub record OneKey (s t : List ℕ) (a : Asked s t) : Type 0 where
  -- each is the very one that document 01 defines
  pub first_key_defined : a.first_key ≡ key_of (folded_labels s)
  pub second_key_defined : a.second_key ≡ key_of (folded_labels t)
  pub first_folded_defined : a.first_folded ≡ folded s
  pub second_folded_defined : a.second_folded ≡ folded t
  pub number_defined : a.number ≡ number_of (folded_labels s) (folded_labels t)
  -- the keys are equal exactly when the names differ in letter case at most, and exactly then the comparison is zero
  pub equal_keys : a.first_key ≡ a.second_key → a.first_folded ≡ a.second_folded
  pub equal_names : a.first_folded ≡ a.second_folded → a.first_key ≡ a.second_key
  pub zero_names : a.number ≡ pos 0 → a.first_folded ≡ a.second_folded
  pub names_zero : a.first_folded ≡ a.second_folded → a.number ≡ pos 0
  -- otherwise byte order of the keys, the canonical order and the comparison's sign agree
  pub key_first : a.first_key ⊏ a.second_key → SortsBefore s t
  pub name_first : SortsBefore s t → a.first_key ⊏ a.second_key
  pub sign_first : Negative a.number → SortsBefore s t
  pub first_sign : SortsBefore s t → Negative a.number
  pub sign_second : Positive a.number → SortsBefore t s
  pub second_sign : SortsBefore t s → Positive a.number
  pub one_of_three : (a.first_folded ≡ a.second_folded → ⊥) → (SortsBefore s t → ⊥) → SortsBefore t s

pub record DemandThree : Type 0 where
  -- two well formed names get an answer to each question, given room
  pub asked : (s t : List ℕ) → WellFormed s → WellFormed t → Asked s t
  pub one_key : (s t : List ℕ) → WellFormed s → WellFormed t → (a : Asked s t) → OneKey s t a
  -- a folded name folded again gives the same octets, and its key is that of the name it came from
  pub folded_again : (s f : List ℕ) → WellFormed s → fold_of s ≡ answer f → fold_of f ≡ answer f
  pub folded_key : (s f : List ℕ) → WellFormed s → fold_of s ≡ answer f → write_key_of f ≡ write_key_of s
  -- the key reader refuses bytes, however small the space, exactly when no well formed name has them as its key
  pub refused_no_key : (k vs : List ℕ) (room : ℕ) → fitted room (read_key_of k) ≡ refusal 10 vs → (s : List ℕ) → HasKey s k → ⊥
  pub no_key_refused : (k : List ℕ) → ((s : List ℕ) → HasKey s k → ⊥) → (room : ℕ)
      → (p : ℕ) × (fitted room (read_key_of k) ≡ refusal 10 (p ∷ []))
  -- the place of that refusal is the length of the longest beginning that some key also begins with
  pub place : (k : List ℕ) (p : ℕ) → read_key_of k ≡ refusal 10 (p ∷ []) → Longest k p
  -- otherwise, given room, it answers the one folded name that all names with this key share
  pub answered : (s k : List ℕ) → HasKey s k → read_key_of k ≡ answer (folded s)
  -- and the key written of that answer, given room, is those bytes again
  pub written_again : (k a : List ℕ) → read_key_of k ≡ answer a → WellFormed a × (write_key_of a ≡ answer k)
  -- a key has at most 504 octets (document 01), and one has as many
  pub key_most : (s k : List ℕ) → write_key_of s ≡ answer k → length k ≤ 504
  pub key_of_504 : (s : List ℕ) × (k : List ℕ) × WellFormed s × (write_key_of s ≡ answer k) × (length k ≡ 504)
