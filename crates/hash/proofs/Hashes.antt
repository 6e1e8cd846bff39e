-- Octets that must be a hash: those that have not 20 octets are refused with 17, and others pass; what is made of a hash as an array is
-- the answer (`hash_answered`).
use Rattle.std.proofs.Common.{◌≡◌, ℕ, Bool, cond, List, [], length, replicate, sym, ap, ◌∙◌, refl, true, false, eq-eqb, ne_eqb, Ok}
use Rattle.name.specs.Answer.{Result, answer, refusal, Fills}
use Rattle.hash.specs.Answers.{said_between, refuse_no_hash, between_of}
use Rattle.hash.specs.Between.{lies_between}
use Rattle.hash.specs.Private.Arrays.{array_of}

module _ {A : Type 0} (s : List ℕ) (next : Result A) where
  pub no_hash : (length s ≡ 20 → ⊥) → refuse_no_hash s next ≡ refusal 17 []
  no_hash h = rw (ne_eqb (length s) 20 h)

  pub is_hash : length s ≡ 20 → refuse_no_hash s next ≡ next
  is_hash h = rw (eq-eqb (length s) 20 h)

pub is_array : (s : List ℕ) → length s ≡ 20 → array_of s ≡ s
is_array s h = rw (eq-eqb (length s) 20 h)

pub no_array : (s : List ℕ) → (length s ≡ 20 → ⊥) → array_of s ≡ replicate 20 0
no_array s h = rw (ne_eqb (length s) 20 h)

-- the space is filled with what is made of the array that holds the hash
pub hash_answered : (f : List ℕ → List ℕ) (s : List ℕ) {a x before after : List ℕ} {words : Result ℕ} → length s ≡ 20 → a ≡ array_of s
    → x ≡ f a
    → Fills (answer x) before words after → Fills (refuse_no_hash s (answer (f s))) before words after
hash_answered f s h ea ex g = rw (is_hash s (answer (f s)) h, ← is_array s h, ← ea, ← ex) g

module _ (first hash second : List ℕ) where
  pub no_first : (length first ≡ 20 → ⊥) → refusal 17 [] ≡ between_of first hash second
  no_first h = sym (no_hash first _ h)

  module _ (f : length first ≡ 20) where
    pub no_middle : (length hash ≡ 20 → ⊥) → refusal 17 [] ≡ between_of first hash second
    no_middle h = sym (is_hash first _ f ∙ no_hash hash _ h)

    module _ (m : length hash ≡ 20) where
      pub no_second : (length second ≡ 20 → ⊥) → refusal 17 [] ≡ between_of first hash second
      no_second h = sym (is_hash first _ f ∙ is_hash hash _ m ∙ no_hash second _ h)

      -- as the arrays of the three lie
      pub all_hashes : length second ≡ 20 → {a b c : List ℕ} → {t : Bool} → a ≡ array_of first → b ≡ array_of hash → c ≡ array_of second
          → t ≡ lies_between a b c
          → said_between (Ok t) ≡ between_of first hash second
      all_hashes s {t = t} ea eb ec lies =
          let told : lies_between first hash second ≡ t =
          rw (← is_array first f, ← is_array hash m, ← is_array second s, ← ea, ← eb, ← ec) (sym lies) in
          said t ∙ sym (is_hash first _ f ∙ is_hash hash _ m ∙ is_hash second _ s ∙ ap (λ (u : Bool). answer (cond u 1 0)) told)
        where
          said : (u : Bool) → said_between (Ok u) ≡ answer (cond u 1 0)
          said true = refl
          said false = refl
