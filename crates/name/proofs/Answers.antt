-- How an operation's promise is met: by a refusal, by an answer with no room, by an answer that is written.
use mathlib.Core.Path.{◌≡◌, refl, ap}
use mathlib.Core.List.{List, [], ◌++◌}
use Prim.Native.Nat.{ℕ, ◌≤◌, ◌<◌}
use borrow.Author.Tests.{le-leb, lt-leb}
use lib.ListN.{length, replicate}
use Rattle.name.specs.declared.Fault.{Fault}
use Rattle.std.specs.Prelude.{Result as Outcome, Ok, Err, MatchResult}
use Rattle.name.specs.declared.Refusal.{Refusal}
use Rattle.name.specs.declared.Refusal.TheVariants.{BadName}
use Rattle.name.specs.declared.Name.{Name}
use Rattle.facts.proofs.Parts.{drop_replicate}
use Rattle.space.specs.Octets.{overlay}
use Rattle.name.specs.Wire.{reading_of}
use Rattle.name.specs.Answer.{Result, answer, refusal, Fills, refuse_broken, fault_values}
use Rattle.name.specs.Starts.{starts_of}
use Rattle.name.specs.Check.{in_array, name_of, Checks}

pub answer_injective : {A : Type 0} {a b : A} → answer a ≡ answer b → a ≡ b
answer_injective e = cc

-- the same result
pub fills_same : {r q : Result (List ℕ)} → r ≡ q → {before : List ℕ} {words : Result ℕ} {after : List ℕ} → Fills r before words after
    → Fills q before words after
fills_same e f = rw (← e) f

module _ {result : Result (List ℕ)} {before : List ℕ} where
  pub fills_refusal : {n : ℕ} {vs : List ℕ} → result ≡ refusal n vs → Fills result before (refusal n vs) before
  fills_refusal e = rw e (record { says = refl; space = refl })

  pub fills_no_room : {a : List ℕ} → result ≡ answer a → length before < length a → Fills result before (refusal 9 []) before
  fills_no_room {a} e small =
      rw e (record { says = rw (lt-leb (length a) (length before) small); space = rw (lt-leb (length a) (length before) small) })

  pub fills_answer : {a : List ℕ} {n : ℕ} {after : List ℕ} → result ≡ answer a → n ≡ length a → length a ≤ length before
      → after ≡ overlay a before
      → Fills result before (answer n) after
  fills_answer {a} {n} {after} e en room ea =
      rw e (record {
        says = rw (le-leb (length a) (length before) room) (ap answer en);
        space = rw (le-leb (length a) (length before) room) ea;
      })

-- what is said, in other words for the same
pub fills_said : {result : Result (List ℕ)} {before after : List ℕ} {words same : Result ℕ} → Fills result before words after → words ≡ same
    → Fills result before same after
fills_said f e = rw e at f

-- ---- octets that must be well formed

module _ {A : Type 0} (r : Result A) (s : List ℕ) (n : ℕ) where
  pub broken_refused : (f : Fault) → reading_of s ≡ Err f → refuse_broken (reading_of s) n r ≡ refusal n (fault_values f)
  broken_refused f e = rw e

  pub whole_passed : reading_of s ≡ Ok tt → refuse_broken (reading_of s) n r ≡ r
  whole_passed e = rw e

-- the value that passes `map_err` is what was found
pub found_ok : {T E : Type 0} (r : Outcome T E) {x : T} → MatchResult r (λ y. ◌≡◌ {A = Outcome T Refusal} (Ok x) (Ok y)) (λ _. ⊥) → r ≡ Ok x
found_ok (Ok y) m = cc
found_ok (Err f) m = elim m [ ]

-- ---- checking

-- an array of 0s with octets copied to its front
pub array_front : (n : ℕ) (s : List ℕ) → overlay s (replicate n 0) ≡ in_array n s
array_front n s = ap (λ (r : List ℕ). s ++ r) (drop_replicate (length s) n 0)

-- an array that was 0 and had s copied to its front, with the labels of s and their places
pub holds : (s h : List ℕ) (n : ℕ) (places : List ℕ) → h ≡ overlay s (replicate 255 0) → n ≡ length (starts_of s)
    → places ≡ in_array 127 (starts_of s)
    → ◌≡◌ {A = Name} (record { octets = h; len = length s; labels = n; places = places }) (name_of s)
holds s h n places e en ep = rw (e, en, ep, array_front 255 s)

pub checks_whole : (s : List ℕ) (n : Name) → reading_of s ≡ Ok tt → n ≡ name_of s
    → Checks s (record { outcome = Ok (length s); name = n })
checks_whole s n e en = record { says = rw e; name = rw e en }

pub checks_broken : (s : List ℕ) (f : Fault) (n : Name) → reading_of s ≡ Err f → n ≡ name_of []
    → Checks s (record { outcome = Err (BadName f); name = n })
checks_broken s f n e en = record { says = rw e; name = rw e en }
