-- What an operation's promise `Fills` tells its caller, by what the operation said.
use mathlib.Core.Path.{◌≡◌, refl}
use mathlib.Core.List.{List, []}
use mathlib.Core.Bool.{Bool, true, false, cond, true≢false}
use Prim.Native.Nat.{ℕ, ◌≤◌, ◌<◌}
use borrow.Author.Tests.{leb-true, leb-false}
use lib.Dec.{leb}
use lib.ListN.{length}
use Rattle.name.specs.declared.Refusal.{Refusal}
use Rattle.space.specs.Octets.{overlay}
use Rattle.name.specs.Answer.{Result, answer, refusal, refusal_number, refusal_values, numbered, Fills}

-- ---- where there is an answer for certain

pub answer_put : {a before after : List ℕ} {n : ℕ} → Fills (answer a) before (answer n) after
    → (n ≡ length a) × (length a ≤ length before) × (after ≡ overlay a before)
answer_put {a} {before} {after} {n} f = go (leb (length a) (length before)) refl f.says f.space
  where
    go : (b : Bool) → leb (length a) (length before) ≡ b → answer n ≡ cond b (answer (length a)) (refusal 9 [])
        → after ≡ cond b (overlay a before) before → (n ≡ length a) × (length a ≤ length before) × (after ≡ overlay a before)
    go true h x y = (cc, leb-true (length a) (length before) h, y)
    go false h x y = absurd (true≢false (cc))

pub answer_not_put : {a before after : List ℕ} {m : ℕ} {vs : List ℕ} → Fills (answer a) before (refusal m vs) after
    → (length before < length a) × (after ≡ before)
answer_not_put {a} {before} {after} {m} {vs} f = go (leb (length a) (length before)) refl f.says f.space
  where
    go : (b : Bool) → leb (length a) (length before) ≡ b → refusal m vs ≡ cond b (answer (length a)) (refusal 9 [])
        → after ≡ cond b (overlay a before) before → (length before < length a) × (after ≡ before)
    go true h x y = absurd (true≢false (cc))
    go false h x y = (leb-false (length a) (length before) h, y)

-- ---- where there may be none

-- an answer was written
pub record Wrote (result : Result (List ℕ)) (before : List ℕ) (n : ℕ) (after : List ℕ) : Type 0 where
  pub octets : List ℕ
  pub is : result ≡ answer octets
  pub count : n ≡ length octets
  pub room : length octets ≤ length before
  pub space : after ≡ overlay octets before

pub fills_answered : (result : Result (List ℕ)) (before after : List ℕ) (n : ℕ) → Fills result before (answer n) after
    → Wrote result before n after
fills_answered (answer a) before after n f =
    let p = answer_put f in record { octets = a; is = refl; count = p.0; room = p.1; space = p.2 }
fills_answered (refusal m vs) before after n f = let s = f.says in absurd (true≢false (cc))

-- there is an answer, and no room for it
pub record Lacks (result : Result (List ℕ)) (before after : List ℕ) : Type 0 where
  pub octets : List ℕ
  pub is : result ≡ answer octets
  pub no_room : length before < length octets
  pub space : after ≡ before

-- there is a refusal
pub record Refuses (result : Result (List ℕ)) (n : ℕ) (before after : List ℕ) : Type 0 where
  pub values : List ℕ
  pub is : result ≡ refusal n values
  pub space : after ≡ before

pub fills_lacks : (result : Result (List ℕ)) (before after : List ℕ) (w : Refusal) → refusal_number w ≡ 9
    → ((vs : List ℕ) → result ≡ refusal 9 vs → ⊥) → Fills result before (numbered w) after → Lacks result before after
fills_lacks (answer a) before after w e never f = go (leb (length a) (length before)) refl f.says f.space
  where
    go : (b : Bool) → leb (length a) (length before) ≡ b
        → refusal (refusal_number w) (refusal_values w) ≡ cond b (answer (length a)) (refusal 9 [])
        → after ≡ cond b (overlay a before) before → Lacks (answer a) before after
    go true h x y = absurd (true≢false (cc))
    go false h x y = record { octets = a; is = refl; no_room = leb-false (length a) (length before) h; space = y }
fills_lacks (refusal n vs) before after w e never f = let s = f.says in absurd (never vs (cc))

pub fills_refused : (result : Result (List ℕ)) (before after : List ℕ) (w : Refusal) → (refusal_number w ≡ 9 → ⊥)
    → Fills result before (numbered w) after → Refuses result (refusal_number w) before after
fills_refused (answer a) before after w ne f = go (leb (length a) (length before)) f.says
  where
    go : (b : Bool) → refusal (refusal_number w) (refusal_values w) ≡ cond b (answer (length a)) (refusal 9 [])
        → Refuses (answer a) (refusal_number w) before after
    go true x = absurd (true≢false (cc))
    go false x = absurd (ne (cc))
fills_refused (refusal n vs) before after w ne f = let s = f.says in record { values = vs; is = cc; space = f.space }
