-- Names that are put into a space one behind the other are its front (`all_front`), and so a denial's promise is met, or refused with 9
-- where they have no room (`denies_written`, `denies_no_room`).
use mathlib.Core.Path.{◌≡◌, refl, sym, ap, ◌∙◌}
use mathlib.Core.List.{List, [], ◌∷◌, ◌++◌}
use Prim.Native.Nat.{ℕ, ◌+◌, ◌*◌, ◌≤◌, ◌<◌}
use native.Mathlib.Omega.{arith}
use borrow.Author.Tests.{le-leb, lt-leb}
use lib.ListN.{length, length-append}
use Rattle.space.specs.Octets.{overlay}
use Rattle.space.specs.Private.Put.{put}
use Rattle.space.specs.Private.Written.{Written}
use Rattle.space.proofs.Written.{written_none, written_behind, written_front}
use Rattle.space.proofs.Putting.{put_written}
use Rattle.name.specs.Answer.{Result, answer, refusal}
use Rattle.gaps.specs.Denies.{joined, lengths, Denies}
use Rattle.plan.specs.declared.Plan.{Plan}
use Rattle.plan.specs.Private.Planned.{planned, planned_size}
use Rattle.writing.proofs.PlanWriting.{planned_length}
use Rattle.gapnames.specs.Private.Named.{Writable}

-- names put from the index `at` on, one behind the other
abbrev pub put_all : List ℕ → ℕ → List (List ℕ) → List ℕ
put_all d at [] = d
put_all d at (n ∷ ns) = put_all (put d at n) (at + length n) ns

all_written : (ns : List (List ℕ)) (d : List ℕ) (at : ℕ) {end : ℕ} → at + length (joined ns) ≡ end → end ≤ length d
    → Written d at at (joined ns) end end (put_all d at ns)
all_written [] d at {end} e h = let same : at ≡ end = omega arith in rw (← same) (written_none d (omega arith) (omega arith) (omega arith))
all_written (n ∷ ns) d at {end} e h =
    let f : at + length n + length (joined ns) ≡ end = omega (arith, length-append n (joined ns)) in
    let w : Written d at at n (at + length n) (at + length n) (put d at n) = put_written d at n refl refl (omega arith) in
    written_behind w (all_written ns (put d at n) (at + length n) f (omega (arith, w.size))) (omega arith)

pub all_front : (ns : List (List ℕ)) (d : List ℕ) → length (joined ns) ≤ length d → put_all d 0 ns ≡ overlay (joined ns) d
all_front ns d h = written_front (all_written ns d 0 {end = length (joined ns)} (omega arith) h) (omega arith)

-- one more name behind them
all_more : (ns : List (List ℕ)) (d : List ℕ) (at : ℕ) (x : List ℕ)
    → put_all d at (ns ++ x ∷ []) ≡ put (put_all d at ns) (at + length (joined ns)) x
all_more [] d at x = let n : at + 0 ≡ at = omega arith in rw n
all_more (n ∷ ns) d at x =
    let i : at + length (n ++ joined ns) ≡ at + length n + length (joined ns) = omega (arith, length-append n (joined ns)) in
    all_more ns (put d at n) (at + length n) x ∙ ap (λ (k : ℕ). put (put_all (put d at n) (at + length n) ns) k x) (sym i)

pub name_behind : (ns : List (List ℕ)) (d : List ℕ) {e f : List ℕ} (x : List ℕ) (at : ℕ) → e ≡ put_all d 0 ns → length (joined ns) ≡ at
    → f ≡ put e at x → f ≡ put_all d 0 (ns ++ x ∷ [])
name_behind ns d {e} {f} x at is count made =
    let i : at ≡ 0 + length (joined ns) = omega arith in
    made
    ∙ ap (λ (y : List ℕ). put y at x) is
    ∙ ap (λ (k : ℕ). put (put_all d 0 ns) k x) i
    ∙ sym (all_more ns d 0 x)

module _ {result : Result (List (List ℕ))} {before : List ℕ} where
  pub denies_refusal : {n : ℕ} {vs : List ℕ} → result ≡ refusal n vs → Denies result before (refusal n vs) before
  denies_refusal e = rw e (record { says = refl; space = refl })

module _ (ns : List (List ℕ)) (before : List ℕ) where
  pub denies_no_room : length before < length (joined ns) → Denies (answer ns) before (refusal 9 []) before
  denies_no_room small =
      record {
        says = rw (lt-leb (length (joined ns)) (length before) small);
        space = rw (lt-leb (length (joined ns)) (length before) small);
      }

  pub denies_written : length (joined ns) ≤ length before → {after : List ℕ} → after ≡ put_all before 0 ns → {v : ℕ} → v ≡ lengths ns
      → Denies (answer ns) before (answer v) after
  denies_written room e is =
      record {
        says = rw (le-leb (length (joined ns)) (length before) room) (ap answer is);
        space = rw (le-leb (length (joined ns)) (length before) room) (e ∙ all_front ns before room);
      }

-- ---- the names of one gap, and of two

-- whatever octet pads it, a plan stands for so many octets
pub size_length : (g : ℕ) {s : List ℕ} {p : Plan} → Writable s p → {n : ℕ} → n ≡ planned_size s p → n ≡ length (planned g s p)
size_length g w e = e ∙ sym (planned_length g w.feasible)

module _ (a b : List ℕ) {m n : ℕ} (f : m ≡ length a) (g : n ≡ length b) where
  one_length : length (joined (a ∷ b ∷ [])) ≡ m + n
  one_length = simp length-append (omega arith)

  pub one_no_room : {d : List ℕ} → length d < m + n → Denies (answer (a ∷ b ∷ [])) d (refusal 9 []) d
  one_no_room {d} h = denies_no_room (a ∷ b ∷ []) d (omega (arith, one_length))

  pub one_written : {d : List ℕ} → m + n ≤ length d → {e h : List ℕ} → e ≡ put d 0 a → h ≡ put e m b
      → Denies (answer (a ∷ b ∷ [])) d (answer (m + 256 * n)) h
  one_written {d} room p q =
      denies_written (a ∷ b ∷ []) d (omega (arith, one_length))
      (name_behind (a ∷ []) d b m (name_behind [] d a 0 refl refl p) (simp length-append (omega arith)) q)
      (omega arith)

module _ (a b c d : List ℕ) {k l m n : ℕ} (f : k ≡ length a) (g : l ≡ length b) (h : m ≡ length c) (j : n ≡ length d) where
  two_length : length (joined (a ∷ b ∷ c ∷ d ∷ [])) ≡ k + l + m + n
  two_length = simp length-append (omega arith)

  pub two_no_room : {s : List ℕ} → length s < k + l + m + n → Denies (answer (a ∷ b ∷ c ∷ d ∷ [])) s (refusal 9 []) s
  two_no_room {s} i = denies_no_room (a ∷ b ∷ c ∷ d ∷ []) s (omega (arith, two_length))

  pub two_written : {s : List ℕ} → k + l + m + n ≤ length s → {s₁ s₂ s₃ s₄ : List ℕ} → s₁ ≡ put s 0 a → s₂ ≡ put s₁ k b
      → s₃ ≡ put s₂ (k + l) c → s₄ ≡ put s₃ (k + l + m) d
      → Denies (answer (a ∷ b ∷ c ∷ d ∷ [])) s (answer (k + 256 * (l + 256 * (m + 256 * n)))) s₄
  two_written {s} room p q r t =
      denies_written (a ∷ b ∷ c ∷ d ∷ []) s (omega (arith, two_length))
      (name_behind (a ∷ b ∷ c ∷ []) s d (k + l + m)
      (name_behind (a ∷ b ∷ []) s c (k + l)
      (name_behind (a ∷ []) s b k (name_behind [] s a 0 refl refl p) (simp length-append (omega arith)) q)
      (simp length-append (omega arith)) r)
      (simp length-append (omega arith)) t)
      (omega arith)
