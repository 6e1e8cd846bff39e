-- A gap covers a name exactly where it lies strictly between the gap's ends on the ring (`covers_between`).
use mathlib.Core.Path.{◌≡◌, refl, sym, ◌∙◌}
use mathlib.Core.List.{List}
use mathlib.Core.Bool.{Bool, true, false, ◌&&◌, ◌||◌, cond, true≢false}
use mathlib.Core.Logic.{◌⊎◌, inl, inr, ◌↔◌}
use Prim.Native.Nat.{ℕ}
use Rattle.facts.proofs.Booleans.{both_true, either_true}
use Rattle.name.specs.Wire.{reading_of}
use Rattle.order.specs.Order.{SortsBefore}
use Rattle.encloser.specs.Gap.{is_whole, is_before}
use Rattle.encloser.proofs.Gaps.{sorts_true, true_sorts, unsorted_false, whole_true, true_whole}
use Rattle.covering.specs.Between.{is_between, covers_of}
use Rattle.covering.specs.Denials.{Covered}
-- passed on, so that a wrong gap is refused at an example before any law of it is tried
pub use Rattle.covering.proofs.Examples.{covers_inside, covers_not_ends, covers_round, covers_one_name}

or_true : (a : Bool) → a || true ≡ true
or_true true = refl
or_true false = refl

module _ (owner next name : List ℕ) where
  true_covered : covers_of owner next name ≡ true → Covered owner next name
  true_covered t =
      let o : Bool = is_whole (reading_of owner) in
      let x : Bool = is_whole (reading_of next) in
      let n : Bool = is_whole (reading_of name) in
      let c = both_true (o && x && n) (is_between owner next name) t in
      let b = both_true (o && x) n c.0 in
      let a = both_true o x b.0 in
      record {
        whole_owner = whole_true (reading_of owner) a.0;
        whole_next = whole_true (reading_of next) a.1;
        whole_name = whole_true (reading_of name) b.1;
        between = λ h.
            let r = both_true (is_before owner name) (is_before name next) (rw (sorts_true owner next h) at c.1) in
            (true_sorts owner name r.0, true_sorts name next r.1);
        around = λ f. sides (either_true (is_before owner name) (is_before name next) (rw (unsorted_false owner next f) at c.1));
      }
    where
      sides : (is_before owner name ≡ true) ⊎ (is_before name next ≡ true) → SortsBefore owner name ⊎ SortsBefore name next
      sides (inl e) = inl (true_sorts owner name e)
      sides (inr e) = inr (true_sorts name next e)

  covered_true : Covered owner next name → covers_of owner next name ≡ true
  covered_true k =
      rw (
        true_whole (reading_of owner) k.whole_owner,
        true_whole (reading_of next) k.whole_next,
        true_whole (reading_of name) k.whole_name,
      )
      (go (is_before owner next) refl)
    where
      side : SortsBefore owner name ⊎ SortsBefore name next → is_before owner name || is_before name next ≡ true
      side (inl h) = rw (sorts_true owner name h)
      side (inr h) = rw (sorts_true name next h) (or_true (is_before owner name))

      go : (b : Bool) → is_before owner next ≡ b
          → cond b (is_before owner name && is_before name next) (is_before owner name || is_before name next) ≡ true
      go true e = let r = k.between (true_sorts owner next e) in rw (sorts_true owner name r.0, sorts_true name next r.1)
      go false e = side (k.around (λ h. true≢false (sym (sorts_true owner next h) ∙ e)))

  pub covers_between : (covers_of owner next name ≡ true) ↔ Covered owner next name
  covers_between = (true_covered, covered_true)
