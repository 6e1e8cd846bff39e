-- The comparison of two names: a signed number (document 01, "Comparing").
use Rattle.std.specs.Prelude.{List, [], ◌∷◌, reverse, cond, ℕ, suc, ltb, ℤ, pos, negsuc, Ok, Err, Result as Outcome}
use Rattle.name.specs.Wire.{reading_of}
use Rattle.name.specs.Answer.{Result, answer, refuse_broken, numbered}
use Rattle.order.specs.Order.{folded_labels}
use Rattle.std.specs.declared.cmp.Ordering.{Ordering}
use Rattle.std.specs.declared.cmp.Ordering.TheVariants.{Less, Equal, Greater}
use Rattle.name.specs.declared.Refusal.{Refusal}

-- the order of two lists of octets
abbrev pub order_of : List ℕ → List ℕ → Ordering
order_of [] [] = Equal
order_of [] (y ∷ t) = Less
order_of (x ∷ s) [] = Greater
order_of (x ∷ s) (y ∷ t) = cond (ltb x y) Less (cond (ltb y x) Greater (order_of s t))

-- the first order, unless it is `Equal`
abbrev pub decide : Ordering → Ordering → Ordering
decide Less next = Less
decide Equal next = next
decide Greater next = Greater

-- the order of two lists of labels, the rightmost first
abbrev pub right_order : List (List ℕ) → List (List ℕ) → Ordering
right_order [] [] = Equal
right_order [] (m ∷ ms) = Less
right_order (l ∷ ls) [] = Greater
right_order (l ∷ ls) (m ∷ ms) = decide (order_of l m) (right_order ls ms)

-- one label more is shared where the labels are the same
abbrev pub counted : Ordering → ℕ → ℕ
counted Less n = 0
counted Equal n = suc n
counted Greater n = 0

-- how many labels two lists share, the rightmost first
abbrev pub right_shared : List (List ℕ) → List (List ℕ) → ℕ
right_shared [] ms = 0
right_shared (l ∷ ls) [] = 0
right_shared (l ∷ ls) (m ∷ ms) = counted (order_of l m) (right_shared ls ms)

-- zero where they are the same, otherwise 1 plus the number of shared labels, negative where the first is earlier
abbrev pub signed : Ordering → ℕ → ℤ
signed Less shared = negsuc shared
signed Equal shared = pos 0
signed Greater shared = pos (suc shared)

-- the comparison of two names by their folded labels
abbrev pub number_of : List (List ℕ) → List (List ℕ) → ℤ
number_of ls ms = signed (right_order (reverse ls) (reverse ms)) (right_shared (reverse ls) (reverse ms))

-- comparing: 4, 11, or the number
abbrev pub compare_of : List ℕ → List ℕ → Result ℤ
compare_of first second =
    refuse_broken (reading_of first) 4
    (refuse_broken (reading_of second) 11
    (answer (number_of (folded_labels first) (folded_labels second))))

-- what a comparison said
abbrev pub said : Outcome ℤ Refusal → Result ℤ
said (Ok z) = answer z
said (Err w) = numbered w
