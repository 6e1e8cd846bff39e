-- The gap of a query (document 02, request Seven): the names between an owner name and its next name, where one that is missing lies.
use Rattle.std.specs.Prelude.{List, reverse, Bool, true, false, ◌&&◌, cond, ℕ, Ok, Err}
use Rattle.name.specs.Wire.{Reading}
use Rattle.std.specs.declared.cmp.Ordering.TheVariants.{Less, Equal, Greater}
use Rattle.name.specs.Wire.{reading_of}
use Rattle.std.specs.declared.cmp.Ordering.{Ordering}
use Rattle.order.specs.Order.{folded_labels}
use Rattle.order.specs.Compare.{right_order}
use Rattle.checks.specs.Under.{is_under}

abbrev pub is_whole : Reading → Bool
is_whole (Ok _) = true
is_whole (Err f) = false

abbrev pub is_earlier : Ordering → Bool
is_earlier Less = true
is_earlier Equal = false
is_earlier Greater = false

-- the first name sorts before the second
abbrev pub is_before : List ℕ → List ℕ → Bool
is_before first second = is_earlier (right_order (reverse (folded_labels first)) (reverse (folded_labels second)))

-- the query is before the next name; in the last gap, where that one is not after the owner, both lie at or under it instead
abbrev pub ends_gap : List ℕ → List ℕ → List ℕ → Bool
ends_gap query owner next = cond (is_before owner next) (is_before query next) (is_under next owner && is_under next query)

-- all three are well formed, the query is strictly after the owner, and the next name ends the gap
abbrev pub is_in_gap : List ℕ → List ℕ → List ℕ → Bool
is_in_gap query owner next =
    is_whole (reading_of query) && is_whole (reading_of owner) && is_whole (reading_of next)
    && is_before owner query && ends_gap query owner next
