-- Whether one name sorts before another, none where one of them is no name, and whether a gap covers a name, from how the name and the
-- gap's ends sort.
use Rattle.std.specs.Prelude.{List, Bool, true, false, ℕ, Option, Some, None, Ok, Err}
use Rattle.name.specs.Wire.{Reading, reading_of}
use Rattle.encloser.specs.Gap.{is_before}

abbrev pub of_whole : Reading → Option Bool → Option Bool
of_whole (Ok _) x = x
of_whole (Err f) x = None

abbrev pub sorting_of : List ℕ → List ℕ → Option Bool
sorting_of first second = of_whole (reading_of first) (of_whole (reading_of second) (Some (is_before first second)))

abbrev pub goes_round : Option Bool → Bool
goes_round (Some true) = false
goes_round (Some false) = true
goes_round None = false

-- of a name that is sorted so behind the owner and before the next name, and of the two
abbrev pub covered_by : Option Bool → Option Bool → Option Bool → Bool
covered_by (Some true) (Some true) ends = true
covered_by (Some true) (Some false) ends = goes_round ends
covered_by (Some true) None ends = false
covered_by (Some false) (Some true) ends = goes_round ends
covered_by (Some false) (Some false) ends = false
covered_by (Some false) None ends = false
covered_by None _ ends = false
