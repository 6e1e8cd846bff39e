-- Fields (document 02, request Three): a tag, the number of the value's octets in two octets, the high one first, and the value. A field is
-- written, and read from the front of octets.
use Rattle.std.specs.Prelude.{List, [], ◌∷◌, cond, ◌&&◌, ℕ, ◌+◌, ◌*◌, ◌/◌, ◌%◌, length, take, drop, eqb, leb, ltb}

-- the octets of a field
abbrev pub field : ℕ → List ℕ → List ℕ
field tag value = tag ∷ length value / 256 ∷ length value % 256 ∷ value

-- what reading from the front of octets finds: a thing and the octets after it; or an octet that no such thing has there; or a beginning of
-- one, cut off
pub data Read (A : Type 0) : Type 0 where
  found : A → List ℕ → Read A
  wrong : Read A
  cut : Read A

-- one thing, and then another in the octets after it
abbrev pub and_then : {A B : Type 0} → Read A → (A → List ℕ → Read B) → Read B
and_then (found a rest) next = next a rest
and_then wrong next = wrong
and_then cut next = cut

-- the number of octets of a value that has from `least` to `most` of them; a high octet can be too large already
abbrev pub size_of : ℕ → ℕ → List ℕ → Read ℕ
size_of least most [] = cut
size_of least most (high ∷ []) = cond (ltb most (256 * high)) wrong cut
size_of least most (high ∷ low ∷ s) =
    cond (leb least (256 * high + low) && leb (256 * high + low) most) (found (256 * high + low) s) wrong

-- a value of so many octets
abbrev pub value_of : ℕ → List ℕ → Read (List ℕ)
value_of n s = cond (leb n (length s)) (found (take n s) (drop n s)) cut

-- the value of a field with this tag
unfoldable pub field_of : ℕ → ℕ → ℕ → List ℕ → Read (List ℕ)
field_of tag least most [] = cut
field_of tag least most (t ∷ s) = cond (eqb t tag) (and_then (size_of least most s) value_of) wrong
