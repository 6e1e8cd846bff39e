-- Reading a bitmap (document 02, Five): octet by octet, each where it may stand; and where no bitmap goes on so, the place. Window numbers
-- rise, a window has 1 to 32 octets, and the last of them is not 0. The laws show that this reads exactly the bitmaps of sets, each as its
-- set, and that the place is the length of the longest beginning that some bitmap also begins with.
use Rattle.std.specs.Prelude.{List, [], ◌∷◌, ◌++◌, Bool, ◌&&◌, cond, ℕ, zero, suc, ◌+◌, ◌-◌, ◌*◌, leb}
use Rattle.name.specs.Reader.{Read, found, stops}
use Rattle.types.specs.Window.{bit_types}

-- types before those that are found
abbrev pub before : List ℕ → Read → Read
before types (found more) = found (types ++ more)
before types (stops p) = stops p

-- a window number is `least` at least, and an octet
abbrev pub number_fits : ℕ → ℕ → Bool
number_fits least w = leb least w && leb w 255

-- a window has 1 to 32 octets
abbrev pub count_fits : ℕ → Bool
count_fits n = leb 1 n && leb n 32

-- the last octet of a window is not 0
abbrev pub last_fits : ℕ → Bool
last_fits o = leb 1 o && leb o 255

unfoldable mutual
  -- a window number at the place p, or the end
  pub read_number : ℕ → ℕ → List ℕ → Read
  read_number least p [] = found []
  read_number least p (w ∷ s) = cond (number_fits least w) (read_count w (p + 1) s) (stops p)

  -- how many octets the window w has
  pub read_count : ℕ → ℕ → List ℕ → Read
  read_count w p [] = stops p
  read_count w p (n ∷ s) = cond (count_fits n) (read_octets w (256 * w) (n - 1) (p + 1) s) (stops p)

  -- an octet of the window w whose highest bit is the type `first`, and after which `more` octets come
  pub read_octets : ℕ → ℕ → ℕ → ℕ → List ℕ → Read
  read_octets w first more p [] = stops p
  read_octets w first zero p (o ∷ s) = cond (last_fits o) (before (bit_types first 8 o) (read_number (w + 1) (p + 1) s)) (stops p)
  read_octets w first (suc more) p (o ∷ s) =
      cond (leb o 255) (before (bit_types first 8 o) (read_octets w (first + 8) more (p + 1) s)) (stops p)

-- the set whose bitmap this is, or the place where no bitmap goes on
abbrev pub read_types : List ℕ → Read
read_types octets = read_number 0 0 octets
