-- Document 01's cases marked with *, with refusal 3 for a limit of 14 (document 02, request Thirteen), and those of the apex in the
-- modified way (request Four), as one table of questions with what the documents say to each, and the test of the whole table over the
-- definitions that the contracts cite. Names stand under the apex example.com., of 13 octets.
use Rattle.std.specs.Prelude.{List, [], ◌∷◌, ◌++◌, Bool, true, false, ◌&&◌, ℕ, eqb, replicate}
use Rattle.name.specs.Answer.{Result, answer, refusal}
use Rattle.key.specs.ReadKey.{read_key_of}
use Rattle.space.specs.Same.{same_octets}
use Rattle.neighbour.specs.Neighbour.{successor_of, predecessor_of}
use Rattle.neighbour.specs.Modified.{modified_successor_of, modified_predecessor_of}

-- the operation that is asked, with its limit, name or key
pub data Asked : Type 0 where
  before : ℕ → List ℕ → Asked
  after : ℕ → List ℕ → Asked
  modified_before : ℕ → List ℕ → Asked
  modified_after : ℕ → List ℕ → Asked
  key_read : List ℕ → Asked

-- what is asked, and what the documents say to it
pub record Case : Type 0 where
  pub asked : Asked
  pub says : Result (List ℕ)

-- ---- names

abbrev pub apex : List ℕ
apex = 7 ∷ 101 ∷ 120 ∷ 97 ∷ 109 ∷ 112 ∷ 108 ∷ 101 ∷ 3 ∷ 99 ∷ 111 ∷ 109 ∷ 0 ∷ []

abbrev pub foo : List ℕ
foo = 3 ∷ 102 ∷ 111 ∷ 111 ∷ apex

-- the label of one octet before a name
abbrev pub one : ℕ → List ℕ → List ℕ
one octet name = 1 ∷ octet ∷ name

-- foo\000
abbrev pub foo_0 : List ℕ
foo_0 = 4 ∷ 102 ∷ 111 ∷ 111 ∷ 0 ∷ apex

-- bar.foo
abbrev pub bar_foo : List ℕ
bar_foo = 3 ∷ 98 ∷ 97 ∷ 114 ∷ foo

-- the label of 63 octets 255 before the apex
abbrev pub last_short : List ℕ
last_short = 63 ∷ replicate 63 255 ++ apex

-- ---- the table

abbrev pub case : Asked → Result (List ℕ) → Case
case question said = record { asked = question; says = said }

abbrev pub table : List Case
table =
    -- 2
    case (before 255 (one 0 foo)) (answer foo)
    -- 4
    ∷ case (after 255 foo) (answer (one 0 foo))
    -- 8
    ∷ case (before 14 apex) (refusal 3 [])
    ∷ case (after 14 apex) (refusal 3 [])
    ∷ case (before 12 apex) (refusal 3 [])
    ∷ case (after 12 apex) (refusal 3 [])
    -- 9
    ∷ case (after 15 (one 64 apex)) (answer (one 91 apex))
    ∷ case (before 15 (one 91 apex)) (answer (one 64 apex))
    ∷ case (after 15 (one 255 apex)) (answer apex)
    -- 10
    ∷ case (modified_before 255 bar_foo) (answer foo)
    ∷ case (modified_after 255 bar_foo) (answer foo_0)
    ∷ case (modified_before 255 (one 0 apex)) (answer apex)
    -- 11
    ∷ case (modified_before 76 foo) (refusal 7 [])
    ∷ case (modified_after 76 foo) (refusal 7 [])
    -- request Four
    ∷ case (modified_before 77 apex) (answer last_short)
    ∷ case (modified_after 77 apex) (answer (one 0 apex))
    ∷ case (modified_after 77 last_short) (answer apex)
    ∷ case (modified_before 76 apex) (refusal 7 [])
    ∷ case (modified_after 76 apex) (refusal 7 [])
    -- 12
    ∷ case (before 0 (64 ∷ [])) (refusal 1 [])
    ∷ case (after 0 (64 ∷ [])) (refusal 1 [])
    ∷ case (modified_before 0 (64 ∷ [])) (refusal 1 [])
    ∷ case (modified_after 0 (64 ∷ [])) (refusal 1 [])
    -- 13
    ∷ case (key_read (0x00 ∷ [])) (refusal 10 (0 ∷ []))
    ∷ case (key_read (0x61 ∷ [])) (refusal 10 (1 ∷ []))
    ∷ []

-- ---- the test

abbrev pub said : Asked → Result (List ℕ)
said (before limit name) = predecessor_of apex limit name
said (after limit name) = successor_of apex limit name
said (modified_before limit name) = modified_predecessor_of apex limit name
said (modified_after limit name) = modified_successor_of apex limit name
said (key_read key) = read_key_of key

abbrev pub same_result : Result (List ℕ) → Result (List ℕ) → Bool
same_result (answer a) (answer b) = same_octets a b
same_result (answer a) (refusal m ws) = false
same_result (refusal n vs) (answer b) = false
same_result (refusal n vs) (refusal m ws) = eqb n m && same_octets vs ws

-- every case holds
abbrev pub all_hold : List Case → Bool
all_hold [] = true
all_hold (c ∷ cs) = same_result (said c.asked) c.says && all_hold cs
