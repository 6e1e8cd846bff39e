-- The steps at document 01's examples, under the apex example.com., by computation.
use mathlib.Core.Path.{◌≡◌, refl}
use mathlib.Core.List.{List, [], ◌∷◌, ◌++◌}
use Prim.Native.Nat.{ℕ}
use lib.ListN.{replicate}
use Rattle.order.specs.Place.{full}
use Rattle.zone.specs.Alphabet.{scan, from, below}
use Rattle.zone.specs.Steps.{least, greatest, raised, climb, deeper, successor_steps, fill_labels, predecessor_steps}

foo : List ℕ
foo = 102 ∷ 111 ∷ 111 ∷ []

bar : List ℕ
bar = 98 ∷ 97 ∷ 114 ∷ []

-- a limit of 255 leaves 242 octets
example_1 : predecessor_steps full 242 127 (foo ∷ [])
    ≡ replicate 49 255 ∷ replicate 63 255 ∷ replicate 63 255 ∷ (102 ∷ 111 ∷ 110 ∷ replicate 60 255) ∷ []
unfolding foo scan from below greatest fill_labels predecessor_steps
example_1 = refl

example_2 : predecessor_steps full 242 127 ((0 ∷ []) ∷ foo ∷ []) ≡ foo ∷ []
unfolding foo scan from below greatest fill_labels predecessor_steps
example_2 = refl

example_3 : predecessor_steps full 242 127 ((102 ∷ 111 ∷ 111 ∷ 0 ∷ []) ∷ [])
    ≡ replicate 45 255 ∷ replicate 63 255 ∷ replicate 63 255 ∷ replicate 63 255 ∷ foo ∷ []
unfolding foo scan from below greatest fill_labels predecessor_steps
example_3 = refl

example_3_back : successor_steps full 242 127 (replicate 45 255 ∷ replicate 63 255 ∷ replicate 63 255 ∷ replicate 63 255 ∷ foo ∷ [])
    ≡ (102 ∷ 111 ∷ 111 ∷ 0 ∷ []) ∷ []
unfolding foo scan from least raised climb deeper successor_steps
example_3_back = refl

example_4 : successor_steps full 242 127 (foo ∷ []) ≡ (0 ∷ []) ∷ foo ∷ []
unfolding foo scan from least raised climb deeper successor_steps
example_4 = refl

label : List ℕ
label = replicate 63 111

-- fo{47} and fo{48}
long : ℕ → List ℕ
long k = 102 ∷ replicate k 111

example_5 : (successor_steps full 242 127 (long 47 ∷ label ∷ label ∷ label ∷ []) ≡ (long 47 ++ 0 ∷ []) ∷ label ∷ label ∷ label ∷ [])
    × (successor_steps full 242 127 (long 48 ∷ label ∷ label ∷ label ∷ []) ≡ (long 47 ++ 112 ∷ []) ∷ label ∷ label ∷ label ∷ [])
unfolding label long scan from least raised climb deeper successor_steps
example_5 = (refl, refl)

example_6 : successor_steps full 242 127 (replicate 49 255 ∷ label ∷ label ∷ label ∷ [])
    ≡ (replicate 62 111 ++ 112 ∷ []) ∷ label ∷ label ∷ []
unfolding label scan from least raised climb deeper successor_steps
example_6 = refl

example_7 : predecessor_steps full 242 127 [] ≡ replicate 49 255 ∷ replicate 63 255 ∷ replicate 63 255 ∷ replicate 63 255 ∷ []
unfolding below greatest fill_labels predecessor_steps
example_7 = refl

example_8 : (successor_steps full 1 127 [] ≡ []) × (predecessor_steps full 1 127 [] ≡ [])
unfolding scan from below least raised climb deeper successor_steps greatest fill_labels predecessor_steps
example_8 = (refl, refl)

example_9 : (successor_steps full 2 127 ((64 ∷ []) ∷ []) ≡ (91 ∷ []) ∷ [])
    × (predecessor_steps full 2 127 ((91 ∷ []) ∷ []) ≡ (64 ∷ []) ∷ [])
    × (successor_steps full 2 127 ((255 ∷ []) ∷ []) ≡ [])
unfolding scan from below least raised climb deeper successor_steps greatest fill_labels predecessor_steps
example_9 = (refl, refl, refl)

example_10 : (predecessor_steps full 242 1 (bar ∷ foo ∷ []) ≡ foo ∷ [])
    × (successor_steps full 242 1 (bar ∷ foo ∷ []) ≡ (102 ∷ 111 ∷ 111 ∷ 0 ∷ []) ∷ [])
    × (predecessor_steps full 242 1 ((0 ∷ []) ∷ []) ≡ [])
unfolding foo bar scan from below least raised climb deeper successor_steps greatest fill_labels predecessor_steps
example_10 = (refl, refl, refl)

-- a limit of 77 leaves 64 octets
example_11 : predecessor_steps full 64 1 (foo ∷ []) ≡ (102 ∷ 111 ∷ 110 ∷ replicate 60 255) ∷ []
unfolding foo scan from below greatest fill_labels predecessor_steps
example_11 = refl
