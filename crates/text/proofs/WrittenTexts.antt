-- The text that is written for a name is a text of the folded name (`written_has_text`).
use mathlib.Core.Path.{◌≡◌, refl}
use mathlib.Core.List.{List, [], ◌∷◌}
use Prim.Native.Nat.{ℕ}
use Rattle.std.specs.Prelude.{Ok}
use Rattle.space.specs.Octets.{Octets}
use Rattle.name.specs.Wire.{reading_of}
use Rattle.name.specs.Labels.{AllOctets}
use Rattle.space.specs.Fold.{folded}
use Rattle.name.proofs.Labels.{whole_name}
use Rattle.name.proofs.Folding.{folded_octets, folded_labels_lem, folded_whole}
use Rattle.order.specs.Order.{folded_labels}
use Rattle.text.specs.Grammar.{SpellsLabel, SpellsLabels, SpellsName, HasText}
use Rattle.text.specs.WriteText.{characters_of, label_text, labels_text, text_of}
use Rattle.text.proofs.Characters.{characters_spell}

pub label_spelled : (l : List ℕ) → Octets l → SpellsLabel l (label_text l)
unfolding label_text
label_spelled [] h = refl
label_spelled (o ∷ l) h = (characters_of o, label_text l, characters_spell o h.0, label_spelled l h.1, refl)

pub labels_spelled : (ls : List (List ℕ)) → AllOctets ls → SpellsLabels ls (labels_text ls)
unfolding labels_text
labels_spelled [] h = refl
labels_spelled (l ∷ ls) h = (label_text l, labels_text ls, label_spelled l h.0, labels_spelled ls h.1, refl)

pub text_spelled : (ls : List (List ℕ)) → AllOctets ls → SpellsName ls (text_of ls)
text_spelled [] h = refl
text_spelled (l ∷ ls) h = labels_spelled (l ∷ ls) h

pub written_has_text : (name : List ℕ) → Octets name → reading_of name ≡ Ok tt → HasText (folded name) (text_of (folded_labels name))
written_has_text name h e =
    let o : Octets (folded name) = folded_octets name h in
    let w : reading_of (folded name) ≡ (Ok tt) = folded_whole name e in
    record {
      octets = o;
      whole = w;
      spelled = rw (folded_labels_lem name e)
          (text_spelled (folded_labels name) (rw (folded_labels_lem name e) at (whole_name (folded name) o w).octets));
    }
