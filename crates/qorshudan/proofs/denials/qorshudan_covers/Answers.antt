-- `qorshudan_covers` meets its contract: whether a name is covered is told by 1 or 0.
use mathlib.Core.Path.{sym, ap, ◌∙◌}
use mathlib.Core.Bool.{Bool, cond}
use Rattle.name.specs.Answer.{answer}
use Rattle.qorshudan.specs.Packed.{packed}
use Rattle.qorshudan.proofs.denials.qorshudan_covers.Goals as goal

pub returns-then-covers : goal.returns-then-covers
returns-then-covers c = c.pack.ensures ∙ ap (λ (b : Bool). packed (answer (cond b 1 0))) (sym c.if-covers.true ∙ c.covers.ensures)

pub returns : goal.returns
returns c = c.pack-2.ensures ∙ ap (λ (b : Bool). packed (answer (cond b 1 0))) (sym c.if-covers.false ∙ c.covers.ensures)
