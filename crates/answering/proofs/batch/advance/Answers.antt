-- `advance` meets its contract: each case of what the reader of questions finds is one of `Advancing`'s steps.
use mathlib.Core.Path.{◌≡◌}
use Rattle.std.specs.Prelude.{Ok, Err}
use Rattle.question.specs.declared.NotAsked.TheVariants.{Wrong, Cut, End}
use Rattle.question.specs.Private.Asked.{asked_at}
use Rattle.question.proofs.AskedCases.{asked_is, parts_within}
use Rattle.answering.proofs.Advancing.{at_wrong, at_last_cut, at_cut, at_last_end, at_end_lem, at_question}
use Rattle.answering.proofs.batch.advance.Goals as goal

pub reply-requires : goal.reply-requires
reply-requires c = let h = asked_is _ _ (Ok _) c.in-Ok.ensures in rw h.parts (parts_within _ _ h.question h.rest h.is)

pub returns-then-last : goal.returns-then-last
returns-then-last c = let a = c.args in
    let cut : Err Cut ≡ asked_at a.input.now a.at = rw c.in-Err-Cut.field-0-is at c.in-Err-Cut.ensures in
    at_last_cut a.input.now a.at a.last a.space.now c.refuse-then-last.result c.refuse-then-last.new.space
    (asked_is _ _ _ cut) c.if-last.true c.refuse-then-last.ensures

pub returns-then-last-2 : goal.returns-then-last-2
returns-then-last-2 c = let a = c.args in
    let end : Err End ≡ asked_at a.input.now a.at = rw c.in-Err-End.field-0-is at c.in-Err-End.ensures in
    at_last_end _ _ _ _ (asked_is _ _ _ end) c.if-last-2.true

pub returns-in-Ok : goal.returns-in-Ok
returns-in-Ok c = let a = c.args in
    at_question a.input.now a.at a.last a.space.now _ (asked_is _ _ (Ok _) c.in-Ok.ensures) c.reply.result c.reply.new.space
    c.reply.ensures

pub returns-in-Err-Wrong : goal.returns-in-Err-Wrong
returns-in-Err-Wrong c = let a = c.args in
    let wrong : Err Wrong ≡ asked_at a.input.now a.at = rw c.in-Err-Wrong.field-0-is at c.in-Err-Wrong.ensures in
    at_wrong a.input.now a.at a.last a.space.now c.refuse.result c.refuse.new.space (asked_is _ _ _ wrong) c.refuse.ensures

pub returns-else-last : goal.returns-else-last
returns-else-last c = let a = c.args in
    let cut : Err Cut ≡ asked_at a.input.now a.at = rw c.in-Err-Cut.field-0-is at c.in-Err-Cut.ensures in
    at_cut _ _ _ _ (asked_is _ _ _ cut) c.if-last.false

pub returns-else-last-2 : goal.returns-else-last-2
returns-else-last-2 c = let a = c.args in
    let end : Err End ≡ asked_at a.input.now a.at = rw c.in-Err-End.field-0-is at c.in-Err-End.ensures in
    at_end_lem _ _ _ _ (asked_is _ _ _ end) c.if-last-2.false
