-- A call of `batch` reads within what it is handed, and one that neither reads nor ends has no whole question before it.
use Rattle.std.proofs.Common.{length}
use Rattle.std.proofs.Math.Seq.{take-length}
use Rattle.answering.proofs.Moving.{octets_part, call_reads, call_waits}
use Rattle.stream.proofs.advance.Goals as goal

pub returns : goal.returns
returns g c =
    let s = c.args.octets.now in
    let octets = rw take-length at (octets_part (length s) 0 s (λ i. (c.type_inv.octets i).fits)) in (
      call_reads c.args.last s c.args.output.now _ _ c.batch-progress.ensures,
      call_waits c.args.last s c.args.output.now _ _ c.batch-progress.ensures octets c.requires c.if-progress.false,
    )
