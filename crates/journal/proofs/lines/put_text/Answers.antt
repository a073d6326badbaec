-- The text is walked byte by byte.
use Rattle.std.proofs.Common.{arith}
use Rattle.codec.proofs.Walk.{walking-none, walking-room, walking-more, walking-all}
use Rattle.journal.proofs.Putting.{text-joined}
use Rattle.journal.proofs.lines.put_text.Goals as goal

pub loop-byte-init : goal.loop-byte-init
loop-byte-init c = walking-none (rw (text-joined c.args.text.now) c.requires)

pub put_byte-next-requires : goal.put_byte-next-requires
put_byte-next-requires c = walking-room c.loop-byte.invariant (omega arith)

pub loop-byte-preserved : goal.loop-byte-preserved
loop-byte-preserved c = walking-more c.loop-byte.invariant (omega arith) c.put_byte-next.ensures

pub returns : goal.returns
returns c = rw (text-joined c.args.text.now) at (walking-all c.loop-byte.invariant (omega arith))
