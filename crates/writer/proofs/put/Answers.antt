-- `writer::put` meets its contract: the bytes are copied into the part that they fill. Assumes nothing.
use native.Mathlib.Omega.{arith}
use Rattle.writer.proofs.Pasting.{put_part}
use Rattle.writer.proofs.put.Goals as goal

pub returns : goal.returns
returns g c = put_part _ _ _ _ _ (omega arith) (omega arith) c.copy_from_slice.ensures.after
