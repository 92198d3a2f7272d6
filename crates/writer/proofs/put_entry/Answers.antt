-- `writer::put_entry` meets its contract: the offset goes where the count ended. Assumes nothing.
use mathlib.Core.Path.{◌∙◌}
use Rattle.writer.proofs.Pasting.{put_as, put_then, two_bytes, four_bytes}
use Rattle.writer.proofs.put_entry.Goals as goal

pub returns : goal.returns
returns c =
    put_then (put_as (c.to_le_bytes.ensures ∙ two_bytes _) c.put-middle.ensures) (put_as (c.to_le_bytes-2.ensures ∙ four_bytes _) c.put.ensures)
