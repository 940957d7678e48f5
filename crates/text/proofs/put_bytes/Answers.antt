-- `text::put_bytes` meets its contract: the bytes are copied over the text's part from `at` on.
use Rattle.text.proofs.Putting.{put-behind}
use Rattle.text.proofs.put_bytes.Goals as goal

pub returns : goal.returns
returns c = put-behind _ _ _ _ c.requires c.copy_from_slice.ensures.after
