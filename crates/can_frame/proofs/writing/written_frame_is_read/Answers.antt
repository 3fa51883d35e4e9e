use Rattle.can_frame.proofs.Spelled.{frame_of-text}
use Rattle.can_frame.proofs.writing.written_frame_is_read.Goals as goal

pub returns : goal.returns
returns c = frame_of-text
