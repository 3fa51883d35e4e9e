use Rattle.rideview.proofs.Unmarked.{unmarked}
use Rattle.rideview.proofs.safe.safe_text_is_no_markup.Goals as goal

pub returns : goal.returns
returns c = λ text. unmarked text
