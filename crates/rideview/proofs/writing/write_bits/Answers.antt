use Rattle.rideview.proofs.Joining.{three}
use Rattle.rideview.proofs.writing.write_bits.Goals as goal

pub returns-clause-tokens : goal.returns-clause-tokens
returns-clause-tokens c =
    three _ _ _ _ _ _ _ c.in_ok-put.ensures.tokens c.in_ok-write_texts.ensures.tokens c.in_ok-put-2.ensures.tokens
