use Rattle.round_board.proofs.Points.{one_view, made_before, last_stores, near, owners_notes, ended_receipts, done_ended, taken_stand, kept_stand, loaded_peers, one_of_two}
use Rattle.round_board.proofs.rule.points_of_the_rule.Goals as goal

pub returns-clause-one_view : goal.returns-clause-one_view
returns-clause-one_view c = one_view

pub returns-clause-made_before : goal.returns-clause-made_before
returns-clause-made_before c = made_before

pub returns-clause-last_stores : goal.returns-clause-last_stores
returns-clause-last_stores c = last_stores

pub returns-clause-near : goal.returns-clause-near
returns-clause-near c = near

pub returns-clause-owners_notes : goal.returns-clause-owners_notes
returns-clause-owners_notes c = owners_notes

pub returns-clause-ended_receipts : goal.returns-clause-ended_receipts
returns-clause-ended_receipts c = ended_receipts

pub returns-clause-done_ended : goal.returns-clause-done_ended
returns-clause-done_ended c = done_ended

pub returns-clause-taken_stand : goal.returns-clause-taken_stand
returns-clause-taken_stand c = taken_stand

pub returns-clause-kept_stand : goal.returns-clause-kept_stand
returns-clause-kept_stand c = kept_stand

pub returns-clause-loaded_peers : goal.returns-clause-loaded_peers
returns-clause-loaded_peers c = loaded_peers

pub returns-clause-one_of_two : goal.returns-clause-one_of_two
returns-clause-one_of_two c = one_of_two
