use Rattle.std.proofs.Common.{◌≡◌, ◌∙◌, ap, subst}
use Rattle.lift_base.specs.declared.Side.TheVariants.{A, B}
use Rattle.lift_model.specs.Records.{SideFaultData}
use Rattle.lift_core.specs.Parts.{state_of}
use Rattle.round_model.specs.Parts.{Part, faults_of, part_by}
use Rattle.fault_runs.specs.Rounds.{Leads, begins, moves_in, part_at, part_data}
use Rattle.fault_runs.proofs.RoundLemmas.{leads_on, leads_state, on_ok, part_begun}
use Rattle.fault_runs.proofs.rounds.take_round.Goals as goal

pub returns-clause-leads : goal.returns-clause-leads
returns-clause-leads g c = on_ok c.move_in.result (λ moved config events h.
    let core = c.args.core.now in
    let mid = c.begin.new.core in
    let later = c.move_in.new.core in
    let input = c.args.input.now in
    let looks = c.args.looks in
    let begun = c.in_ok-begin.ensures.leads in
    let left = leads_state core mid config events (begins input) h (begun config events h) in
    let a : part_data c.part_of-a.result ≡ part_at A (state_of core) input =
    c.part_of-a.ensures
    ∙ (ap (λ (f : SideFaultData). part_by f.exchange c.failed.result f.hold) c.of_side.ensures
    ∙ (ap (λ b. part_by (faults_of A input).exchange b (faults_of A input).hold) c.failed.ensures
    ∙ part_begun config (state_of core) (state_of mid) input A left)) in
    let b : part_data c.part_of-b.result ≡ part_at B (state_of core) input =
    c.part_of-b.ensures
    ∙ (ap (λ (f : SideFaultData). part_by f.exchange c.failed-2.result f.hold) c.of_side-2.ensures
    ∙ (ap (λ b. part_by (faults_of B input).exchange b (faults_of B input).hold) c.failed-2.ensures
    ∙ part_begun config (state_of core) (state_of mid) input B left)) in
    let of_b = part_at B (state_of core) input in
    let both =
    subst (λ (p : Part). Leads g.CA.Channel.stands g.CB.Channel.stands mid later (moves_in looks p of_b input)) a
    (subst (λ (q : Part). Leads g.CA.Channel.stands g.CB.Channel.stands mid later (moves_in looks (part_data c.part_of-a.result) q input)) b
    moved) in
    leads_on core mid later (begins input) (moves_in looks (part_at A (state_of core) input) of_b input) begun both config events h)
    c.move_in.ensures.leads
