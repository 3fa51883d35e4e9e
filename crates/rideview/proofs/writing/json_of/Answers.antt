use Rattle.std.proofs.Common.{◌≡◌, ◌++◌, ◌∙◌, [], ap}
use Rattle.json.specs.Print.{print}
use Rattle.rideview.specs.Form.{ride_tokens}
use Rattle.rideview.specs.Safe.{safe}
use Rattle.rideview.proofs.writing.json_of.Goals as goal

pub returns : goal.returns
returns c =
    let all = ride_tokens c.args.title.now c.args.ride.now c.args.report.now in
    let written = c.write_ride.new.writer in
    let tokens : written.tokens ≡ all = c.in_ok-write_ride.ensures.tokens ∙ ap (λ ts. ts ++ all) c.new-writer.ensures.tokens in
    let before : written.before ≡ [] =
    c.in_ok-write_ride.ensures.before ∙ (c.new-writer.ensures.before ∙ c.new.ensures.items) in
    let text : c.into_inner.result.items ≡ print all =
    c.into_inner.ensures.items ∙ (ap (λ front. front ++ print written.tokens) before ∙ ap print tokens) in
    c.in_ok-add_safe.ensures
    ∙ (ap (λ front. front ++ safe c.deref.result.now) c.new-text.ensures.items ∙ ap safe (c.deref.ensures.value ∙ text))
