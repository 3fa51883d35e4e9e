use Rattle.std.proofs.Common.{◌≡◌, ◌+◌, ◌++◌, ◌∙◌, [], ◌∷◌, length, take, slice_get, sym, ap, subst, arith}
use Rattle.std.proofs.lemmas.List.{length_push}
use Rattle.ride_lanes.specs.Moments.{IsMoment, sight_after}
use Rattle.ride_lanes.specs.Watches.{Watches}
use Rattle.ride_lanes.proofs.MomentLemmas.{each_pushed}
use Rattle.ride_lanes.proofs.moments.moments_of.Goals as goal

pub loop-at-preserved : goal.loop-at-preserved
loop-at-preserved c =
    let script = c.args.script.now in
    let run = c.args.run.now in
    let at = c.loop-at.at in
    let before = c.loop-at.moments.items in
    let last = c.moment_after.result in
    let now = c.loop-at.invariant in
    let same : c.trace-trace.result.now.inputs ≡ script.inputs = c.trace-trace.ensures in
    let watched : Watches c.loop-at.watcher script.config (take at c.trace-trace.result.now.inputs) =
    subst (λ inputs. Watches c.loop-at.watcher script.config (take at inputs)) (sym same) now.watches in
    let seen : c.take-sight.result ≡ sight_after script.config (take (at + 1) script.inputs) =
    subst (λ inputs. c.take-sight.result ≡ sight_after script.config (take (at + 1) inputs)) same
    (c.take-sight.ensures.sight script.config watched) in
    let pushed : c.push.new.moments.items ≡ before ++ last ∷ [] = c.in_ok-push.ensures in
    record {
      watches = subst (λ inputs. Watches c.take-sight.new.self script.config (take (at + 1) inputs)) same
          (c.take-sight.ensures.stands script.config watched);
      count = omega (arith, ap length pushed, length_push before last, now.count);
      each = λ i moment got. each_pushed script run before last now.each
          (subst (λ n. IsMoment script run (n + 1) last) (sym now.count) (c.moment_after.ensures seen)) i moment
          (sym (ap (λ l. slice_get l i) pushed) ∙ got);
    }
