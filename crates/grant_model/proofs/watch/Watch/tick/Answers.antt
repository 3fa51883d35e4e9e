use Rattle.std.proofs.Common.{◌≡◌, [], ◌∷◌, ◌++◌, length, ap, ◌∙◌}
use Rattle.std.proofs.lemmas.List.{map_push, length-map}
use Rattle.lift_model.specs.Records.{InputData, ImageData}
use Rattle.lift_model.specs.Trace.{words_of, image_at_end}
use Rattle.lift_base.specs.declared.wires.TheConstants.{RESET, PIT_RESET}
use Rattle.lift_model.specs.Wires.{rises}
use Rattle.lift_model.specs.Watched.{WatchedTick}
use Rattle.lift_model.proofs.PushLemmas.{image_words-push}
use Rattle.lift_model.proofs.WatchedLemmas.{Watches-push}
use Rattle.contact_input.specs.StandsFor as wires
use Rattle.grant_model.proofs.watch.Watch.tick.Goals as goal

pub returns : goal.returns
returns c config inputs x image h =
    let later = inputs ++ x ∷ [] in
    let words = ap (λ (i : ImageData). i.words) c.image.view_is ∙ (ap (λ (i : ImageData). i.words) image
    ∙ image_words-push config inputs x) in
    let wires : wires.StandsFor c.tick.new.self config.disc (words_of later) =
    rw (map_push (λ (i : InputData). i.words) inputs x, ← words) (c.tick.ensures config.disc (words_of inputs) h.wires) in
    let long : length (words_of later) ≡ length later = length-map later (λ (i : InputData). i.words) in
    let pit_rise : c.rose.result ≡ rises (words_of later) PIT_RESET (length later) =
    c.rose.ensures config.disc (words_of later) wires ∙ ap (rises (words_of later) PIT_RESET) long in
    let rise : c.rose-2.result ≡ rises (words_of later) RESET (length later) =
    c.rose-2.ensures config.disc (words_of later) wires ∙ ap (rises (words_of later) RESET) long in
    let pit_tick : WatchedTick = record { image = image_at_end config later; rise = rises (words_of later) PIT_RESET (length later) } in
    let tick : WatchedTick = record { image = image_at_end config later; rise = rises (words_of later) RESET (length later) } in
    record {
      wires = wires;
      pit = (
        h.pit.0 ++ pit_tick ∷ [],
        Watches-push config PIT_RESET inputs h.pit.0 x h.pit.1,
        rw (← image, ← pit_rise) (c.tick-2.ensures h.pit.0 h.pit.2),
      );
      doors = (
        h.doors.0 ++ tick ∷ [],
        Watches-push config RESET inputs h.doors.0 x h.doors.1,
        rw (← image, ← rise) (c.tick-3.ensures config.door h.doors.0 h.doors.2),
      );
    }
