use Rattle.std.proofs.Common.{◌≡◌, ◌+◌}
use Rattle.std.specs.Prelude.{option_and_then}
use Rattle.node_sim.proofs.TickFrames.{sends, sent, sent_if, went_on, went_on_if, in_order}
use Rattle.node_sim.proofs.producing.Producers.tick.Goals as goal

pub returns : goal.returns
returns c config cycle trace n s words =
    let roof : c.tick.result ≡ sends cycle trace (n + 1) 0 config.roof =
    sent cycle trace n 0 config.roof _ _ c.tick.result c.tick.ensures.frame s.roof (words 0) in
    let pit : c.tick-2.result ≡ sends cycle trace (n + 1) 1 config.pit =
    sent cycle trace n 1 config.pit _ _ c.tick-2.result c.tick-2.ensures.frame s.pit (words 1) in
    let car : c.tick_if.result ≡ option_and_then (sends cycle trace (n + 1) 2) config.car =
    sent_if cycle trace n 2 config.car _ _ c.tick_if.result c.tick_if.ensures.frame s.car (words 2) in
    let doors : c.tick-3.result ≡ sends cycle trace (n + 1) 3 config.doors =
    sent cycle trace n 3 config.doors _ _ c.tick-3.result c.tick-3.ensures.frame s.doors (words 3) in
    let panel : c.tick-4.result ≡ sends cycle trace (n + 1) 4 config.panel =
    sent cycle trace n 4 config.panel _ _ c.tick-4.result c.tick-4.ensures.frame s.panel (words 4) in
    let platform : c.tick_if-2.result ≡ option_and_then (sends cycle trace (n + 1) 5) config.platform =
    sent_if cycle trace n 5 config.platform _ _ c.tick_if-2.result c.tick_if-2.ensures.frame s.platform (words 5) in (
      rw (
        c.push_if-6.ensures.value,
        c.push_if-5.ensures.value,
        c.push_if-4.ensures.value,
        c.push_if-3.ensures.value,
        c.push_if-2.ensures.value,
        c.push_if.ensures.value,
        c.new-frames.ensures,
        roof,
        pit,
        car,
        doors,
        panel,
        platform,
      ) (in_order config cycle trace (n + 1)),
      record {
        roof = went_on cycle trace n 0 config.roof _ _ _ c.tick.ensures.more s.roof (words 0);
        pit = went_on cycle trace n 1 config.pit _ _ _ c.tick-2.ensures.more s.pit (words 1);
        car = went_on_if cycle trace n 2 config.car _ _ _ c.tick_if.ensures.more s.car (words 2);
        doors = went_on cycle trace n 3 config.doors _ _ _ c.tick-3.ensures.more s.doors (words 3);
        panel = went_on cycle trace n 4 config.panel _ _ _ c.tick-4.ensures.more s.panel (words 4);
        platform = went_on_if cycle trace n 5 config.platform _ _ _ c.tick_if-2.ensures.more s.platform (words 5);
      },
    )
