use Rattle.grant_model.proofs.sources.Sources.take.Goals as goal

pub returns : goal.returns
returns g c config inputs h = record {
  roof = c.take.ensures config config.roof inputs h.roof;
  pit = c.take-2.ensures config config.pit inputs h.pit;
  car = c.take_if.ensures config config.car inputs h.car;
  doors = c.take-3.ensures config config.doors inputs h.doors;
  panel = c.take-4.ensures config config.panel inputs h.panel;
  platform = c.take_if-2.ensures config config.platform inputs h.platform;
}
