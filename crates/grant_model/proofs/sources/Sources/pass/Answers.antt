use Rattle.grant_model.proofs.sources.Sources.pass.Goals as goal

pub returns : goal.returns
returns g c config inputs x none h = record {
  roof = c.pass.ensures config config.roof inputs x none h.roof;
  pit = c.pass-2.ensures config config.pit inputs x none h.pit;
  car = c.pass_if.ensures config config.car inputs x none h.car;
  doors = c.pass-3.ensures config config.doors inputs x none h.doors;
  panel = c.pass-4.ensures config config.panel inputs x none h.panel;
  platform = c.pass_if-2.ensures config config.platform inputs x none h.platform;
}
