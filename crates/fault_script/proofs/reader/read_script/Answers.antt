use Rattle.std.proofs.Common.{[]}
use Rattle.saboteur.specs.Held.{places_of}
use Rattle.fault_script.proofs.reader.read_script.Goals as goal

pub returns-clause-says : goal.returns-clause-says
returns-clause-says g c =
    let places = places_of c.args.crew.now in
    c.finish.ensures.says c.args.form places c.args.text.now (c.feed.ensures.read c.args.form places [] c.in-Ok.ensures.read)

pub returns-clause-rules : goal.returns-clause-rules
returns-clause-rules g c =
    let places = places_of c.args.crew.now in
    c.finish.ensures.rules c.args.form places c.args.text.now (c.feed.ensures.read c.args.form places [] c.in-Ok.ensures.read)
