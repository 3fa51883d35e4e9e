use Rattle.std.proofs.Common.{◌≡◌, ◌<◌, ◌≤◌, length, false, rules, nat_lt}
use Rattle.saboteur.proofs.PlaceLemmas.{object_at, no_object_at}
use Rattle.saboteur.proofs.crew.Crew.holds.Goals as goal

pub returns-then-i-len-clause-place : goal.returns-then-i-len-clause-place
returns-then-i-len-clause-place g c = λ few.
    let within : c.args.i < length c.args.self.now.list.items = search rules in
    object_at c.args.self.now.list.items c.args.i c.index.result.now c.is_some.result few within c.index.ensures c.is_some.ensures

pub returns-else-i-len-clause-place : goal.returns-else-i-len-clause-place
returns-else-i-len-clause-place g c = λ few.
    let past : length c.args.self.now.list.items ≤ c.args.i = search rules in
    let none : nat_lt c.args.i c.len.result ≡ false = search rules in
    no_object_at c.args.self.now.list.items c.args.i (nat_lt c.args.i c.len.result) few past none
