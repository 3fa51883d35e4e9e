use Rattle.std.proofs.Common.{subst, refl, Result, Ok, Err}
use Rattle.fault_script.specs.declared.fed.Fed.{Fed}
use Rattle.fault_script.specs.declared.fed.Fed.TheVariants as fed
use Rattle.fault_script.specs.declared.script_fault.ScriptFault.{ScriptFault}
use Rattle.fault_script.proofs.Readers.{LinesFed, lines_fed, ended_stays, stopped_stays}
use Rattle.fault_script.proofs.reader.State.feed_lines.Goals as goal

pub returns-in-Ok-More-clause-stands : goal.returns-in-Ok-More-clause-stands
returns-in-Ok-More-clause-stands c = λ r stands.
    let body = c.in-Body.body in
    let piece = c.args.piece.now in
    let led = subst (λ (x : Fed). LinesFed body c.feed.new.self piece (Ok x)) c.in-Ok-More.field-0-is c.in-Ok-More.ensures.fed in
    (lines_fed _ _ body c.feed.new.self piece (Ok fed.More) c.in-Body.is refl led r stands).0

pub returns-in-Ok-More-clause-tells : goal.returns-in-Ok-More-clause-tells
returns-in-Ok-More-clause-tells c = λ r stands.
    let body = c.in-Body.body in
    let piece = c.args.piece.now in
    let led = subst (λ (x : Fed). LinesFed body c.feed.new.self piece (Ok x)) c.in-Ok-More.field-0-is c.in-Ok-More.ensures.fed in
    (lines_fed _ _ body c.feed.new.self piece (Ok fed.More) c.in-Body.is refl led r stands).1

pub returns-in-Ok-Ended-clause-stands : goal.returns-in-Ok-Ended-clause-stands
returns-in-Ok-Ended-clause-stands c = λ r stands.
    let body = c.in-Body.body in
    let piece = c.args.piece.now in
    let led = subst (λ (x : Fed). LinesFed body c.feed.new.self piece (Ok x)) c.in-Ok-Ended.field-0-is c.in-Ok-Ended.ensures.fed in
    (lines_fed _ _ body c.feed.new.self piece (Ok (fed.Ended c.in-Ok-Ended.k)) c.in-Body.is (c.end.ensures _ refl) led r stands).0

pub returns-in-Ok-Ended-clause-tells : goal.returns-in-Ok-Ended-clause-tells
returns-in-Ok-Ended-clause-tells c = λ r stands.
    let body = c.in-Body.body in
    let piece = c.args.piece.now in
    let led = subst (λ (x : Fed). LinesFed body c.feed.new.self piece (Ok x)) c.in-Ok-Ended.field-0-is c.in-Ok-Ended.ensures.fed in
    (lines_fed _ _ body c.feed.new.self piece (Ok (fed.Ended c.in-Ok-Ended.k)) c.in-Body.is (c.end.ensures _ refl) led r stands).1

pub returns-in-Err-clause-stands : goal.returns-in-Err-clause-stands
returns-in-Err-clause-stands c = λ r stands.
    let told : Result Fed ScriptFault = Err c.in-Err.fault in
    (lines_fed _ _ c.in-Body.body c.feed.new.self c.args.piece.now told c.in-Body.is c.stop.ensures c.in-Err.ensures.fed r stands).0

pub returns-in-Err-clause-tells : goal.returns-in-Err-clause-tells
returns-in-Err-clause-tells c = λ r stands.
    let told : Result Fed ScriptFault = Err c.in-Err.fault in
    (lines_fed _ _ c.in-Body.body c.feed.new.self c.args.piece.now told c.in-Body.is c.stop.ensures c.in-Err.ensures.fed r stands).1

pub returns-in-Ended-clause-stands : goal.returns-in-Ended-clause-stands
returns-in-Ended-clause-stands c = λ r stands. (ended_stays _ c.in-Ended.field-0 c.args.piece.now c.in-Ended.is r stands).0

pub returns-in-Ended-clause-tells : goal.returns-in-Ended-clause-tells
returns-in-Ended-clause-tells c = λ r stands. (ended_stays _ c.in-Ended.field-0 c.args.piece.now c.in-Ended.is r stands).1

pub returns-in-Stopped-clause-stands : goal.returns-in-Stopped-clause-stands
returns-in-Stopped-clause-stands c = λ r stands. (stopped_stays _ c.in-Stopped.fault c.args.piece.now c.in-Stopped.is r stands).0

pub returns-in-Stopped-clause-tells : goal.returns-in-Stopped-clause-tells
returns-in-Stopped-clause-tells c = λ r stands. (stopped_stays _ c.in-Stopped.fault c.args.piece.now c.in-Stopped.is r stands).1
