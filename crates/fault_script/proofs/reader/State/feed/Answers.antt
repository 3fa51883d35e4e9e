use Rattle.std.proofs.Common.{ℕ, Option, Ok, Err, drop, length, ◌-◌, take, subst, refl}
use Rattle.std.proofs.lemmas.List.{take_rest}
use Rattle.fault_script.specs.declared.fed.Fed.{Fed}
use Rattle.fault_script.specs.declared.fed.Fed.TheVariants as fed
use Rattle.fault_script.specs.Went.{HeadFed}
use Rattle.fault_script.proofs.Readers.{TellsOf, head_on, head_stopped, rest_fed}
use Rattle.fault_script.proofs.reader.State.feed.Goals as goal

pub returns-in-Ok-None-clause-stands : goal.returns-in-Ok-None-clause-stands
returns-in-Ok-None-clause-stands c = λ r stands.
    let head = c.in-Head.head in
    let piece = c.args.piece.now in
    let led = subst (λ (x : Option ℕ). HeadFed (Ok x) head c.feed.new.self piece) c.in-Ok-None.field-0-is c.in-Ok-None.ensures in
    (head_on _ head c.feed.new.self piece c.in-Head.is led r stands).0

pub returns-in-Ok-None-clause-tells : goal.returns-in-Ok-None-clause-tells
returns-in-Ok-None-clause-tells c = λ r stands.
    let head = c.in-Head.head in
    let piece = c.args.piece.now in
    let led = subst (λ (x : Option ℕ). HeadFed (Ok x) head c.feed.new.self piece) c.in-Ok-None.field-0-is c.in-Ok-None.ensures in
    (head_on _ head c.feed.new.self piece c.in-Head.is led r stands).1

pub returns-in-Ok-More-clause-stands : goal.returns-in-Ok-More-clause-stands
returns-in-Ok-More-clause-stands c = λ r stands.
    let head = c.in-Head.head in
    let piece = c.args.piece.now in
    let n = c.in-Ok-Some.n in
    let rest = take (length piece - n) (drop n piece) in
    let led = subst (λ (x : Option ℕ). HeadFed (Ok x) head c.feed.new.self piece) c.in-Ok-Some.field-0-is c.in-Ok-Some.ensures in
    let begun = λ (used : ℕ). c.begin.ensures.stands _ used refl in
    let told = subst (λ (x : Fed). TellsOf c.begin.new.self rest (Ok x)) c.in-Ok-More.field-0-is c.in-Ok-More.ensures.tells in
    let leads = c.feed_lines.ensures.stands in
    let after = rest_fed _ c.begin.new.self c.feed_lines.new.self head c.feed.new.self piece rest n (Ok fed.More) in
    (after c.in-Head.is (take_rest piece n) led begun leads told r stands).0

pub returns-in-Ok-More-clause-tells : goal.returns-in-Ok-More-clause-tells
returns-in-Ok-More-clause-tells c = λ r stands.
    let head = c.in-Head.head in
    let piece = c.args.piece.now in
    let n = c.in-Ok-Some.n in
    let rest = take (length piece - n) (drop n piece) in
    let led = subst (λ (x : Option ℕ). HeadFed (Ok x) head c.feed.new.self piece) c.in-Ok-Some.field-0-is c.in-Ok-Some.ensures in
    let begun = λ (used : ℕ). c.begin.ensures.stands _ used refl in
    let told = subst (λ (x : Fed). TellsOf c.begin.new.self rest (Ok x)) c.in-Ok-More.field-0-is c.in-Ok-More.ensures.tells in
    let leads = c.feed_lines.ensures.stands in
    let after = rest_fed _ c.begin.new.self c.feed_lines.new.self head c.feed.new.self piece rest n (Ok fed.More) in
    (after c.in-Head.is (take_rest piece n) led begun leads told r stands).1

pub returns-in-Ok-Ended-clause-stands : goal.returns-in-Ok-Ended-clause-stands
returns-in-Ok-Ended-clause-stands c = λ r stands.
    let head = c.in-Head.head in
    let piece = c.args.piece.now in
    let n = c.in-Ok-Some.n in
    let rest = take (length piece - n) (drop n piece) in
    let led = subst (λ (x : Option ℕ). HeadFed (Ok x) head c.feed.new.self piece) c.in-Ok-Some.field-0-is c.in-Ok-Some.ensures in
    let begun = λ (used : ℕ). c.begin.ensures.stands _ used refl in
    let told = subst (λ (x : Fed). TellsOf c.begin.new.self rest (Ok x)) c.in-Ok-Ended.field-0-is c.in-Ok-Ended.ensures.tells in
    let leads = c.feed_lines.ensures.stands in
    let after = rest_fed _ c.begin.new.self c.feed_lines.new.self head c.feed.new.self piece rest n (Ok (fed.Ended c.in-Ok-Ended.k)) in
    (after c.in-Head.is (take_rest piece n) led begun leads told r stands).0

pub returns-in-Ok-Ended-clause-tells : goal.returns-in-Ok-Ended-clause-tells
returns-in-Ok-Ended-clause-tells c = λ r stands.
    let head = c.in-Head.head in
    let piece = c.args.piece.now in
    let n = c.in-Ok-Some.n in
    let rest = take (length piece - n) (drop n piece) in
    let led = subst (λ (x : Option ℕ). HeadFed (Ok x) head c.feed.new.self piece) c.in-Ok-Some.field-0-is c.in-Ok-Some.ensures in
    let begun = λ (used : ℕ). c.begin.ensures.stands _ used refl in
    let told = subst (λ (x : Fed). TellsOf c.begin.new.self rest (Ok x)) c.in-Ok-Ended.field-0-is c.in-Ok-Ended.ensures.tells in
    let leads = c.feed_lines.ensures.stands in
    let after = rest_fed _ c.begin.new.self c.feed_lines.new.self head c.feed.new.self piece rest n (Ok (fed.Ended c.in-Ok-Ended.k)) in
    (after c.in-Head.is (take_rest piece n) led begun leads told r stands).1

pub returns-in-Err-feed_lines-clause-stands : goal.returns-in-Err-feed_lines-clause-stands
returns-in-Err-feed_lines-clause-stands c = λ r stands.
    let head = c.in-Head.head in
    let piece = c.args.piece.now in
    let n = c.in-Ok-Some.n in
    let rest = take (length piece - n) (drop n piece) in
    let led = subst (λ (x : Option ℕ). HeadFed (Ok x) head c.feed.new.self piece) c.in-Ok-Some.field-0-is c.in-Ok-Some.ensures in
    let begun = λ (used : ℕ). c.begin.ensures.stands _ used refl in
    let told = c.in-Err-feed_lines.ensures.tells in
    let leads = c.feed_lines.ensures.stands in
    let after = rest_fed _ c.begin.new.self c.feed_lines.new.self head c.feed.new.self piece rest n (Err c.in-Err-feed_lines.fault) in
    (after c.in-Head.is (take_rest piece n) led begun leads told r stands).0

pub returns-in-Err-feed_lines-clause-tells : goal.returns-in-Err-feed_lines-clause-tells
returns-in-Err-feed_lines-clause-tells c = λ r stands.
    let head = c.in-Head.head in
    let piece = c.args.piece.now in
    let n = c.in-Ok-Some.n in
    let rest = take (length piece - n) (drop n piece) in
    let led = subst (λ (x : Option ℕ). HeadFed (Ok x) head c.feed.new.self piece) c.in-Ok-Some.field-0-is c.in-Ok-Some.ensures in
    let begun = λ (used : ℕ). c.begin.ensures.stands _ used refl in
    let told = c.in-Err-feed_lines.ensures.tells in
    let leads = c.feed_lines.ensures.stands in
    let after = rest_fed _ c.begin.new.self c.feed_lines.new.self head c.feed.new.self piece rest n (Err c.in-Err-feed_lines.fault) in
    (after c.in-Head.is (take_rest piece n) led begun leads told r stands).1

pub returns-in-Err-clause-stands : goal.returns-in-Err-clause-stands
returns-in-Err-clause-stands c = λ r stands.
    (head_stopped _ _ c.in-Head.head c.in-Err.fault c.args.piece.now c.in-Head.is c.stop.ensures c.in-Err.ensures r stands).0

pub returns-in-Err-clause-tells : goal.returns-in-Err-clause-tells
returns-in-Err-clause-tells c = λ r stands.
    (head_stopped _ _ c.in-Head.head c.in-Err.fault c.args.piece.now c.in-Head.is c.stop.ensures c.in-Err.ensures r stands).1
