use Rattle.std.proofs.Common.{◌≡◌, ◌∙◌, [], ℕ, take, ap, arith}
use Rattle.script_model.specs.Meaning.{InHead, bytes_of, reading}
use Rattle.script_model.proofs.Counting.{looked_at, finished_count}
use Rattle.script_laws.proofs.bytes_are_counted.Goals as goal

pub returns-clause-within : goal.returns-clause-within
returns-clause-within c = λ form places text.
    let seen = looked_at (InHead form places [] [] 1) text tt in omega (arith, seen.1.within, seen.1.count)

pub returns-clause-all : goal.returns-clause-all
returns-clause-all c = λ form places text still.
    let seen = looked_at (InHead form places [] [] 1) text tt in
    let whole = seen.1.all still in
    omega (arith, seen.1.count, whole)

pub returns-clause-before : goal.returns-clause-before
returns-clause-before c = λ form places text n lt.
    let seen = looked_at (InHead form places [] [] 1) text tt in seen.1.before n (omega (arith, seen.1.count, lt))

pub returns-clause-decided : goal.returns-clause-decided
returns-clause-decided c = λ form places text.
    let seen = looked_at (InHead form places [] [] 1) text tt in
    let same : bytes_of (reading form places text) ≡ seen.0 = omega (arith, seen.1.count) in
    ap (λ (n : ℕ). reading form places (take n text)) same ∙ seen.1.decided

pub returns-clause-last : goal.returns-clause-last
returns-clause-last c = λ form places text. finished_count (reading form places text)
