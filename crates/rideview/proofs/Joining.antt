-- What is written in two or three pieces.
use Rattle.std.proofs.Common.{◌≡◌, List, ◌++◌, ◌∙◌, ap, append_assoc}

pub two : {X : Type 0} (old a b middle new : List X) → middle ≡ old ++ a → new ≡ middle ++ b → new ≡ old ++ (a ++ b)
two old a b middle new first second = second ∙ (ap (λ front. front ++ b) first ∙ append_assoc old a b)

pub three : {X : Type 0} (old a b c one other new : List X) → one ≡ old ++ a → other ≡ one ++ b → new ≡ other ++ c
    → new ≡ old ++ (a ++ (b ++ c))
three old a b c one other new first second third =
    two old a (b ++ c) one new first (two one b c other new second third)
