-- What two sides saw of each other in a tick that both have ended.
use Rattle.std.specs.Prelude.{◌≡◌, ◌⊎◌, true, Some, IfSome}
use Rattle.round_board.specs.declared.words.SideWords.{SideWords}
use Rattle.round_board.specs.declared.words.Collected.{Collected}
use Rattle.round_board.specs.declared.tally.Tally.{Tally}

-- what t saw, where it looked, is the peer's publish word as it stood before the tick or as it stands after it
abbrev pub SawPeer : Tally → SideWords → SideWords → Type 0
SawPeer t before after = IfSome t.seen (λ n. (n ≡ before.publish) ⊎ (n ≡ after.publish))

-- of two sides that published before they looked, at least one saw the peer's publish word as it stands after the tick
abbrev pub OneSaw : Tally → Tally → Collected → Type 0
OneSaw a b words = a.published_first ≡ true → b.published_first ≡ true → (a.seen ≡ Some words.b.publish) ⊎ (b.seen ≡ Some words.a.publish)
