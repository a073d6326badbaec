-- Laws of rounds: an event more, and none left.
use Prim.Native.Nat.{ℕ, ◌+◌, ◌<◌, ◌≤◌}
use mathlib.Core.Path.{◌≡◌}
use mathlib.Core.List.{List}
use native.Mathlib.Numerals.{add-one}
use lib.ListN.{length, get_or, drop, drop_of_length-le}
use lib.Seq.{drop-cons}
use Rattle.net.specs.declared.Net.{Net}
use Rattle.net.specs.declared.Observer.{Observer}
use Rattle.rounds.specs.Rounds.{round, rounds}

module _ (net : Net) (o : Observer) (events : List ℕ) (i : ℕ) where
  pub rounds_more : i < length events → rounds net o (drop i events) ≡ rounds net (round net o (get_or events i 0)) (drop (i + 1) events)
  unfolding rounds
  rounds_more more = rw (drop-cons events i 0 more, add-one i)

  pub rounds_none : length events ≤ i → rounds net o (drop i events) ≡ o
  unfolding rounds
  rounds_none all = rw (drop_of_length-le events all)
