-- The meaning of a radio end.
use Rattle.std.specs.Prelude.{ℕ, Bool, List, None, Option}
use Rattle.sets.specs.Contents.{Contents}
use Rattle.exchange.specs.declared.exchange.Exchange.{Exchange}
use Rattle.exchange.specs.declared.numbered.Numbered.{Numbered}
use Rattle.bearer.specs.declared.settings.Settings.{Settings}
use Rattle.bearer.specs.Bearing.{Bearing}
use Rattle.bearer.specs.Bearing as Bearings

pub record Radio : Type 0 where
  pub bearing : Bearing
  -- the exchanges that run: of a set that is offered, of marks, of an octet that asks for a shift
  pub links : Option (Exchange Contents)
  -- the last two with the number of the next question
  pub rate : Numbered (List Bool)
  pub alignment : Numbered ℕ

-- an end on its line
pub record On (S L : Type 0) : Type 0 where
  pub state : S
  pub line : L

-- as it is opened
abbrev pub opened : Settings → Radio
opened s = record { bearing = Bearings.opened s; links = None; rate = record { running = None; next = 0 }; alignment = record { running = None; next = 0 } }
