-- The meaning of what both ends hold.
use Rattle.std.specs.Prelude.{ℕ, Some, None, Option}
use Rattle.sets.specs.Contents.{Contents}
use Rattle.bearer.specs.declared.settings.Settings.{Settings}

-- a set in force, the number of the next frame to send, and the number that is expected next
pub record Force : Type 0 where
  pub set : Contents
  pub sending : ℕ
  pub expected : ℕ

pub record Bearing : Type 0 where
  pub settings : Settings
  -- the number of the next error event
  pub events : ℕ
  pub force : Option Force

-- a set comes into force: both numbers begin at 0
abbrev pub in_force : Contents → Force
in_force c = record { set = c; sending = 0; expected = 0 }

abbrev pub with_force : Option Force → Bearing → Bearing
with_force x b = record b { force = x }

-- as it is when an end is opened
abbrev pub opened : Settings → Bearing
opened s = record { settings = s; events = 0; force = None }

-- the set in force, as whoever owns an end sees it
abbrev pub standing : Option Force → Option Contents
standing None = None
standing (Some x) = Some x.set
