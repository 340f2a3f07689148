-- The links held.
use Rattle.std.specs.Prelude.{ℕ, Bool, false}
use Rattle.sets.specs.Openings.{smallest}
use Rattle.sets.specs.Contents.{Contents, opened}

-- what they said, how many they are, and whether the last is among them
pub record Links : Type 0 where
  pub contents : Contents
  pub versions : ℕ
  pub links : ℕ
  pub complete : Bool

-- no link yet
abbrev pub nothing : Links
nothing = record { contents = opened smallest; versions = 0; links = 0; complete = false }
