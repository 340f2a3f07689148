-- The law of whole runs.
use Rattle.std.specs.Prelude.{◌≡◌, ℕ, Bool, List, ◌++◌}
use Rattle.reports.specs.declared.ending.Kind.TheVariants.{Initialisation, RateControl, TimeAlignment}
use Rattle.exchange.specs.Books.{Kept}
use Rattle.bearer.specs.declared.settings.Settings.{Settings}
use Rattle.radio_end.specs.Radio.{Radio, On}
use Rattle.radio_end.specs.Runs.{Call, Run}
use Rattle.radio_end.specs.Ledger.{books, Fair, taken, handed_over}

module _ {L : Type 0} (waiting : L → List (List ℕ)) (takes : L → ℕ → Bool) where
  -- what the ledger of a run shows, from end e to end e'
  pub record Lawful (s : Settings) (e : On Radio L) (cs : List Call) (e' : On Radio L) : Type 0 where
    -- every delivery fits the set in force
    pub deliveries : Fair cs
    -- the books of each kind are kept, with the T and N of its settings
    pub initialisation : Kept s.initialisation.ticks s.initialisation.repeats (books Initialisation cs)
    pub rate : Kept s.rate.ticks s.rate.repeats (books RateControl cs)
    pub alignment : Kept s.alignment.ticks s.alignment.repeats (books TimeAlignment cs)
    -- the frames taken and those that wait are those found at the opening and those handed over, in order
    pub frames : taken cs ++ waiting e'.line ≡ waiting e.line ++ handed_over cs

  -- so it is after every run of an end with settings s
  abbrev pub RunsHold : Settings → On Radio L → Type 0
  RunsHold s e = (cs : List Call) (e' : On Radio L) → Run waiting takes e cs e' → Lawful s e cs e'
