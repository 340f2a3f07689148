-- The calls of a radio end, and its runs.
use Rattle.std.specs.Prelude.{◌≡◌, ℕ, Bool, true, false, List, [], ◌∷◌, is_some, Option, Result}
use Rattle.frames.specs.declared.refusal.Refusal.{Refusal}
use Rattle.frames.specs.declared.shift.Direction.{Direction}
use Rattle.lines.specs.Meaning.{Took, roomy}
use Rattle.sets.specs.Contents.{Contents}
use Rattle.reports.specs.declared.happening.Happening.{Happening}
use Rattle.reports.specs.Effects.{Effect, Did}
use Rattle.bearer.specs.Errors.{reported}
use Rattle.bearer.specs.Traffics.{data_sent, Sought}
use Rattle.radio_end.specs.declared.received.Received.{Received}
use Rattle.radio_end.specs.Radio.{Radio, On}
use Rattle.radio_end.specs.Steps.{on_bearing, started, rated, aligned, received, timed, links_ticked, rate_ticked, alignment_ticked}

abbrev pub Answer : Type 0
Answer = Result (Unit {0}) Refusal

-- a call, with its arguments, its answer and what it said
pub data Call : Type 0 where
  start : Contents → Answer → List Happening → Call
  rate : List Bool → Answer → List Happening → Call
  align : Direction → ℕ → Answer → List Happening → Call
  -- RFCI, FQC and payload
  send : ℕ → ℕ → List ℕ → Answer → List Happening → Call
  report : ℕ → Answer → List Happening → Call
  seek : List ℕ → Result ℕ Refusal → List Happening → Call
  receive : List ℕ → Result Received Refusal → List Happening → Call
  tick : List Happening → Call
  -- the buffer before and after
  take : List ℕ → List ℕ → Result (Option ℕ) Refusal → Call

-- a search changes nothing and says nothing
pub record Searches {L : Type 0} (sizes : List ℕ) (e : On Radio L) (a : Result ℕ Refusal) (s : List Happening) (e' : On Radio L) : Type 0 where
  pub found : Sought sizes e.state.bearing.force a
  pub same : e' ≡ e
  pub says : s ≡ []

module _ {L : Type 0} (waiting : L → List (List ℕ)) where
  -- the end, its line, the answer and the report are as the effect says
  abbrev pub Does : {A : Type 0} → Effect Radio A → On Radio L → A → (r r' : List Happening) → On Radio L → Type 0
  Does f e a r r' e' = Did waiting f e'.state a e.line e'.line r r'

  module _ (takes : L → ℕ → Bool) where
    -- rate, then alignment, with some end between
    pub record Twice (e : On Radio L) (s : List Happening) (e' : On Radio L) : Type 0 where
      pub between : On Radio L
      pub said : List Happening
      pub first : Does (rate_ticked (takes e.line) (timed e.state)) e tt [] said between
      pub second : Does (alignment_ticked (takes between.line) between.state) between tt said s e'

    -- an initialisation runs alone
    abbrev pub Ticks : (offers : Bool) → On Radio L → List Happening → On Radio L → Type 0
    Ticks true e s e' = Does (links_ticked (takes e.line) (timed e.state)) e tt [] s e'
    Ticks false e s e' = Twice e s e'

    -- taking changes the line alone
    pub record Takes (e : On Radio L) (o o' : List ℕ) (a : Result (Option ℕ) Refusal) (e' : On Radio L) : Type 0 where
      pub same : e'.state ≡ e.state
      pub took : Took waiting takes (roomy o) (waiting e.line) e.line e'.line o o' a

    -- what the contracts of the calls state
    abbrev pub Step : On Radio L → Call → On Radio L → Type 0
    Step e (start c a s) e' = Does (started (takes e.line) c e.state) e a [] s e'
    Step e (rate bars a s) e' = Does (rated (takes e.line) bars e.state) e a [] s e'
    Step e (align direction steps a s) e' = Does (aligned (takes e.line) direction steps e.state) e a [] s e'
    Step e (send rfci fqc payload a s) e' = Does (on_bearing e.state (data_sent (takes e.line) rfci fqc payload e.state.bearing)) e a [] s e'
    Step e (report cause a s) e' = Does (on_bearing e.state (reported (takes e.line) cause e.state.bearing)) e a [] s e'
    Step e (seek sizes a s) e' = Searches sizes e a s e'
    Step e (receive octets a s) e' = Does (received (takes e.line) octets e.state) e a [] s e'
    Step e (tick s) e' = Ticks (is_some e.state.links) e s e'
    Step e (take o o' a) e' = Takes e o o' a e'

    -- the calls of a run, the latest first
    pub data Run (e : On Radio L) : List Call → On Radio L → Type 0 where
      none : Run e [] e
      then : {cs : List Call} {c : Call} {e' e'' : On Radio L} → Run e cs e' → Step e' c e'' → Run e (c ∷ cs) e''
