-- The ledger of a run, from its calls alone: they come the latest first.
use Rattle.std.specs.Prelude.{ℕ, cond, List, [], ◌∷◌, ◌++◌, Some, None, Ok, Err, Option}
use Rattle.sets.specs.Contents.{Contents}
use Rattle.reports.specs.declared.ending.Kind.{Kind}
use Rattle.reports.specs.declared.ending.Kind.TheVariants.{Initialisation, RateControl, TimeAlignment}
use Rattle.reports.specs.declared.happening.Happening.{Happening}
use Rattle.reports.specs.Said.{handed_in, delivered_in}
use Rattle.exchange.specs.Books.{Mark, waited, named, done_in, Books, blank, entered}
use Rattle.bearer.specs.Ledgers.{granted, Borne, taken_out}
use Rattle.radio_end.specs.Runs.{Call, start, rate, align, send, report, seek, receive, tick, take}

-- what a call says
abbrev pub sayings : Call → List Happening
sayings (start c a s) = s
sayings (rate bars a s) = s
sayings (align direction steps a s) = s
sayings (send rfci fqc payload a s) = s
sayings (report cause a s) = s
sayings (seek sizes a s) = s
sayings (receive octets a s) = s
sayings (tick s) = s
sayings (take o o' a) = []

-- what the books of kind k take note of: an accepted request opens its kind, and a tick passes before what it names
abbrev pub marks : Kind → Call → List Mark
marks k (start c a s) = granted k Initialisation a ++ named k s
marks k (rate bars a s) = granted k RateControl a ++ named k s
marks k (align direction steps a s) = granted k TimeAlignment a ++ named k s
marks k (send rfci fqc payload a s) = named k s
marks k (report cause a s) = named k s
marks k (seek sizes a s) = named k s
marks k (receive octets a s) = named k s
marks k (tick s) = waited ∷ named k s
marks k (take o o' a) = []

abbrev pub books : Kind → List Call → Books
books k [] = blank
books k (c ∷ cs) = entered (marks k c) (books k cs)

-- the set of the last accepted start, and the set in force
pub record Sets : Type 0 where
  pub offered : Option Contents
  pub force : Option Contents

-- the set that was offered is in force once its initialisation is named as done
abbrev pub settled : List Happening → Sets → Sets
settled s z = record { offered = z.offered; force = cond (done_in Initialisation s) z.offered z.force }

-- an accepted start takes the former one away
abbrev pub offering : Contents → Sets
offering c = record { offered = Some c; force = None }

abbrev pub after : Call → Sets → Sets
after (start c (Ok u) s) z = settled s (offering c)
after (start c (Err e) s) z = settled s z
after (rate bars a s) z = settled s z
after (align direction steps a s) z = settled s z
after (send rfci fqc payload a s) z = settled s z
after (report cause a s) z = settled s z
after (seek sizes a s) z = settled s z
after (receive octets a s) z = settled s z
after (tick s) z = settled s z
after (take o o' a) z = z

abbrev pub sets : List Call → Sets
sets [] = record { offered = None; force = None }
sets (c ∷ cs) = after c (sets cs)

-- each call delivered only what fits the set then in force
abbrev pub Fair : List Call → Type 0
Fair [] = Unit {0}
Fair (c ∷ cs) = Fair cs × Borne (sets cs).force (delivered_in (sayings c))

-- the frame that a call took out
abbrev pub takes_out : Call → List (List ℕ)
takes_out (start c a s) = []
takes_out (rate bars a s) = []
takes_out (align direction steps a s) = []
takes_out (send rfci fqc payload a s) = []
takes_out (report cause a s) = []
takes_out (seek sizes a s) = []
takes_out (receive octets a s) = []
takes_out (tick s) = []
takes_out (take o o' a) = taken_out o' a

-- the frames taken, and the frames named as handed over, in order
abbrev pub taken : List Call → List (List ℕ)
taken [] = []
taken (c ∷ cs) = taken cs ++ takes_out c

abbrev pub handed_over : List Call → List (List ℕ)
handed_over [] = []
handed_over (c ∷ cs) = handed_over cs ++ handed_in (sayings c)
