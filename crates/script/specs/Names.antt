-- The words that name something.
use Rattle.std.specs.Prelude.{ℕ, cond, List, [], ◌∷◌, Ok, Err, codes, Result}
use Rattle.std.specs.Str.{bytes_eq}
use Rattle.script.specs.declared.unclear.Unclear.{Unclear}
use Rattle.script.specs.declared.unclear.Unclear.TheVariants.{Name}
use Rattle.script.specs.declared.names.End.TheVariants.{Radio, Core}
use Rattle.script.specs.declared.names.Verb.{Verb}
use Rattle.script.specs.declared.names.Verb.TheVariants.{Draft, Add, Close, Settings, Line, Carry, At}
use Rattle.script.specs.declared.names.Request.{Request}
use Rattle.script.specs.declared.names.Request.TheVariants.{Open, Start, Rate, Align, Data, Report, Search, Receive, Accept, Decline, Set, Tick, Take}

-- the value of the first name that a word is
abbrev pub named : {T : Type 0} → List (List ℕ × T) → List ℕ → Result T Unclear
named [] w = Err Name
named (n ∷ ns) w = cond (bytes_eq w n.0) (Ok n.1) (named ns w)

abbrev pub verbs : List (List ℕ × Verb)
verbs =
    (codes "draft", Draft)
    ∷ (codes "add", Add)
    ∷ (codes "close", Close)
    ∷ (codes "settings", Settings)
    ∷ (codes "line", Line)
    ∷ (codes "carry", Carry)
    ∷ (codes "radio", At Radio)
    ∷ (codes "core", At Core)
    ∷ []

abbrev pub verb_in : List ℕ → Result Verb Unclear
verb_in = named verbs

abbrev pub requests : List (List ℕ × Request)
requests =
    (codes "open", Open)
    ∷ (codes "start", Start)
    ∷ (codes "rate", Rate)
    ∷ (codes "align", Align)
    ∷ (codes "data", Data)
    ∷ (codes "report", Report)
    ∷ (codes "search", Search)
    ∷ (codes "receive", Receive)
    ∷ (codes "accept", Accept)
    ∷ (codes "decline", Decline)
    ∷ (codes "set", Set)
    ∷ (codes "tick", Tick)
    ∷ (codes "take", Take)
    ∷ []

abbrev pub request_in : List ℕ → Result Request Unclear
request_in = named requests

-- one of two names, and what each stands for
abbrev pub choice_in : {T : Type 0} → List ℕ → List ℕ × T → List ℕ × T → Result T Unclear
choice_in w first second = named (first ∷ second ∷ []) w
