-- What one more link does to those held.
use Rattle.std.specs.Prelude.{ℕ, ◌+◌, ◌%◌, Bool, cond, not, ◌&&◌, ◌||◌, List, [], Some, None, Ok, Err, Option, Result, ◌==◌, nat_lt}
use Rattle.frames.specs.declared.refusal.Refusal.{Refusal}
use Rattle.frames.specs.declared.refusal.Refusal.TheVariants.{TooShort, UnexpectedValue, ModeVersion}
use Rattle.sets.specs.Rows.{Row}
use Rattle.frames.specs.DataTypes.{data_number}
use Rattle.sets.specs.Openings.{Values, opening_in}
use Rattle.link_reading.specs.declared.fields.Fields.{Fields}
use Rattle.link_reading.specs.Links.{Links}
use Rattle.link_reading.specs.Layout.{fields_of, rows_of}
use Rattle.link_reading.specs.Adding.{add_all}

abbrev pub same : Bool → Bool → Bool
same a b = cond a b (not b)

-- a link says what link 0 said: N, TI, versions and data PDU type
abbrev pub agrees : Links → Fields → Bool
agrees h f =
    (f.subflows == h.contents.opening.subflows && same f.timed h.contents.opening.timed)
    && (f.versions == h.versions && f.kind == data_number h.contents.opening.data_type)

-- link 0 begins a new set; another is the next one, unless the last is held, and agrees with link 0. None announces a fifth
unfoldable pub follows : Links → ℕ → Fields → Bool
follows h k f = not (k == 3 && f.chain) && (k == 0 || ((k == h.links && not h.complete) && agrees h f))

-- the rows that those of link k are added to
abbrev pub base : Links → ℕ → List Row
base h k = cond (k == 0) [] h.contents.combinations

-- what is held after link k with these fields and opening values, if its rows may be added
abbrev pub held_with : ℕ → Fields → Values → Option (List Row) → Result Links Refusal
held_with k f o None = Err UnexpectedValue
held_with k f o (Some rs) =
    Ok (record { contents = record { opening = o; combinations = rs }; versions = f.versions; links = k + 1; complete = not f.chain })

-- what the payload alone decides, in this order: 8 short of its own fields, 20 more than 32 octets over them, 49 version 1 not listed
abbrev pub examined_by : Option Fields → Result Fields Refusal
examined_by None = Err TooShort
examined_by (Some f) = cond (nat_lt 32 f.over) (Err UnexpectedValue) (cond (f.versions % 2 == 0) (Err ModeVersion) (Ok f))

unfoldable pub examined : List ℕ → Result Fields Refusal
examined os = examined_by (fields_of os)

-- a link that may come, its rows added
abbrev pub ruled_with : Links → ℕ → List ℕ → Fields → Result Values Refusal → Result Links Refusal
ruled_with h k os f (Err e) = Err UnexpectedValue
ruled_with h k os f (Ok o) = cond (follows h k f) (held_with k f o (add_all f.subflows f.timed (base h k) (rows_of f os))) (Err UnexpectedValue)

-- then 20 against a rule: first of all that no set is opened with such values
unfoldable pub ruled : Links → ℕ → List ℕ → Fields → Result Links Refusal
ruled h k os f = ruled_with h k os f (opening_in f.subflows f.timed f.kind)

abbrev pub judged_by : Links → ℕ → List ℕ → Result Fields Refusal → Result Links Refusal
judged_by h k os (Ok f) = ruled h k os f
judged_by h k os (Err e) = Err e

-- the links held after link k with this payload, or why it is refused
abbrev pub judged : Links → ℕ → List ℕ → Result Links Refusal
judged h k os = judged_by h k os (examined os)

abbrev pub answer : {A : Type 0} → Result A Refusal → Result Unit Refusal
answer (Ok _) = Ok tt
answer (Err e) = Err e

-- what is held after: a refusal changes nothing
abbrev pub after : {A : Type 0} → A → Result A Refusal → A
after x (Ok y) = y
after x (Err e) = x
