-- The marks of a rate request: 63 characters, from RFCI 0 on.
use Rattle.std.specs.Prelude.{ℕ, Bool, cond, ◌&&◌, ◌||◌, List, map, length, Ok, Err, Result, ◌==◌}
use Rattle.std.specs.List.{list_all}
use Rattle.script.specs.declared.unclear.Unclear.{Unclear}
use Rattle.script.specs.declared.unclear.Unclear.TheVariants.{Value}

-- '0' or '1'
abbrev pub is_mark : ℕ → Bool
is_mark c = c == 48 || c == 49

-- '1' bars
abbrev pub bars : ℕ → Bool
bars c = c == 49

abbrev pub marks_in : List ℕ → Result (List Bool) Unclear
marks_in word = cond (length word == 63 && list_all is_mark word) (Ok (map bars word)) (Err Value)
