-- What is said of a line that is not understood.
use Rattle.std.specs.Prelude.{ℕ, List, codes}
use Rattle.script.specs.declared.unclear.Unclear.{Unclear}
use Rattle.script.specs.declared.unclear.Unclear.TheVariants.{Name, Words, Value}

abbrev pub reason_of : Unclear → List ℕ
reason_of Name = codes "an unknown word"
reason_of Words = codes "too few words, or too many"
reason_of Value = codes "a value that does not fit its place"
