use Rattle.std.proofs.Common.{rules, arith, codes, refl}
use Rattle.std.proofs.lemmas.Slice.Eq.{text_from_reads}
use Rattle.script.proofs.names.read_verb.Goals as goal

-- the bytes of a longer name, read one by one, make up the word
pub returns-in-settings : goal.returns-in-settings
returns-in-settings c = rw (text_from_reads c.args.word.now (codes "settings") (omega arith) (search rules)) refl
