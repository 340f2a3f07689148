use Rattle.std.proofs.Common.{rules, arith, codes, refl}
use Rattle.std.proofs.lemmas.Slice.Eq.{text_from_reads}
use Rattle.script.proofs.names.read_request.Goals as goal

-- the bytes of a longer name, read one by one, make up the word
pub returns-in-report : goal.returns-in-report
returns-in-report c = rw (text_from_reads c.args.word.now (codes "report") (omega arith) (search rules)) refl

pub returns-in-search : goal.returns-in-search
returns-in-search c = rw (text_from_reads c.args.word.now (codes "search") (omega arith) (search rules)) refl

pub returns-in-receive : goal.returns-in-receive
returns-in-receive c = rw (text_from_reads c.args.word.now (codes "receive") (omega arith) (search rules)) refl

pub returns-in-accept : goal.returns-in-accept
returns-in-accept c = rw (text_from_reads c.args.word.now (codes "accept") (omega arith) (search rules)) refl

pub returns-in-decline : goal.returns-in-decline
returns-in-decline c = rw (text_from_reads c.args.word.now (codes "decline") (omega arith) (search rules)) refl
