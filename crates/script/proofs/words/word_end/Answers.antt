use Rattle.std.proofs.Common.{◌≡◌, arith}
use Rattle.std.specs.List.{position_or_len}
use Rattle.std.proofs.lemmas.List.Sums.{prefix_len-le-length}
use Rattle.script.specs.Words.{is_blank, is_letter}
use Rattle.script.proofs.Splitting.{end_of}
use Rattle.script.proofs.words.word_end.Goals as goal

pub returns : goal.returns
returns c =
    let end = end_of c.args.text.now in
    let within = prefix_len-le-length is_letter c.args.text.now in
    let is : c.unwrap_or.result ≡ position_or_len is_blank c.args.text.now = cc in
    record { end = is; within = omega arith }
