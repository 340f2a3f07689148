-- What closing a draft does.
use Rattle.std.specs.Prelude.{cond, length, Some, Ok, Err, Option, Result, ◌==◌}
use Rattle.frames.specs.declared.refusal.Refusal.{Refusal}
use Rattle.frames.specs.declared.refusal.Refusal.TheVariants.{NoCombination}
use Rattle.sets.specs.declared.closed.Unclosed.{Unclosed}
use Rattle.sets.specs.Contents.{Contents}

-- 113 where the draft is empty, with its opening values
abbrev pub closed_by : Contents → Result Unit Unclosed
closed_by c = cond (length c.combinations == 0) (Err (record { opening = c.opening; refusal = NoCombination })) (Ok tt)

-- the same, told by the refusal alone
abbrev pub closing : Contents → Result Unit Refusal
closing c = cond (length c.combinations == 0) (Err NoCombination) (Ok tt)

-- the place after: the set that the draft was closed into, or what was there
abbrev pub placed_by : Contents → Option Contents → Option Contents
placed_by c was = cond (length c.combinations == 0) was (Some c)
