-- What adding a combination to a draft does.
use Rattle.std.specs.Prelude.{ℕ, Bool, cond, ◌&&◌, List, [], ◌∷◌, ◌++◌, length, Ok, Err, Result, ◌==◌, nat_le, nat_lt}
use Rattle.frames.specs.declared.refusal.Refusal.{Refusal}
use Rattle.frames.specs.declared.refusal.Refusal.TheVariants.{RfciTaken, Dimensions, TooManyCombinations}
use Rattle.sets.specs.Rows.{Row, bits, fresh}
use Rattle.sets.specs.Contents.{Contents}

-- n sizes, an IPTI of 0 to 15 (0 without TI), and at most 4,000 bits
abbrev pub sized : ℕ → Bool → ℕ → List ℕ → Bool
sized n ti ipti sizes = length sizes == n && (nat_le ipti (cond ti 15 0) && nat_le (bits sizes) 4000)

-- whether rows take one more, in this order: 111 the count of sizes, the IPTI or the bits; 110 the RFCI over 62 or taken; 112 a thirty-third
unfoldable pub admitted : ℕ → Bool → List Row → Row → Result Unit Refusal
admitted n ti rs r =
    cond (sized n ti r.ipti r.sizes)
    (cond (nat_le r.rfci 62 && fresh r.rfci rs) (cond (nat_lt (length rs) 32) (Ok tt) (Err TooManyCombinations)) (Err RfciTaken))
    (Err Dimensions)

-- the same with the opening values and rows of a draft
abbrev pub admitted_to : Contents → Row → Result Unit Refusal
admitted_to c r = admitted c.opening.subflows c.opening.timed c.combinations r

-- the rows after: one more behind the others, or as they were
abbrev pub grown : Result Unit Refusal → List Row → Row → List Row
grown (Ok _) rs r = rs ++ r ∷ []
grown (Err _) rs r = rs

-- the draft after
abbrev pub added : Result Unit Refusal → Contents → Row → Contents
added answer c r = record { opening = c.opening; combinations = grown answer c.combinations r }
