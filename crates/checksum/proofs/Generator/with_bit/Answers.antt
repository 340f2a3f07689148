use Rattle.std.proofs.Common.{◌≡◌, ◌*◌, ◌%◌, ◌^◌, ◌<◌, ◌≤◌, sym, arith}
use lib.Bits.{bit_xor}
use Rattle.checksum.proofs.Reduced.{keeps, takes, reduced_below, doubled, raised, next-wide}
use Rattle.checksum.specs.Division.{reduced}
use Rattle.checksum.proofs.Generator.with_bit.Goals as goal

-- the code's numbers, with no remainders by 2 ^ 16
pub returns-then-next-self : goal.returns-then-next-self
returns-then-next-self c =
    let w = c.args.self.width in
    let small : w ≤ 10 = omega arith in
    let d = doubled w small c.args.sum c.requires.sum in
    let r = raised w small c.args.bit c.requires.bit in
    let one : 1 * 2 ^ w % 65536 ≡ 1 * 2 ^ w = raised w small 1 (omega arith) in
    let x = bit_xor (c.args.sum * 2) (c.args.bit * 2 ^ w) in
    let t : x < 2 ^ w = omega (arith, simp (d, r, one) at c.if-next-self.true) in
    simp (d, r) (record { is = sym (keeps w c.args.self.bits x t); small = t })

pub returns-else-next-self : goal.returns-else-next-self
returns-else-next-self c =
    let w = c.args.self.width in
    let g = c.args.self.bits in
    let small : w ≤ 10 = omega arith in
    let d = doubled w small c.args.sum c.requires.sum in
    let r = raised w small c.args.bit c.requires.bit in
    let one : 1 * 2 ^ w % 65536 ≡ 1 * 2 ^ w = raised w small 1 (omega arith) in
    let x = bit_xor (c.args.sum * 2) (c.args.bit * 2 ^ w) in
    let t : 2 ^ w ≤ x = omega (arith, simp (d, r, one) at c.if-next-self.false) in
    let e : reduced w g x ≡ bit_xor x g = takes w g x t in
    let b : reduced w g x < 2 ^ w = reduced_below w g x c.args.self.leading.0 c.args.self.leading.1 (next-wide w small c.args.sum c.args.bit c.requires.sum c.requires.bit) in
    simp (d, r) (record { is = sym e; small = rw e at b })
