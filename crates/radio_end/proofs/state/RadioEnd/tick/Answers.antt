-- The rate passes before the alignment.
use Rattle.std.proofs.Common.{◌≡◌, false, is_some, sym, subst, rules}
use Rattle.radio_end.specs.Runs.{Ticks}
use Rattle.radio_end.proofs.state.RadioEnd.tick.Goals as goal

pub returns-else-is_some : goal.returns-else-is_some
returns-else-is_some g c =
    let idle : is_some c.args.self.now.state.links ≡ false = search rules in
    subst (λ b. Ticks g.L.Line.waiting g.L.Line.takes b c.args.self.now c.tick_alignment.new.report c.tick_alignment.new.self) (sym idle)
    (record { between = c.tick_rate.new.self; said = c.tick_rate.new.report; first = search rules; second = c.tick_alignment.ensures })
