-- The first link is handed over, and what it overtakes is named before it.
use Rattle.std.proofs.Common.{◌≡◌, [], Ok, ap, subst, rules}
use Rattle.reports.specs.Effects.{Did}
use Rattle.radio_end.specs.Radio.{Radio}
use Rattle.radio_end.specs.Steps.{started}
use Rattle.radio_end.proofs.Starting.{start_declined, start_did}
use Rattle.radio_end.proofs.state.RadioEnd.start.Goals as goal

pub returns-then-not-is_taken : goal.returns-then-not-is_taken
returns-then-not-is_taken g c =
    start_declined g.L.Line.waiting g.L.Line.takes c.args.set c.args.self.now.state c.args.self.now.line c.first-first.result c.is_taken.result c.clear.new.self
    (search rules) (search rules) (search rules) (search rules) (search rules) c.clear.ensures

pub returns : goal.returns
returns g c =
    let r = c.args.self.now.state in
    let s : Radio = record { bearing = c.suspend.new.self; links = c.start_in.new.slot; rate = record { running = c.overtake.new.slot; next = c.self.inside.rate.next }; alignment = record { running = c.overtake-2.new.slot; next = c.self.inside.alignment.next } } in
    let line : c.self.inside.line ≡ c.args.self.now.line = ap (λ e. e.line) c.self.view_is in
    subst (λ l. Did g.L.Line.waiting (started (g.L.Line.takes l) c.args.set r) s (Ok tt) l c.start_in.new.line [] c.start_in.new.report) line
    (start_did g.L.Line.waiting g.L.Line.takes c.args.set r c.self.inside.line c.first-first.result c.is_taken.result s c.start_in.new.slot c.start_in.new.line c.clear.new.self c.overtake.new.report c.overtake-2.new.report c.start_in.new.report
    (search rules) (search rules) (search rules) c.is_taken.ensures (search rules) c.clear.ensures (search rules) (search rules) c.start_in.ensures (search rules))
