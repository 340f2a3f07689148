use Rattle.set_in_force.proofs.Marking.{table_marked}
use Rattle.set_in_force.proofs.in_force.InForce.mark.Goals as goal

pub returns-in-Some : goal.returns-in-Some
returns-in-Some c = table_marked c.self.inside.table _ _ c.rows.result.now _ _ _ _ c.allow.ensures.rows c.allow.ensures.opening c.in-Some.ensures.is c.rows.ensures c.self.invariant.0 c.self.view_is
