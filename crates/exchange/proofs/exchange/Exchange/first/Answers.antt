-- The law of an exchange's course holds of one that begins.
use Rattle.std.proofs.Common.{arith}
use Rattle.exchange.proofs.Courses.{courses_hold}
use Rattle.exchange.proofs.exchange.Exchange.first.Goals as goal

pub returns-clause-courses : goal.returns-clause-courses
returns-clause-courses g c =
    courses_hold _ _ _ _ _ _ _ _ g.met.Q.Inquiry.proper c.args.limits c.args.question c.value.result (omega (arith, c.value.ensures.is, c.value.ensures.most))
