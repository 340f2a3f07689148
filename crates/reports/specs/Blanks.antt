-- What lies behind the things of a report.
use Rattle.reports.specs.declared.ending.Kind.TheVariants.{Initialisation}
use Rattle.reports.specs.declared.happening.Happening.{Happening}
use Rattle.reports.specs.declared.happening.Happening.TheVariants.{Started}

abbrev pub blank : Happening
blank = Started Initialisation
