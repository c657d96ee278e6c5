-- What an expansion has read and carries.
use Rattle.directive_machine.specs.declared.machine.Machine.{Machine}
use Rattle.directive_machine.specs.declared.readings.Readings.{Readings}
use Rattle.directive_machine.specs.Carried.{state_of}
use Rattle.directive_machine.specs.Sources.{Sources}
use Rattle.directive_machine.specs.Course.{Course, course}

abbrev pub sources_of : Readings → Sources
sources_of r = record { names = r.names.items; files = r.files.items; texts = r.written.items; words = r.words; size = r.size }

abbrev pub course_of : Machine → Readings → Course
course_of m r = course (state_of m) (sources_of r)
