-- The justifications of a project.
use Rattle.std.specs.Prelude.{ℕ, List, map, Option, Some, None, ◌==◌, if◌then◌else◌}
use Rattle.cc_meaning.specs.declared.score.Justified.{Justified}
use Rattle.cc_project.specs.Project.{Project}
use Rattle.cc_project.specs.declared.project.RawJustified.{RawJustified}

abbrev pub justification : RawJustified → Justified
justification raw = record { line = raw.line; reason = raw.reason }

-- those of a project; in one of the first format no row can be justified
abbrev pub justifications : Project → Option (List Justified)
justifications project = if project.format == 2 then Some (map justification project.justified) else None
