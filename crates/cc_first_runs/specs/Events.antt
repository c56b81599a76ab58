-- What a run tells: the types of `src/event.rt`.
pub use Rattle.cc_first_runs.specs.declared.event.Site.{Site}
pub use Rattle.cc_first_runs.specs.declared.event.Event.{Event}
pub use Rattle.cc_first_runs.specs.declared.event.Event.TheVariants.{Enter, Leave}
pub use Rattle.cc_first_runs.specs.declared.event.End.{End}
pub use Rattle.cc_first_runs.specs.declared.event.End.TheVariants.{Done, TurnsOut, NoBody}
