use Rattle.std.proofs.Common.{map, ◌∙◌, ap}
use Rattle.cc_tree.specs.Views.{view_external}
use Rattle.cc_arena_fill.specs.Filling.{put_file}
use Rattle.cc_arena_fill.proofs.Holdings.{file_is_held}
use Rattle.cc_arena_fill.proofs.file.fill_file.Goals as goal

pub returns-clause-held : goal.returns-clause-held
returns-clause-held c = file_is_held _ _ _ (c.in_ok-fill_externals.ensures ∙ ap (λ xs. put_file (map view_external xs) c.args.arena.now) c.as_slice.ensures)
