use Rattle.std.proofs.Common.{◌≡◌, ◌≢◌, ◌∙◌, sym, true, false, IfOk, Result, Ok, Err, String, Global, string_bytes, ℕ, List, ◌++◌, length, take, ap, inr}
use Rattle.std.proofs.Math.Seq.{take-length}
use Rattle.std.specs.declared.alloc.AllocError.{AllocError}
use Rattle.std.proofs.lemmas.Slice.Eq.{slice_eq-Decides}
use Rattle.std.proofs.lemmas.Bool.Decides.{Decides-eqb}
use Rattle.cc_io.specs.Folder.{IsBeside}
use Rattle.cc_io.proofs.host.path_of.Goals as goal

in_folder : (project folder name : List ℕ) (r : Result (String Global) AllocError) → name ≢ project → IfOk r (λ s. string_bytes s ≡ folder ++ take (length name) name)
    → IfOk r (λ path. IsBeside project folder name (string_bytes path))
in_folder project folder name (Ok s) ne is = inr (ne, is ∙ ap (λ l. folder ++ l) (take-length name))
in_folder project folder name (Err e) ne is = tt

pub returns-else-eq : goal.returns-else-eq
returns-else-eq c =
    let decides = slice_eq-Decides Decides-eqb c.args.name.now c.args.project.now c.eq.result c.eq.ensures in
    let ne : c.args.name.now ≢ c.args.project.now = λ same. let is : true ≡ false = sym (decides.1 same) ∙ c.if-eq.false in cc in
    in_folder c.args.project.now c.args.folder.now c.args.name.now c.format.result ne c.format.ensures.ok
