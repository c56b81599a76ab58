use Rattle.std.proofs.Common.{◌≡◌, ◌+◌, ◌-◌, ℕ, List, get_or, inl, inr, arith, subst, zero, suc}
use Rattle.std.specs.Prelude.{IsUtf8}
use Rattle.std.specs.Str.{IsCharBoundary}
use Rattle.std.proofs.lemmas.Str.{IsCharBoundary-after_ascii, IsCharBoundary-start}
use Rattle.cc_io.specs.Folder.{EndsFolder}
use Rattle.cc_io.proofs.host.folder_of.Goals as goal

-- a text can be cut behind its last slash
boundary : (path : List ℕ) (n : ℕ) → IsUtf8 path → EndsFolder path n → IsCharBoundary path n
boundary path zero utf8 ends = IsCharBoundary-start path utf8
boundary path (suc m) utf8 ends =
    elim ends.after_slash [
      | inl none ↦ absurd (omega (arith, none))
      | inr slash ↦
          let before : suc m - 1 ≡ m = omega arith in
          let is : get_or path m 0 ≡ 47 = rw before at slash in
          let at : m + 1 ≡ suc m = omega arith in
          subst (IsCharBoundary path) at (IsCharBoundary-after_ascii path m utf8 (omega (arith, ends.within)) (omega (arith, is)))
    ]

pub range-requires-clause-end_boundary : goal.range-requires-clause-end_boundary
range-requires-clause-end_boundary c = boundary c.args.path.now c.folder_end.result c.utf8.path (rw c.as_bytes.ensures.value at c.folder_end.ensures)
