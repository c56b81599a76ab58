-- Sizes in cells, one for each scalar of an object (C17 6.2.5p20, p21).
use Rattle.std.specs.Prelude.{ℕ, ◌+◌, ◌-◌, ◌^◌, min, nat_eq, if◌then◌else◌, List, [], ◌∷◌}
use Rattle.cc_program.specs.declared.program.Program.{Program}
use Rattle.cc_program.specs.Programs.{number_of}
use Rattle.cc_types.specs.declared.shape.Shape.{Shape}
use Rattle.cc_types.specs.declared.shape.Shape.TheVariants as s
use Rattle.cc_types.specs.declared.structs.Member.{Member}
use Rattle.cc_types.specs.Interning.{shape_of}
use Rattle.cc_types.specs.Measures as measures
use Rattle.cc_types.specs.Shapes.{built, types_of}

-- how many cells an object of the type has; 2^32 - 1 stands for that many or more
abbrev pub cells_of : Program → Shape → ℕ
cells_of p a = number_of (measures.measure_of p.known.symbols.structs (built (types_of p.known.symbols.types) a)).cells

-- 2^32 - 1 stands for that many or more
abbrev pub both : ℕ → ℕ → ℕ
both m n = min (m + n) (2 ^ 32 - 1)

-- so many cells and those of these members, up to before number k
abbrev pub cells_before : Program → ℕ → List Member → ℕ → ℕ
cells_before p n [] k = n
cells_before p n (m ∷ ms) k = if nat_eq k 0 then n else cells_before p (both n (cells_of p (shape_of p.known.symbols.types m.kind))) ms (k - 1)

-- the cell of a struct at which its member number k begins (6.7.2.1p15)
abbrev pub member_offset : Program → Shape → ℕ → ℕ
member_offset p (s.Struct c id) k = cells_before p 0 (measures.entry_of p.known.symbols.structs id).members k
member_offset p a k = 0
