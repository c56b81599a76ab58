-- Declarations.
use Rattle.std.specs.Prelude.{Bool, List, [], ◌∷◌}
use Rattle.cc_tree.specs.Trees.{InitTree, DeclarationTree, declaration}
use Rattle.cc_tree_notes.specs.declared.note.Counted.{Counted}
use Rattle.cc_declare.specs.declared.checker.Checker.{Checker}
use Rattle.cc_declare.specs.declared.specifiers.Specified.{Specified}
use Rattle.cc_declare_cycle.specs.Declaring.{specifiers}
use Rattle.cc_check.specs.declared.storage.Judged.{Judged}
use Rattle.cc_check.specs.declared.storage.Region.{Region}
use Rattle.cc_check.specs.declared.storage.Region.TheVariants.{File, Block, Clause}
use Rattle.cc_check.specs.Storing.{setting, both_judged, judged_specifiers, storage_checked, inline_checked}
use Rattle.cc_check.specs.Outers.{outer_init}
use Rattle.cc_check.specs.Inners.{inner_init}

abbrev pub init_walked : Region → Specified → InitTree Counted → Checker → Checker × Judged
init_walked File said i c = outer_init said i c
init_walked Block said i c = inner_init Block said i c
init_walked Clause said i c = inner_init Clause said i c

abbrev pub joined : Judged → Checker × Judged → Checker × Judged
joined j p = (p.0, both_judged j p.1)

-- all declarators, where this is judged before
abbrev pub inits_walked : Region → Specified → List (InitTree Counted) → Judged → Checker → Checker × Judged
inits_walked region said [] j c = (c, j)
inits_walked region said (i ∷ is) j c =
    let p = joined j (init_walked region said i c) in inits_walked region said is p.1 p.0

abbrev pub ended : Counted → Specified → Checker × Judged → Checker × Bool
ended n said p = (inline_checked n said p.1 p.0, p.1.is_typed)

abbrev pub declared_all : Region → Counted → List (InitTree Counted) → Checker × Specified → Checker × Bool
declared_all region n is p =
    ended n p.1 (inits_walked region p.1 is (judged_specifiers p.1 is) (storage_checked region p.1.storage is p.0))

-- a declaration, and whether all in it has types
abbrev pub declaration_walked : Region → DeclarationTree Counted → Checker → Checker × Bool
declaration_walked region (declaration n ss is) c = declared_all region n is (specifiers (setting region) n ss c)
