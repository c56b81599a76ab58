-- Typedef names. A name becomes one where its declarator in a declaration with `typedef` ends, in a file, a block or the
-- first clause of a `for`, and stays one to the file's end.
use Rattle.std.specs.Prelude.{Bool, true, false, ◌||◌, List, [], ◌∷◌, ◌++◌, if◌then◌else◌}
use Rattle.std.specs.List.{list_any}
use Rattle.std.specs.Str.{bytes_eq}
use Rattle.cc_tree.specs.Trees.{Name, SpecTree, word, named, struct, enum, SpecTrees, no_specs, more_specs, DeclTree, declared, nameless, pointer, array, function, grouped, InitTree, init, DeclarationTree, declaration, StartTree, start_declaration, start_expr, no_start, StmtTree, compound, plain, empty, if_then, if_else, switch, while_loop, do_loop, for_loop, break, continue, return, BlockTree, block, ItemTree, declares, case_label, default_label, does, ItemTrees, no_items, more_items, ExternalTree, outer_declaration, definition}
use Rattle.cc_tree.specs.declared.operator.SpecWord.{SpecWord}
use Rattle.cc_tree.specs.declared.operator.SpecWord.TheVariants as the_spec_word

abbrev pub Names : Type 0
Names = List Name

abbrev pub is_type : Names → Name → Bool
is_type names x = list_any (bytes_eq x) names

abbrev pub is_typedef_word : SpecWord → Bool
is_typedef_word the_spec_word.Typedef = true
is_typedef_word _ = false

-- with this name too, once
abbrev pub added : Name → Names → Names
added x names = if is_type names x then names else names ++ x ∷ []

-- what is written as `typedef` itself, not inside of a struct
abbrev pub is_typedef : {N : Type 0} → SpecTree N → Bool
is_typedef (word n k) = is_typedef_word k
is_typedef (named n x) = false
is_typedef (struct n tag ms) = false
is_typedef (enum n tag cs trailing) = false

abbrev pub has_typedef : {N : Type 0} → SpecTrees N → Bool
has_typedef no_specs = false
has_typedef (more_specs s ss) = is_typedef s || has_typedef ss

abbrev pub with_declared : {N : Type 0} → DeclTree N → Names → Names
with_declared (declared n x) names = added x names
with_declared nameless names = names
with_declared (pointer n k d) names = with_declared d names
with_declared (array n d length) names = with_declared d names
with_declared (function n d ps) names = with_declared d names
with_declared (grouped n d) names = with_declared d names

-- after a declarator, in a declaration with `typedef` or without
abbrev pub after_declarator : {N : Type 0} → Bool → DeclTree N → Names → Names
after_declarator typedef d names = if typedef then with_declared d names else names

abbrev pub after_inits : {N : Type 0} → Bool → List (InitTree N) → Names → Names
after_inits typedef [] names = names
after_inits typedef (init d v ∷ is) names = after_inits typedef is (after_declarator typedef d names)

abbrev pub after_declaration : {N : Type 0} → DeclarationTree N → Names → Names
after_declaration (declaration n ss is) names = after_inits (has_typedef ss) is names

abbrev pub after_start : {N : Type 0} → StartTree N → Names → Names
after_start (start_declaration d) names = after_declaration d names
after_start (start_expr e) names = names
after_start no_start names = names

abbrev mutual
  pub after_stmt : {N : Type 0} → StmtTree N → Names → Names
  after_stmt (compound b) names = after_block b names
  after_stmt (plain n e) names = names
  after_stmt (empty n) names = names
  after_stmt (if_then n c s) names = after_stmt s names
  after_stmt (if_else n c s o) names = after_stmt o (after_stmt s names)
  after_stmt (switch n e b) names = after_block b names
  after_stmt (while_loop n c s) names = after_stmt s names
  after_stmt (do_loop n s c) names = after_stmt s names
  after_stmt (for_loop n start test each s) names = after_stmt s (after_start start names)
  after_stmt (break n) names = names
  after_stmt (continue n) names = names
  after_stmt (return n e) names = names

  pub after_block : {N : Type 0} → BlockTree N → Names → Names
  after_block (block n is) names = after_items is names

  pub after_item : {N : Type 0} → ItemTree N → Names → Names
  after_item (declares d) names = after_declaration d names
  after_item (case_label n e) names = names
  after_item (default_label n) names = names
  after_item (does s) names = after_stmt s names

  pub after_items : {N : Type 0} → ItemTrees N → Names → Names
  after_items no_items names = names
  after_items (more_items i is) names = after_items is (after_item i names)

-- a function's own name and its parameters become no typedef names
abbrev pub after_external : {N : Type 0} → ExternalTree N → Names → Names
after_external (outer_declaration d) names = after_declaration d names
after_external (definition n ss d b) names = after_block b names
