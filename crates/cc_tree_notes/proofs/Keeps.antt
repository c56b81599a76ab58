-- A numbered tree without its numbers is the tree.
use Rattle.std.proofs.Common.{◌≡◌, ◌∙◌, ap, ℕ, ◌+◌, refl, List, [], ◌∷◌, Option, Some, None}
use Rattle.cc_base.specs.declared.place.Spot.{Spot}
use Rattle.cc_tree.specs.Trees.{ExprTree, name, integer, character, string, paren, unary, binary, assign, step, choice, comma, call, member, arrow, index, cast, size_expr, size_type, ExprTrees, no_exprs, more_exprs, ExprOption, no_expr, an_expr, TypeTree, type_name, TypeTrees, no_types, more_types, SpecTree, word, named, struct, enum, SpecTrees, no_specs, more_specs, MemberTree, members, MemberTrees, no_members, more_members, ConstantTree, constant, ConstantTrees, no_constants, more_constants, DeclTree, declared, nameless, pointer, array, function, grouped, DeclTrees, no_declarators, more_declarators}
use Rattle.cc_tree.specs.Trees.{ValueTree, single, braces, ValueTrees, no_values, more_values, InitTree, init, DeclarationTree, declaration, StartTree, start_declaration, start_expr, no_start, StmtTree, compound, plain, empty, if_then, if_else, switch, while_loop, do_loop, for_loop, break, continue, return, BlockTree, block, ItemTree, declares, case_label, default_label, does, ItemTrees, no_items, more_items, ExternalTree, outer_declaration, definition}
use Rattle.cc_tree.specs.Views.{gathered, gathered_types, gathered_specs, gathered_members, gathered_constants, gathered_declarators, gathered_values, gathered_items}
use Rattle.cc_tree.specs.Renoted.{renoted_expr, renoted_option, renoted_type, renoted_spec, renoted_member, renoted_constant, renoted_declarator, renoted_value, renoted_given, renoted_init, renoted_declaration, renoted_start, renoted_clause, renoted_stmt, renoted_block, renoted_item, renoted_external, renoted_exprs, renoted_types, renoted_specs, renoted_members, renoted_constants, renoted_declarators, renoted_values, renoted_items, renoted_inits, renoted_file}
use Rattle.cc_tree_notes.specs.declared.note.Counted.{Counted}
use Rattle.cc_tree_notes.specs.Numbering.{spot_of, numbered_expr, numbered_option, numbered_type, numbered_spec, numbered_member, numbered_constant, numbered_declarator, numbered_value, numbered_given, numbered_init, numbered_declaration, numbered_start, numbered_clause, numbered_stmt, numbered_block, numbered_item, numbered_external, numbered_exprs, numbered_types, numbered_specs, numbered_members, numbered_constants, numbered_declarators, numbered_values, numbered_items, numbered_inits, numbered_file}

mutual
  pub keeps_expr : (t : ExprTree Spot) (k : ℕ) → renoted_expr spot_of (numbered_expr t k).0 ≡ t
  keeps_expr (name s x1) k = refl
  keeps_expr (integer s x1 x2) k = refl
  keeps_expr (character s x1) k = refl
  keeps_expr (string s x1) k = refl
  keeps_expr (paren s a) k = rw (keeps_expr a (k + 1))
  keeps_expr (unary s x1 a) k = rw (keeps_expr a (k + 1))
  keeps_expr (binary s x1 a b) k = rw (keeps_expr a (k + 1), keeps_expr b (numbered_expr a (k + 1)).1)
  keeps_expr (assign s x1 a b) k = rw (keeps_expr a (k + 1), keeps_expr b (numbered_expr a (k + 1)).1)
  keeps_expr (step s x1 x2 a) k = rw (keeps_expr a (k + 1))
  keeps_expr (choice s a b c) k = rw (keeps_expr a (k + 1), keeps_expr b (numbered_expr a (k + 1)).1, keeps_expr c (numbered_expr b (numbered_expr a (k + 1)).1).1)
  keeps_expr (comma s a b) k = rw (keeps_expr a (k + 1), keeps_expr b (numbered_expr a (k + 1)).1)
  keeps_expr (call s a b) k = rw (keeps_expr a (k + 1), keeps_exprs b (numbered_expr a (k + 1)).1)
  keeps_expr (member s a x1) k = rw (keeps_expr a (k + 1))
  keeps_expr (arrow s a x1) k = rw (keeps_expr a (k + 1))
  keeps_expr (index s a b) k = rw (keeps_expr a (k + 1), keeps_expr b (numbered_expr a (k + 1)).1)
  keeps_expr (cast s a b) k = rw (keeps_type a (k + 1), keeps_expr b (numbered_type a (k + 1)).1)
  keeps_expr (size_expr s a) k = rw (keeps_expr a (k + 1))
  keeps_expr (size_type s a) k = rw (keeps_type a (k + 1))

  pub keeps_exprs : (t : ExprTrees Spot) (k : ℕ) → gathered (renoted_exprs spot_of (gathered (numbered_exprs t k).0)) ≡ t
  keeps_exprs no_exprs k = refl
  keeps_exprs (more_exprs x xs) k = rw (keeps_expr x k, keeps_exprs xs (numbered_expr x k).1)

  pub keeps_option : (t : ExprOption Spot) (k : ℕ) → renoted_option spot_of (numbered_option t k).0 ≡ t
  keeps_option no_expr k = refl
  keeps_option (an_expr a) k = rw (keeps_expr a k)

  pub keeps_type : (t : TypeTree Spot) (k : ℕ) → renoted_type spot_of (numbered_type t k).0 ≡ t
  keeps_type (type_name s a b) k = rw (keeps_specs a (k + 1), keeps_declarator b (numbered_specs a (k + 1)).1)

  pub keeps_types : (t : TypeTrees Spot) (k : ℕ) → gathered_types (renoted_types spot_of (gathered_types (numbered_types t k).0)) ≡ t
  keeps_types no_types k = refl
  keeps_types (more_types x xs) k = rw (keeps_type x k, keeps_types xs (numbered_type x k).1)

  pub keeps_spec : (t : SpecTree Spot) (k : ℕ) → renoted_spec spot_of (numbered_spec t k).0 ≡ t
  keeps_spec (word s x1) k = refl
  keeps_spec (named s x1) k = refl
  keeps_spec (struct s x1 a) k = rw (keeps_members a (k + 1))
  keeps_spec (enum s x1 a x2) k = rw (keeps_constants a (k + 1))

  pub keeps_specs : (t : SpecTrees Spot) (k : ℕ) → gathered_specs (renoted_specs spot_of (gathered_specs (numbered_specs t k).0)) ≡ t
  keeps_specs no_specs k = refl
  keeps_specs (more_specs x xs) k = rw (keeps_spec x k, keeps_specs xs (numbered_spec x k).1)

  pub keeps_member : (t : MemberTree Spot) (k : ℕ) → renoted_member spot_of (numbered_member t k).0 ≡ t
  keeps_member (members s a b) k = rw (keeps_specs a (k + 1), keeps_declarators b (numbered_specs a (k + 1)).1)

  pub keeps_members : (t : MemberTrees Spot) (k : ℕ) → gathered_members (renoted_members spot_of (gathered_members (numbered_members t k).0)) ≡ t
  keeps_members no_members k = refl
  keeps_members (more_members x xs) k = rw (keeps_member x k, keeps_members xs (numbered_member x k).1)

  pub keeps_constant : (t : ConstantTree Spot) (k : ℕ) → renoted_constant spot_of (numbered_constant t k).0 ≡ t
  keeps_constant (constant s x1 a) k = rw (keeps_option a (k + 1))

  pub keeps_constants : (t : ConstantTrees Spot) (k : ℕ) → gathered_constants (renoted_constants spot_of (gathered_constants (numbered_constants t k).0)) ≡ t
  keeps_constants no_constants k = refl
  keeps_constants (more_constants x xs) k = rw (keeps_constant x k, keeps_constants xs (numbered_constant x k).1)

  pub keeps_declarator : (t : DeclTree Spot) (k : ℕ) → renoted_declarator spot_of (numbered_declarator t k).0 ≡ t
  keeps_declarator (declared s x1) k = refl
  keeps_declarator nameless k = refl
  keeps_declarator (pointer s x1 a) k = rw (keeps_declarator a (k + 1))
  keeps_declarator (array s a b) k = rw (keeps_declarator a (k + 1), keeps_option b (numbered_declarator a (k + 1)).1)
  keeps_declarator (function s a b) k = rw (keeps_declarator a (k + 1), keeps_types b (numbered_declarator a (k + 1)).1)
  keeps_declarator (grouped s a) k = rw (keeps_declarator a (k + 1))

  pub keeps_declarators : (t : DeclTrees Spot) (k : ℕ) → gathered_declarators (renoted_declarators spot_of (gathered_declarators (numbered_declarators t k).0)) ≡ t
  keeps_declarators no_declarators k = refl
  keeps_declarators (more_declarators x xs) k = rw (keeps_declarator x k, keeps_declarators xs (numbered_declarator x k).1)

mutual
  pub keeps_value : (t : ValueTree Spot) (k : ℕ) → renoted_value spot_of (numbered_value t k).0 ≡ t
  keeps_value (single a) k = rw (keeps_expr a k)
  keeps_value (braces s a x1) k = rw (keeps_values a (k + 1))

  pub keeps_values : (t : ValueTrees Spot) (k : ℕ) → gathered_values (renoted_values spot_of (gathered_values (numbered_values t k).0)) ≡ t
  keeps_values no_values k = refl
  keeps_values (more_values x xs) k = rw (keeps_value x k, keeps_values xs (numbered_value x k).1)

pub keeps_given : (t : Option (ValueTree Spot)) (k : ℕ) → renoted_given spot_of (numbered_given t k).0 ≡ t
keeps_given None k = refl
keeps_given (Some a) k = rw (keeps_value a k)

pub keeps_init : (t : InitTree Spot) (k : ℕ) → renoted_init spot_of (numbered_init t k).0 ≡ t
keeps_init (init a b) k = rw (keeps_declarator a k, keeps_given b (numbered_declarator a k).1)

pub keeps_inits : (t : List (InitTree Spot)) (k : ℕ) → renoted_inits spot_of (numbered_inits t k).0 ≡ t
keeps_inits [] k = refl
keeps_inits (x ∷ xs) k = rw (keeps_init x k, keeps_inits xs (numbered_init x k).1)

pub keeps_declaration : (t : DeclarationTree Spot) (k : ℕ) → renoted_declaration spot_of (numbered_declaration t k).0 ≡ t
keeps_declaration (declaration s a b) k = rw (keeps_specs a (k + 1), keeps_inits b (numbered_specs a (k + 1)).1)

pub keeps_start : (t : StartTree Spot) (k : ℕ) → renoted_start spot_of (numbered_start t k).0 ≡ t
keeps_start (start_declaration a) k = rw (keeps_declaration a k)
keeps_start (start_expr a) k = rw (keeps_expr a k)
keeps_start no_start k = refl

pub keeps_clause : (t : Option (ExprTree Spot)) (k : ℕ) → renoted_clause spot_of (numbered_clause t k).0 ≡ t
keeps_clause None k = refl
keeps_clause (Some a) k = rw (keeps_expr a k)

mutual
  pub keeps_stmt : (t : StmtTree Spot) (k : ℕ) → renoted_stmt spot_of (numbered_stmt t k).0 ≡ t
  keeps_stmt (compound a) k = rw (keeps_block a k)
  keeps_stmt (plain s a) k = rw (keeps_expr a (k + 1))
  keeps_stmt (empty s) k = refl
  keeps_stmt (if_then s a b) k = rw (keeps_expr a (k + 1), keeps_stmt b (numbered_expr a (k + 1)).1)
  keeps_stmt (if_else s a b c) k = rw (keeps_expr a (k + 1), keeps_stmt b (numbered_expr a (k + 1)).1, keeps_stmt c (numbered_stmt b (numbered_expr a (k + 1)).1).1)
  keeps_stmt (switch s a b) k = rw (keeps_expr a (k + 1), keeps_block b (numbered_expr a (k + 1)).1)
  keeps_stmt (while_loop s a b) k = rw (keeps_expr a (k + 1), keeps_stmt b (numbered_expr a (k + 1)).1)
  keeps_stmt (do_loop s a b) k = rw (keeps_stmt a (k + 1), keeps_expr b (numbered_stmt a (k + 1)).1)
  keeps_stmt (for_loop s a b c d) k = rw (keeps_start a (k + 1), keeps_clause b (numbered_start a (k + 1)).1, keeps_clause c (numbered_clause b (numbered_start a (k + 1)).1).1, keeps_stmt d (numbered_clause c (numbered_clause b (numbered_start a (k + 1)).1).1).1)
  keeps_stmt (break s) k = refl
  keeps_stmt (continue s) k = refl
  keeps_stmt (return s a) k = rw (keeps_clause a (k + 1))

  pub keeps_block : (t : BlockTree Spot) (k : ℕ) → renoted_block spot_of (numbered_block t k).0 ≡ t
  keeps_block (block s a) k = rw (keeps_items a (k + 1))

  pub keeps_item : (t : ItemTree Spot) (k : ℕ) → renoted_item spot_of (numbered_item t k).0 ≡ t
  keeps_item (declares a) k = rw (keeps_declaration a k)
  keeps_item (case_label s a) k = rw (keeps_expr a (k + 1))
  keeps_item (default_label s) k = refl
  keeps_item (does a) k = rw (keeps_stmt a k)

  pub keeps_items : (t : ItemTrees Spot) (k : ℕ) → gathered_items (renoted_items spot_of (gathered_items (numbered_items t k).0)) ≡ t
  keeps_items no_items k = refl
  keeps_items (more_items x xs) k = rw (keeps_item x k, keeps_items xs (numbered_item x k).1)

pub keeps_external : (t : ExternalTree Spot) (k : ℕ) → renoted_external spot_of (numbered_external t k).0 ≡ t
keeps_external (outer_declaration a) k = rw (keeps_declaration a k)
keeps_external (definition s a b c) k = rw (keeps_specs a (k + 1), keeps_declarator b (numbered_specs a (k + 1)).1, keeps_block c (numbered_declarator b (numbered_specs a (k + 1)).1).1)

pub keeps_file : (t : List (ExternalTree Spot)) (k : ℕ) → renoted_file spot_of (numbered_file t k).0 ≡ t
keeps_file [] k = refl
keeps_file (x ∷ xs) k = rw (keeps_external x k, keeps_file xs (numbered_external x k).1)

-- what numbering gives, without its numbers
pub kept_file : (t : List (ExternalTree Spot)) (k k' : ℕ) (r : List (ExternalTree Counted)) → (r, k') ≡ numbered_file t k → renoted_file spot_of r ≡ t
kept_file t k k' r h = ap (λ (p : List (ExternalTree Counted) × ℕ). renoted_file spot_of p.0) h ∙ keeps_file t k
