-- The depth of a tree by its own definition is that of its outline, with itself where it counts.
use Rattle.std.proofs.Common.{◌≡◌, ◌+◌, refl, ℕ, zero, suc, max, Bool, true, false, List, [], ◌∷◌, Option, Some, None, arith, ◌∙◌}
use Rattle.cc_base.specs.declared.place.Spot.{Spot}
use Rattle.cc_tree.specs.declared.operator.Side.TheVariants as side
use Rattle.cc_tree.specs.Trees.{Name, ExprTree, name, integer, character, string, paren, unary, binary, assign, step, choice, comma, call, member, arrow, index, cast, size_expr, size_type, ExprTrees, no_exprs, more_exprs, ExprOption, no_expr, an_expr, TypeTree, type_name, TypeTrees, no_types, more_types, SpecTree, word, named, struct, enum, SpecTrees, no_specs, more_specs, MemberTree, members, MemberTrees, no_members, more_members, ConstantTree, constant, ConstantTrees, no_constants, more_constants, DeclTree, declared, nameless, pointer, array, function, grouped, DeclTrees, no_declarators, more_declarators}
use Rattle.cc_tree.specs.Depth as depths
use Rattle.cc_grammar.specs.Outline.{depth, deeper}
use Rattle.cc_grammar.specs.Outlines as outlines
use Rattle.cc_grammar.specs.Names.{Names}

flat_strings : (ss : List (List ℕ)) → depth (outlines.strings ss) ≡ 0
flat_strings [] = refl
flat_strings (s ∷ ss) = flat_strings ss

flat_string : (n : Spot) (ss : List (List ℕ)) → depth (outlines.string_tokens n ss) ≡ 0
flat_string n [] = refl
flat_string n (s ∷ ss) = flat_strings ss

flat_consts : (c : ℕ) → depth (outlines.consts c) ≡ 0
flat_consts zero = refl
flat_consts (suc c) = flat_consts c

flat_tag : (tag : Option Name) → depth (outlines.tag_of tag) ≡ 0
flat_tag None = refl
flat_tag (Some x) = refl

flat_comma : (b : Bool) → depth (outlines.trailing_comma b) ≡ 0
flat_comma true = refl
flat_comma false = refl

pub named_is_written : (f : DeclTree Spot) → outlines.is_named f ≡ true → outlines.is_written f ≡ true
named_is_written (declared n x) h = refl
named_is_written nameless h = absurd cc
named_is_written (pointer n c f) h = refl
named_is_written (array n f e) h = refl
named_is_written (function n f ps) h = refl
named_is_written (grouped n f) h = refl

deeper_true : (b : Bool) (n : ℕ) → b ≡ true → deeper b n ≡ n + 1
deeper_true true n h = refl
deeper_true false n h = absurd cc

mutual
  pub expr_depth : (names : Names) (e : ExprTree Spot) → depths.expr_depth e ≡ depth (outlines.expr names e) + 1
  expr_depth names (name n x) = refl
  expr_depth names (integer n v c) = refl
  expr_depth names (character n v) = refl
  expr_depth names (string n ss) = omega (arith, flat_string n ss)
  expr_depth names (paren n e) = omega (arith, expr_depth names e)
  expr_depth names (unary n op e) = omega (arith, expr_depth names e)
  expr_depth names (binary n op a b) = omega (arith, expr_depth names a, expr_depth names b)
  expr_depth names (assign n op a b) = omega (arith, expr_depth names a, expr_depth names b)
  expr_depth names (step n op side.Before e) = omega (arith, expr_depth names e)
  expr_depth names (step n op side.After e) = omega (arith, expr_depth names e)
  expr_depth names (choice n c a b) = omega (arith, expr_depth names c, expr_depth names a, expr_depth names b)
  expr_depth names (comma n a b) = omega (arith, expr_depth names a, expr_depth names b)
  expr_depth names (call n f es) = omega (arith, expr_depth names f, exprs_depth names es)
  expr_depth names (member n e x) = omega (arith, expr_depth names e)
  expr_depth names (arrow n e x) = omega (arith, expr_depth names e)
  expr_depth names (index n a i) = omega (arith, expr_depth names a, expr_depth names i)
  expr_depth names (cast n t e) = omega (arith, type_depth names t, expr_depth names e)
  expr_depth names (size_expr n e) = omega (arith, expr_depth names e)
  expr_depth names (size_type n t) = omega (arith, type_depth names t)

  exprs_depth : (names : Names) (es : ExprTrees Spot) → depths.exprs_depth es ≡ depth (outlines.arguments names es)
  exprs_depth names no_exprs = refl
  exprs_depth names (more_exprs e es) = omega (arith, expr_depth names e, other_exprs_depth names es)

  other_exprs_depth : (names : Names) (es : ExprTrees Spot) → depths.exprs_depth es ≡ depth (outlines.more_arguments names es)
  other_exprs_depth names no_exprs = refl
  other_exprs_depth names (more_exprs e es) = omega (arith, expr_depth names e, other_exprs_depth names es)

  length_depth : (names : Names) (e : ExprOption Spot) → depths.option_depth e ≡ depth (outlines.length_of names e)
  length_depth names no_expr = refl
  length_depth names (an_expr e) = omega (arith, expr_depth names e)

  constant_value_depth : (names : Names) (e : ExprOption Spot) → depths.option_depth e ≡ depth (outlines.constant_value names e)
  constant_value_depth names no_expr = refl
  constant_value_depth names (an_expr e) = omega (arith, expr_depth names e)

  pub type_depth : (names : Names) (t : TypeTree Spot) → depths.type_depth t ≡ depth (outlines.type_of names t)
  type_depth names (type_name n ss f) = omega (arith, specs_depth names ss, declarator_depth names f)

  pub parameter_depth : (names : Names) (t : TypeTree Spot) → depths.type_depth t ≡ depth (outlines.parameter names t)
  parameter_depth names (type_name n ss f) = omega (arith, specs_depth names ss, declarator_depth names f)

  parameters_depth : (names : Names) (ts : TypeTrees Spot) → depths.types_depth ts ≡ depth (outlines.parameters names ts)
  parameters_depth names no_types = refl
  parameters_depth names (more_types t ts) = omega (arith, parameter_depth names t, other_parameters_depth names ts)

  other_parameters_depth : (names : Names) (ts : TypeTrees Spot) → depths.types_depth ts ≡ depth (outlines.more_parameters names ts)
  other_parameters_depth names no_types = refl
  other_parameters_depth names (more_types t ts) = omega (arith, parameter_depth names t, other_parameters_depth names ts)

  pub spec_depth : (names : Names) (s : SpecTree Spot) → depths.spec_depth s ≡ depth (outlines.spec names s)
  spec_depth names (word n w) = refl
  spec_depth names (named n x) = refl
  spec_depth names (struct n tag ms) = omega (arith, flat_tag tag, members_depth names ms)
  spec_depth names (enum n tag cs trailing) = omega (arith, flat_tag tag, constants_depth names cs trailing)

  pub specs_depth : (names : Names) (ss : SpecTrees Spot) → depths.specs_depth ss ≡ depth (outlines.specs names ss)
  specs_depth names no_specs = refl
  specs_depth names (more_specs s ss) = omega (arith, spec_depth names s, specs_depth names ss)

  members_depth : (names : Names) (ms : MemberTrees Spot) → depths.members_depth ms ≡ depth (outlines.member_list names ms)
  members_depth names no_members = refl
  members_depth names (more_members m ms) = omega (arith, member_depth names m, other_members_depth names ms (depth (outlines.member_line names m)))

  other_members_depth : (names : Names) (ms : MemberTrees Spot) (n : ℕ) → max (n + 1) (depths.members_depth ms) ≡ max n (depth (outlines.member_lines names ms)) + 1
  other_members_depth names no_members n = omega arith
  other_members_depth names (more_members m ms) n = omega (arith, member_depth names m, other_members_depth names ms (max n (depth (outlines.member_line names m))))

  member_depth : (names : Names) (m : MemberTree Spot) → depths.member_depth m ≡ depth (outlines.member_line names m)
  member_depth names (members n ss ds) = omega (arith, specs_depth names ss, declarators_depth names ds)

  declarators_depth : (names : Names) (ds : DeclTrees Spot) → depths.declarators_depth ds ≡ depth (outlines.declarators names ds)
  declarators_depth names no_declarators = refl
  declarators_depth names (more_declarators f ds) = omega (arith, declarator_depth names f, other_declarators_depth names ds)

  other_declarators_depth : (names : Names) (ds : DeclTrees Spot) → depths.declarators_depth ds ≡ depth (outlines.more_of_them names ds)
  other_declarators_depth names no_declarators = refl
  other_declarators_depth names (more_declarators f ds) = omega (arith, declarator_depth names f, other_declarators_depth names ds)

  constants_depth : (names : Names) (cs : ConstantTrees Spot) (b : Bool) → depths.constants_depth cs ≡ depth (outlines.constant_list names cs b)
  constants_depth names no_constants b = refl
  constants_depth names (more_constants c cs) b = omega (arith, flat_comma b, constant_depth names c, other_constants_depth names cs (depth (outlines.constant_of names c)))

  other_constants_depth : (names : Names) (cs : ConstantTrees Spot) (n : ℕ) → max (n + 1) (depths.constants_depth cs) ≡ max n (depth (outlines.more_constants_of names cs)) + 1
  other_constants_depth names no_constants n = omega arith
  other_constants_depth names (more_constants c cs) n = omega (arith, constant_depth names c, other_constants_depth names cs (max n (depth (outlines.constant_of names c))))

  constant_depth : (names : Names) (c : ConstantTree Spot) → depths.constant_depth c ≡ depth (outlines.constant_of names c)
  constant_depth names (constant n x e) = omega (arith, constant_value_depth names e)

  -- with itself where it is written
  pub declarator_depth : (names : Names) (f : DeclTree Spot) → depths.declarator_depth f ≡ deeper (outlines.is_written f) (depth (outlines.declarator names f))
  declarator_depth names (declared n x) = refl
  declarator_depth names nameless = refl
  declarator_depth names (pointer n c f) = omega (arith, flat_consts c, declarator_depth names f)
  declarator_depth names (array n f e) = omega (arith, declarator_depth names f, length_depth names e)
  declarator_depth names (function n f ps) = omega (arith, declarator_depth names f, parameters_depth names ps)
  declarator_depth names (grouped n f) = omega (arith, declarator_depth names f)

pub named_depth : (names : Names) (f : DeclTree Spot) → outlines.is_named f ≡ true → depths.declarator_depth f ≡ depth (outlines.declarator names f) + 1
named_depth names f e = declarator_depth names f ∙ deeper_true (outlines.is_written f) (depth (outlines.declarator names f)) (named_is_written f e)
