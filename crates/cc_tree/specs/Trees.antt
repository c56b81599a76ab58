-- The family as plain trees, with a note of any type in each node.
use Rattle.std.specs.Prelude.{ℕ, ℤ, Bool, List, Option}
use Rattle.cc_arith.specs.declared.kind.IntKind.{IntKind}
use Rattle.cc_tree.specs.declared.operator.UnaryOp.{UnaryOp}
use Rattle.cc_tree.specs.declared.operator.BinaryOp.{BinaryOp}
use Rattle.cc_tree.specs.declared.operator.AssignOp.{AssignOp}
use Rattle.cc_tree.specs.declared.operator.StepOp.{StepOp}
use Rattle.cc_tree.specs.declared.operator.Side.{Side}
use Rattle.cc_tree.specs.declared.operator.SpecWord.{SpecWord}

-- the bytes of a name
abbrev pub Name : Type 0
Name = List ℕ

mutual
  -- an expression (C17 6.5)
  pub data ExprTree (N : Type 0) : Type 0 where
    name : N → Name → ExprTree N
    integer : N → ℤ → IntKind → ExprTree N
    character : N → ℤ → ExprTree N
    string : N → List (List ℕ) → ExprTree N
    paren : N → ExprTree N → ExprTree N
    unary : N → UnaryOp → ExprTree N → ExprTree N
    binary : N → BinaryOp → ExprTree N → ExprTree N → ExprTree N
    assign : N → AssignOp → ExprTree N → ExprTree N → ExprTree N
    step : N → StepOp → Side → ExprTree N → ExprTree N
    choice : N → ExprTree N → ExprTree N → ExprTree N → ExprTree N
    comma : N → ExprTree N → ExprTree N → ExprTree N
    call : N → ExprTree N → ExprTrees N → ExprTree N
    member : N → ExprTree N → Name → ExprTree N
    arrow : N → ExprTree N → Name → ExprTree N
    index : N → ExprTree N → ExprTree N → ExprTree N
    cast : N → TypeTree N → ExprTree N → ExprTree N
    size_expr : N → ExprTree N → ExprTree N
    size_type : N → TypeTree N → ExprTree N

  pub data ExprTrees (N : Type 0) : Type 0 where
    no_exprs : ExprTrees N
    more_exprs : ExprTree N → ExprTrees N → ExprTrees N

  pub data ExprOption (N : Type 0) : Type 0 where
    no_expr : ExprOption N
    an_expr : ExprTree N → ExprOption N

  -- a type name (C17 6.7.7) or a parameter
  pub data TypeTree (N : Type 0) : Type 0 where
    type_name : N → SpecTrees N → DeclTree N → TypeTree N

  pub data TypeTrees (N : Type 0) : Type 0 where
    no_types : TypeTrees N
    more_types : TypeTree N → TypeTrees N → TypeTrees N

  -- a specifier (C17 6.7p1)
  pub data SpecTree (N : Type 0) : Type 0 where
    word : N → SpecWord → SpecTree N
    named : N → Name → SpecTree N
    struct : N → Option Name → MemberTrees N → SpecTree N
    enum : N → Option Name → ConstantTrees N → Bool → SpecTree N

  pub data SpecTrees (N : Type 0) : Type 0 where
    no_specs : SpecTrees N
    more_specs : SpecTree N → SpecTrees N → SpecTrees N

  -- members that are declared together (C17 6.7.2.1)
  pub data MemberTree (N : Type 0) : Type 0 where
    members : N → SpecTrees N → DeclTrees N → MemberTree N

  pub data MemberTrees (N : Type 0) : Type 0 where
    no_members : MemberTrees N
    more_members : MemberTree N → MemberTrees N → MemberTrees N

  -- an enumeration constant (C17 6.7.2.2)
  pub data ConstantTree (N : Type 0) : Type 0 where
    constant : N → Name → ExprOption N → ConstantTree N

  pub data ConstantTrees (N : Type 0) : Type 0 where
    no_constants : ConstantTrees N
    more_constants : ConstantTree N → ConstantTrees N → ConstantTrees N

  -- a declarator (C17 6.7.6) or an abstract one, what stands nearest to the name innermost
  pub data DeclTree (N : Type 0) : Type 0 where
    declared : N → Name → DeclTree N
    nameless : DeclTree N
    pointer : N → ℕ → DeclTree N → DeclTree N
    array : N → DeclTree N → ExprOption N → DeclTree N
    function : N → DeclTree N → TypeTrees N → DeclTree N
    grouped : N → DeclTree N → DeclTree N

  pub data DeclTrees (N : Type 0) : Type 0 where
    no_declarators : DeclTrees N
    more_declarators : DeclTree N → DeclTrees N → DeclTrees N

-- an initialiser (C17 6.7.9)
mutual
  pub data ValueTree (N : Type 0) : Type 0 where
    single : ExprTree N → ValueTree N
    braces : N → ValueTrees N → Bool → ValueTree N

  pub data ValueTrees (N : Type 0) : Type 0 where
    no_values : ValueTrees N
    more_values : ValueTree N → ValueTrees N → ValueTrees N

-- a declarator with its initialiser
pub data InitTree (N : Type 0) : Type 0 where
  init : DeclTree N → Option (ValueTree N) → InitTree N

-- a declaration (C17 6.7)
pub data DeclarationTree (N : Type 0) : Type 0 where
  declaration : N → SpecTrees N → List (InitTree N) → DeclarationTree N

-- the first clause of a `for` (C17 6.8.5.3)
pub data StartTree (N : Type 0) : Type 0 where
  start_declaration : DeclarationTree N → StartTree N
  start_expr : ExprTree N → StartTree N
  no_start : StartTree N

-- a statement (C17 6.8)
mutual
  pub data StmtTree (N : Type 0) : Type 0 where
    compound : BlockTree N → StmtTree N
    plain : N → ExprTree N → StmtTree N
    empty : N → StmtTree N
    if_then : N → ExprTree N → StmtTree N → StmtTree N
    if_else : N → ExprTree N → StmtTree N → StmtTree N → StmtTree N
    switch : N → ExprTree N → BlockTree N → StmtTree N
    while_loop : N → ExprTree N → StmtTree N → StmtTree N
    do_loop : N → StmtTree N → ExprTree N → StmtTree N
    for_loop : N → StartTree N → Option (ExprTree N) → Option (ExprTree N) → StmtTree N → StmtTree N
    break : N → StmtTree N
    continue : N → StmtTree N
    return : N → Option (ExprTree N) → StmtTree N

  pub data BlockTree (N : Type 0) : Type 0 where
    block : N → ItemTrees N → BlockTree N

  -- what stands in a block; a label is an item of its own
  pub data ItemTree (N : Type 0) : Type 0 where
    declares : DeclarationTree N → ItemTree N
    case_label : N → ExprTree N → ItemTree N
    default_label : N → ItemTree N
    does : StmtTree N → ItemTree N

  pub data ItemTrees (N : Type 0) : Type 0 where
    no_items : ItemTrees N
    more_items : ItemTree N → ItemTrees N → ItemTrees N

-- what stands in a file (C17 6.9)
pub data ExternalTree (N : Type 0) : Type 0 where
  outer_declaration : DeclarationTree N → ExternalTree N
  definition : N → SpecTrees N → DeclTree N → BlockTree N → ExternalTree N
