-- Trees whose nodes are numbered in the order of the tree: a node before its parts, its parts from left to right.
-- Each definition gives what is numbered, and the number that comes next.
use Rattle.std.specs.Prelude.{ℕ, ◌+◌, List, [], ◌∷◌, Option, Some, None}
use Rattle.cc_base.specs.declared.place.Spot.{Spot}
use Rattle.cc_tree.specs.Trees.{ExprTree, name, integer, character, string, paren, unary, binary, assign, step, choice, comma, call, member, arrow, index, cast, size_expr, size_type, ExprTrees, no_exprs, more_exprs, ExprOption, no_expr, an_expr, TypeTree, type_name, TypeTrees, no_types, more_types, SpecTree, word, named, struct, enum, SpecTrees, no_specs, more_specs, MemberTree, members, MemberTrees, no_members, more_members, ConstantTree, constant, ConstantTrees, no_constants, more_constants, DeclTree, declared, nameless, pointer, array, function, grouped, DeclTrees, no_declarators, more_declarators}
use Rattle.cc_tree.specs.Trees.{ValueTree, single, braces, ValueTrees, no_values, more_values, InitTree, init, DeclarationTree, declaration, StartTree, start_declaration, start_expr, no_start, StmtTree, compound, plain, empty, if_then, if_else, switch, while_loop, do_loop, for_loop, break, continue, return, BlockTree, block, ItemTree, declares, case_label, default_label, does, ItemTrees, no_items, more_items, ExternalTree, outer_declaration, definition}
use Rattle.cc_tree.specs.Views.{gathered, gathered_types, gathered_specs, gathered_members, gathered_constants, gathered_declarators, gathered_values, gathered_items}
use Rattle.cc_tree_notes.specs.declared.note.Counted.{Counted}

-- the note of the node with this spot and this number
abbrev pub counted : Spot → ℕ → Counted
counted s k = record { spot = s; number = k }

-- the spot in a note
abbrev pub spot_of : Counted → Spot
spot_of n = n.spot

abbrev mutual
  pub numbered_expr : ExprTree Spot → ℕ → ExprTree Counted × ℕ
  numbered_expr (name s x) k = (name (counted s k) x, k + 1)
  numbered_expr (integer s v kind) k = (integer (counted s k) v kind, k + 1)
  numbered_expr (character s v) k = (character (counted s k) v, k + 1)
  numbered_expr (string s ss) k = (string (counted s k) ss, k + 1)
  numbered_expr (paren s e) k = let e' = numbered_expr e (k + 1) in (paren (counted s k) e'.0, e'.1)
  numbered_expr (unary s op e) k = let e' = numbered_expr e (k + 1) in (unary (counted s k) op e'.0, e'.1)
  numbered_expr (binary s op a b) k = let a' = numbered_expr a (k + 1) in let b' = numbered_expr b a'.1 in (binary (counted s k) op a'.0 b'.0, b'.1)
  numbered_expr (assign s op a b) k = let a' = numbered_expr a (k + 1) in let b' = numbered_expr b a'.1 in (assign (counted s k) op a'.0 b'.0, b'.1)
  numbered_expr (step s op side e) k = let e' = numbered_expr e (k + 1) in (step (counted s k) op side e'.0, e'.1)
  numbered_expr (choice s c a b) k = let c' = numbered_expr c (k + 1) in let a' = numbered_expr a c'.1 in let b' = numbered_expr b a'.1 in (choice (counted s k) c'.0 a'.0 b'.0, b'.1)
  numbered_expr (comma s a b) k = let a' = numbered_expr a (k + 1) in let b' = numbered_expr b a'.1 in (comma (counted s k) a'.0 b'.0, b'.1)
  numbered_expr (call s f es) k = let f' = numbered_expr f (k + 1) in let es' = numbered_exprs es f'.1 in (call (counted s k) f'.0 (gathered es'.0), es'.1)
  numbered_expr (member s e x) k = let e' = numbered_expr e (k + 1) in (member (counted s k) e'.0 x, e'.1)
  numbered_expr (arrow s e x) k = let e' = numbered_expr e (k + 1) in (arrow (counted s k) e'.0 x, e'.1)
  numbered_expr (index s a i) k = let a' = numbered_expr a (k + 1) in let i' = numbered_expr i a'.1 in (index (counted s k) a'.0 i'.0, i'.1)
  numbered_expr (cast s t e) k = let t' = numbered_type t (k + 1) in let e' = numbered_expr e t'.1 in (cast (counted s k) t'.0 e'.0, e'.1)
  numbered_expr (size_expr s e) k = let e' = numbered_expr e (k + 1) in (size_expr (counted s k) e'.0, e'.1)
  numbered_expr (size_type s t) k = let t' = numbered_type t (k + 1) in (size_type (counted s k) t'.0, t'.1)

  pub numbered_exprs : ExprTrees Spot → ℕ → List (ExprTree Counted) × ℕ
  numbered_exprs no_exprs k = ([], k)
  numbered_exprs (more_exprs e es) k = let e' = numbered_expr e k in let es' = numbered_exprs es e'.1 in (e'.0 ∷ es'.0, es'.1)

  pub numbered_option : ExprOption Spot → ℕ → ExprOption Counted × ℕ
  numbered_option no_expr k = (no_expr, k)
  numbered_option (an_expr e) k = let e' = numbered_expr e k in (an_expr e'.0, e'.1)

  pub numbered_type : TypeTree Spot → ℕ → TypeTree Counted × ℕ
  numbered_type (type_name s ss d) k = let ss' = numbered_specs ss (k + 1) in let d' = numbered_declarator d ss'.1 in (type_name (counted s k) (gathered_specs ss'.0) d'.0, d'.1)

  pub numbered_types : TypeTrees Spot → ℕ → List (TypeTree Counted) × ℕ
  numbered_types no_types k = ([], k)
  numbered_types (more_types t ts) k = let t' = numbered_type t k in let ts' = numbered_types ts t'.1 in (t'.0 ∷ ts'.0, ts'.1)

  pub numbered_spec : SpecTree Spot → ℕ → SpecTree Counted × ℕ
  numbered_spec (word s w) k = (word (counted s k) w, k + 1)
  numbered_spec (named s x) k = (named (counted s k) x, k + 1)
  numbered_spec (struct s tag ms) k = let ms' = numbered_members ms (k + 1) in (struct (counted s k) tag (gathered_members ms'.0), ms'.1)
  numbered_spec (enum s tag cs trailing) k = let cs' = numbered_constants cs (k + 1) in (enum (counted s k) tag (gathered_constants cs'.0) trailing, cs'.1)

  pub numbered_specs : SpecTrees Spot → ℕ → List (SpecTree Counted) × ℕ
  numbered_specs no_specs k = ([], k)
  numbered_specs (more_specs s ss) k = let s' = numbered_spec s k in let ss' = numbered_specs ss s'.1 in (s'.0 ∷ ss'.0, ss'.1)

  pub numbered_member : MemberTree Spot → ℕ → MemberTree Counted × ℕ
  numbered_member (members s ss ds) k = let ss' = numbered_specs ss (k + 1) in let ds' = numbered_declarators ds ss'.1 in (members (counted s k) (gathered_specs ss'.0) (gathered_declarators ds'.0), ds'.1)

  pub numbered_members : MemberTrees Spot → ℕ → List (MemberTree Counted) × ℕ
  numbered_members no_members k = ([], k)
  numbered_members (more_members m ms) k = let m' = numbered_member m k in let ms' = numbered_members ms m'.1 in (m'.0 ∷ ms'.0, ms'.1)

  pub numbered_constant : ConstantTree Spot → ℕ → ConstantTree Counted × ℕ
  numbered_constant (constant s x e) k = let e' = numbered_option e (k + 1) in (constant (counted s k) x e'.0, e'.1)

  pub numbered_constants : ConstantTrees Spot → ℕ → List (ConstantTree Counted) × ℕ
  numbered_constants no_constants k = ([], k)
  numbered_constants (more_constants c cs) k = let c' = numbered_constant c k in let cs' = numbered_constants cs c'.1 in (c'.0 ∷ cs'.0, cs'.1)

  pub numbered_declarator : DeclTree Spot → ℕ → DeclTree Counted × ℕ
  numbered_declarator (declared s x) k = (declared (counted s k) x, k + 1)
  numbered_declarator nameless k = (nameless, k)
  numbered_declarator (pointer s n d) k = let d' = numbered_declarator d (k + 1) in (pointer (counted s k) n d'.0, d'.1)
  numbered_declarator (array s d length) k = let d' = numbered_declarator d (k + 1) in let length' = numbered_option length d'.1 in (array (counted s k) d'.0 length'.0, length'.1)
  numbered_declarator (function s d ps) k = let d' = numbered_declarator d (k + 1) in let ps' = numbered_types ps d'.1 in (function (counted s k) d'.0 (gathered_types ps'.0), ps'.1)
  numbered_declarator (grouped s d) k = let d' = numbered_declarator d (k + 1) in (grouped (counted s k) d'.0, d'.1)

  pub numbered_declarators : DeclTrees Spot → ℕ → List (DeclTree Counted) × ℕ
  numbered_declarators no_declarators k = ([], k)
  numbered_declarators (more_declarators d ds) k = let d' = numbered_declarator d k in let ds' = numbered_declarators ds d'.1 in (d'.0 ∷ ds'.0, ds'.1)

abbrev mutual
  pub numbered_value : ValueTree Spot → ℕ → ValueTree Counted × ℕ
  numbered_value (single e) k = let e' = numbered_expr e k in (single e'.0, e'.1)
  numbered_value (braces s vs trailing) k = let vs' = numbered_values vs (k + 1) in (braces (counted s k) (gathered_values vs'.0) trailing, vs'.1)

  pub numbered_values : ValueTrees Spot → ℕ → List (ValueTree Counted) × ℕ
  numbered_values no_values k = ([], k)
  numbered_values (more_values v vs) k = let v' = numbered_value v k in let vs' = numbered_values vs v'.1 in (v'.0 ∷ vs'.0, vs'.1)

abbrev pub numbered_given : Option (ValueTree Spot) → ℕ → Option (ValueTree Counted) × ℕ
numbered_given None k = (None, k)
numbered_given (Some v) k = let v' = numbered_value v k in (Some v'.0, v'.1)

abbrev pub numbered_init : InitTree Spot → ℕ → InitTree Counted × ℕ
numbered_init (init d v) k = let d' = numbered_declarator d k in let v' = numbered_given v d'.1 in (init d'.0 v'.0, v'.1)

abbrev pub numbered_inits : List (InitTree Spot) → ℕ → List (InitTree Counted) × ℕ
numbered_inits [] k = ([], k)
numbered_inits (i ∷ is) k = let i' = numbered_init i k in let is' = numbered_inits is i'.1 in (i'.0 ∷ is'.0, is'.1)

abbrev pub numbered_declaration : DeclarationTree Spot → ℕ → DeclarationTree Counted × ℕ
numbered_declaration (declaration s ss is) k = let ss' = numbered_specs ss (k + 1) in let is' = numbered_inits is ss'.1 in (declaration (counted s k) (gathered_specs ss'.0) is'.0, is'.1)

abbrev pub numbered_start : StartTree Spot → ℕ → StartTree Counted × ℕ
numbered_start (start_declaration d) k = let d' = numbered_declaration d k in (start_declaration d'.0, d'.1)
numbered_start (start_expr e) k = let e' = numbered_expr e k in (start_expr e'.0, e'.1)
numbered_start no_start k = (no_start, k)

abbrev pub numbered_clause : Option (ExprTree Spot) → ℕ → Option (ExprTree Counted) × ℕ
numbered_clause None k = (None, k)
numbered_clause (Some e) k = let e' = numbered_expr e k in (Some e'.0, e'.1)

abbrev mutual
  pub numbered_stmt : StmtTree Spot → ℕ → StmtTree Counted × ℕ
  numbered_stmt (compound b) k = let b' = numbered_block b k in (compound b'.0, b'.1)
  numbered_stmt (plain s e) k = let e' = numbered_expr e (k + 1) in (plain (counted s k) e'.0, e'.1)
  numbered_stmt (empty s) k = (empty (counted s k), k + 1)
  numbered_stmt (if_then s c t) k = let c' = numbered_expr c (k + 1) in let t' = numbered_stmt t c'.1 in (if_then (counted s k) c'.0 t'.0, t'.1)
  numbered_stmt (if_else s c t o) k = let c' = numbered_expr c (k + 1) in let t' = numbered_stmt t c'.1 in let o' = numbered_stmt o t'.1 in (if_else (counted s k) c'.0 t'.0 o'.0, o'.1)
  numbered_stmt (switch s e b) k = let e' = numbered_expr e (k + 1) in let b' = numbered_block b e'.1 in (switch (counted s k) e'.0 b'.0, b'.1)
  numbered_stmt (while_loop s c t) k = let c' = numbered_expr c (k + 1) in let t' = numbered_stmt t c'.1 in (while_loop (counted s k) c'.0 t'.0, t'.1)
  numbered_stmt (do_loop s t c) k = let t' = numbered_stmt t (k + 1) in let c' = numbered_expr c t'.1 in (do_loop (counted s k) t'.0 c'.0, c'.1)
  numbered_stmt (for_loop s start test each t) k =
      let start' = numbered_start start (k + 1) in
      let test' = numbered_clause test start'.1 in
      let each' = numbered_clause each test'.1 in
      let t' = numbered_stmt t each'.1 in
      (for_loop (counted s k) start'.0 test'.0 each'.0 t'.0, t'.1)
  numbered_stmt (break s) k = (break (counted s k), k + 1)
  numbered_stmt (continue s) k = (continue (counted s k), k + 1)
  numbered_stmt (return s e) k = let e' = numbered_clause e (k + 1) in (return (counted s k) e'.0, e'.1)

  pub numbered_block : BlockTree Spot → ℕ → BlockTree Counted × ℕ
  numbered_block (block s is) k = let is' = numbered_items is (k + 1) in (block (counted s k) (gathered_items is'.0), is'.1)

  pub numbered_item : ItemTree Spot → ℕ → ItemTree Counted × ℕ
  numbered_item (declares d) k = let d' = numbered_declaration d k in (declares d'.0, d'.1)
  numbered_item (case_label s e) k = let e' = numbered_expr e (k + 1) in (case_label (counted s k) e'.0, e'.1)
  numbered_item (default_label s) k = (default_label (counted s k), k + 1)
  numbered_item (does t) k = let t' = numbered_stmt t k in (does t'.0, t'.1)

  pub numbered_items : ItemTrees Spot → ℕ → List (ItemTree Counted) × ℕ
  numbered_items no_items k = ([], k)
  numbered_items (more_items i is) k = let i' = numbered_item i k in let is' = numbered_items is i'.1 in (i'.0 ∷ is'.0, is'.1)

abbrev pub numbered_external : ExternalTree Spot → ℕ → ExternalTree Counted × ℕ
numbered_external (outer_declaration d) k = let d' = numbered_declaration d k in (outer_declaration d'.0, d'.1)
numbered_external (definition s ss d b) k =
    let ss' = numbered_specs ss (k + 1) in
    let d' = numbered_declarator d ss'.1 in
    let b' = numbered_block b d'.1 in
    (definition (counted s k) (gathered_specs ss'.0) d'.0 b'.0, b'.1)

abbrev pub numbered_file : List (ExternalTree Spot) → ℕ → List (ExternalTree Counted) × ℕ
numbered_file [] k = ([], k)
numbered_file (x ∷ xs) k = let x' = numbered_external x k in let xs' = numbered_file xs x'.1 in (x'.0 ∷ xs'.0, xs'.1)
