-- The name that a declarator declares, and the parts that stand next to it.
use Rattle.std.specs.Prelude.{ℕ, Bool, true, false, not, ◌||◌, Option, Some, None, List, if◌then◌else◌}
use Rattle.cc_tree.specs.Trees.{DeclTree, declared, nameless, pointer, array, function, grouped, TypeTree, type_name, TypeTrees, no_types, more_types}
use Rattle.cc_tree_notes.specs.declared.note.Counted.{Counted}
use Rattle.cc_declare.specs.declared.names.Named.{Named}

abbrev pub name_in : DeclTree Counted → Option (Counted × List ℕ)
name_in (declared n x) = Some (n, x)
name_in nameless = None
name_in (pointer n k d) = name_in d
name_in (array n d e) = name_in d
name_in (function n d ps) = name_in d
name_in (grouped n d) = name_in d

abbrev pub name_part : Option Named → Option (Counted × List ℕ)
name_part None = None
name_part (Some x) = Some (x.note, x.name.now)

-- the note of the outermost form
abbrev pub note_in : DeclTree Counted → Option Counted
note_in (declared n x) = Some n
note_in nameless = None
note_in (pointer n k d) = Some n
note_in (array n d e) = Some n
note_in (function n d ps) = Some n
note_in (grouped n d) = Some n

-- there is nothing but the name, which may be missing, and parentheses round it
abbrev pub is_nearest : DeclTree Counted → Bool
is_nearest (declared n x) = true
is_nearest nameless = true
is_nearest (pointer n k d) = false
is_nearest (array n d e) = false
is_nearest (function n d ps) = false
is_nearest (grouped n d) = is_nearest d

-- the parameters of a function whose form is nearest to the name
abbrev pub formals_in : DeclTree Counted → Option (TypeTrees Counted)
formals_in (declared n x) = None
formals_in nameless = None
formals_in (pointer n k d) = formals_in d
formals_in (array n d e) = formals_in d
formals_in (function n d ps) = if is_nearest d then Some ps else formals_in d
formals_in (grouped n d) = formals_in d

abbrev pub is_some : {X : Type 0} → Option X → Bool
is_some None = false
is_some (Some x) = true

abbrev pub has_name : DeclTree Counted → Bool
has_name d = is_some (name_in d)

abbrev pub is_named : TypeTree Counted → Bool
is_named (type_name n ss d) = has_name d

-- a parameter has no name
abbrev pub has_unnamed : TypeTrees Counted → Bool
has_unnamed no_types = false
has_unnamed (more_types t ts) = not (is_named t) || has_unnamed ts

-- there is one parameter alone, without a name
abbrev pub is_lone_unnamed : TypeTrees Counted → Bool
is_lone_unnamed (more_types t no_types) = not (is_named t)
is_lone_unnamed ts = false
