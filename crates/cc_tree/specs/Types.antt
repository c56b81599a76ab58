-- The types of C as plain trees (C17 6.2.5). The first field of each says whether it is const.
use Rattle.std.specs.Prelude.{ℕ, Bool, List, [], ◌∷◌, Option}
use Rattle.cc_arith.specs.declared.kind.IntKind.{IntKind}
use Rattle.cc_tree.specs.declared.ids.StructId.{StructId}
use Rattle.cc_tree.specs.declared.ctype.CType.{CType, CType-F, fold-CType}

mutual
  pub data CTypeTree : Type 0 where
    void : Bool → CTypeTree
    integer_of : Bool → IntKind → CTypeTree
    pointer_to : Bool → CTypeTree → CTypeTree
    -- the element's type, and the length where it is known
    array_of : Bool → CTypeTree → Option ℕ → CTypeTree
    -- the types of the parameters, and that of the result
    function_from : Bool → CTypeTrees → CTypeTree → CTypeTree
    struct_by : Bool → StructId → CTypeTree

  pub data CTypeTrees : Type 0 where
    no_ctypes : CTypeTrees
    more_ctypes : CTypeTree → CTypeTrees → CTypeTrees

abbrev pub gathered_ctypes : List CTypeTree → CTypeTrees
gathered_ctypes [] = no_ctypes
gathered_ctypes (t ∷ ts) = more_ctypes t (gathered_ctypes ts)

-- one level, with all inside already seen as plain trees
abbrev pub ctype_step : CType-F CTypeTree → CTypeTree
ctype_step (CType-F.Void k) = void k
ctype_step (CType-F.Integer k kind) = integer_of k kind
ctype_step (CType-F.Pointer k t) = pointer_to k t
ctype_step (CType-F.Array k t length) = array_of k t length
ctype_step (CType-F.Func k ps t) = function_from k (gathered_ctypes ps) t
ctype_step (CType-F.Struct k s) = struct_by k s

abbrev pub view_ctype : CType → CTypeTree
view_ctype = fold-CType CTypeTree ctype_step

-- whether a type is const
abbrev pub has_const : CTypeTree → Bool
has_const (void k) = k
has_const (integer_of k kind) = k
has_const (pointer_to k t) = k
has_const (array_of k t length) = k
has_const (function_from k ps t) = k
has_const (struct_by k s) = k

-- the same type, const or not
abbrev pub with_const : Bool → CTypeTree → CTypeTree
with_const k (void j) = void k
with_const k (integer_of j kind) = integer_of k kind
with_const k (pointer_to j t) = pointer_to k t
with_const k (array_of j t length) = array_of k t length
with_const k (function_from j ps t) = function_from k ps t
with_const k (struct_by j s) = struct_by k s
