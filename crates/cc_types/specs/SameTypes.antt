-- Whether two types are the same.
use Rattle.std.specs.Prelude.{ℕ, nat_eq, Bool, true, false, not, ◌&&◌, Option, Some, None}
use Rattle.cc_arith.specs.declared.kind.IntKind.{IntKind}
use Rattle.cc_arith.specs.contracts.kind.IntKind.{the_type}
use denote.Enum.Bare.{sameb}
use Rattle.cc_types.specs.CTypes.{CTypeTree, void, integer_of, pointer_to, array_of, returning, taking, struct_by}

abbrev pub same_flag : Bool → Bool → Bool
same_flag true j = j
same_flag false j = not j

abbrev pub same_kind : IntKind → IntKind → Bool
same_kind = sameb the_type

abbrev pub same_length : Option ℕ → Option ℕ → Bool
same_length (Some m) (Some n) = nat_eq m n
same_length None None = true
same_length m n = false

abbrev pub same_type : CTypeTree → CTypeTree → Bool
same_type (void k) (void j) = same_flag k j
same_type (integer_of k m) (integer_of j n) = same_flag k j && same_kind m n
same_type (pointer_to k t) (pointer_to j u) = same_flag k j && same_type t u
same_type (array_of k t m) (array_of j u n) = same_flag k j && same_type t u && same_length m n
same_type (returning t) (returning u) = same_type t u
same_type (taking t f) (taking u g) = same_type t u && same_type f g
same_type (struct_by k s) (struct_by j t) = same_flag k j && nat_eq s.0 t.0
same_type t u = false
