-- The numbers of the rules that the program prints.
use Rattle.std.specs.Prelude.{ℕ}

abbrev pub one_type : ℕ
one_type = 15

abbrev pub inline : ℕ
inline = 16

abbrev pub file_scope_only : ℕ
file_scope_only = 17

abbrev pub new_name : ℕ
new_name = 18

abbrev pub object_type : ℕ
object_type = 19

abbrev pub array_size : ℕ
array_size = 20

abbrev pub function_type : ℕ
function_type = 21

abbrev pub pointer_to_void : ℕ
pointer_to_void = 22

abbrev pub storage_class : ℕ
storage_class = 24

abbrev pub constant : ℕ
constant = 27

abbrev pub declared_name : ℕ
declared_name = 35
