-- What a program's nodes are to its runs.
use Rattle.std.specs.Prelude.{ℕ, ◌-◌, List, Option, None, cond, nat_eq, slice_get}
use Rattle.cc_program.specs.declared.program.Program.{Program}
use Rattle.cc_record_laws.specs.Roles.{Roles}
use Rattle.cc_roles.specs.Components.{component, home}
use Rattle.cc_roles.specs.Calls.{arguments, is_used}
use Rattle.cc_roles.specs.Names.{named, returned}

-- the item of this number, counted from 1
abbrev pub numbered : List ℕ → ℕ → Option ℕ
numbered items k = cond (nat_eq k 0) None (slice_get items (k - 1))

abbrev pub roles_of : Program → Roles
roles_of p = record {
  component = λ n. component p n;
  home = λ f. home p f;
  argument = λ s k. numbered (arguments p.arena s) k;
  named = λ n. named p n;
  returned = λ n. returned p n;
  is_used = λ s. is_used p s;
}
