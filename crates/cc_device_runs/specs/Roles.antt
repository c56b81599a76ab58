-- What functions do with devices.
use Rattle.std.specs.Prelude.{ℕ, ◌+◌, if◌then◌else◌, List, [], ◌∷◌, Option, Some, None, map}
use Rattle.cc_device.specs.declared.device.Device.{Device}
use Rattle.cc_project.specs.Names.{is_among}
use Rattle.cc_program.specs.declared.function.Function.{Function}
use Rattle.cc_program.specs.declared.function.FunctionKind.{FunctionKind}
use Rattle.cc_program.specs.declared.function.FunctionKind.TheVariants.{Defined, Environment}
use Rattle.cc_program.specs.declared.program.Program.{Program}
use Rattle.cc_device_runs.specs.declared.role.Role.{Role}

-- the first of these devices that the function of this name writes, if there is one; v is the number of the first
abbrev pub writer_from : ℕ → List Device → List ℕ → Option ℕ
writer_from v [] name = None
writer_from v (device ∷ rest) name = if is_among device.writes name then Some v else writer_from (v + 1) rest name

-- the first of them that it reads
abbrev pub reader_from : ℕ → List Device → List ℕ → Option ℕ
reader_from v [] name = None
reader_from v (device ∷ rest) name = if is_among device.reads name then Some v else reader_from (v + 1) rest name

abbrev pub no_role : Role
no_role = record { writes = None; reads = None }

abbrev pub role_by : FunctionKind → List Device → List ℕ → Role
role_by Environment devices name = record { writes = writer_from 0 devices name; reads = reader_from 0 devices name }
role_by Defined devices name = no_role

-- which device a function of the environment writes, and which it reads; a function with a body writes and reads none
abbrev pub role_of : List Device → Function → Role
role_of devices f = role_by f.kind devices f.name

-- what each function of a program does with devices
abbrev pub roles_of : List Device → Program → List Role
roles_of devices P = map (role_of devices) P.functions

abbrev pub role_or : Option Role → Role
role_or (Some role) = role
role_or None = no_role
