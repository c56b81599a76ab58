-- The run of a test over a program's acts.
use Rattle.std.specs.Prelude.{ℕ, ℤ, ◌+◌, List, [], ◌∷◌, Option, Some, None, Bool, true, false, take, drop, slice_get}
use Rattle.cc_meaning.specs.declared.test.TestCall.{TestCall}
use Rattle.cc_store.specs.declared.value.Pointer.{Pointer}
use Rattle.cc_store.specs.declared.value.Value.TheVariants.{Int, Function}
use Rattle.cc_store.specs.Objects.{made}
use Rattle.cc_acts.specs.declared.acts.Acts.{Acts}
use Rattle.cc_acts.specs.declared.acts.Lasting.{Lasting}
use Rattle.cc_acts.specs.declared.frame.Entry.{Entry}
use Rattle.cc_acts.specs.declared.frame.Frame.{Frame}
use Rattle.cc_acts.specs.declared.state.State.{State}
use Rattle.cc_acts.specs.declared.stop.Stop.TheVariants.{Lost, CellsOut}
use Rattle.cc_acts.specs.Runs.{Goes, Stops, Part, ◌>>◌, give, stop}
use Rattle.cc_acts.specs.Parts.{with, has_room, fill_all}
use Rattle.cc_acts.specs.Steps.{Config, At, drive}

-- before a run
abbrev pub fresh : ℕ → ℕ → List ℤ → State
fresh turns cells answers = record {
  store = record { objects = []; next = 0 };
  names = [];
  turns = turns;
  cells = cells;
  answers = answers;
  next_act = 1;
}

abbrev pub make_one_if : Bool → Lasting → Part (Unit {0})
make_one_if true o s = Goes tt (record s { store = made o.declarator o.cells o.is_fixed s.store })
make_one_if false o s = Stops CellsOut

abbrev pub make_one : Lasting → Part (Unit {0})
make_one o s = make_one_if (has_room o.cells s) o s

-- all static objects and string literals are made
abbrev pub make_lasting : List Lasting → Part (Unit {0})
make_lasting [] = give tt
make_lasting (o ∷ os) = make_one o >> make_lasting os

-- the object that was made as number k
abbrev pub lasting_at : Lasting → ℕ → Pointer
lasting_at o k = record { object = o.declarator; instance = k; place = k; base = 0; length = 1; index = 0 }

-- the cells of object k get their first values
abbrev pub fill_one : Acts → ℕ → Lasting → Part (Unit {0})
fill_one G k o = fill_all o.declarator 0 (lasting_at o k) [] 0 0 (take o.fillers (drop o.from G.fillers))

-- their cells, from object k on, get their first values, in order
abbrev pub fill_lasting : Acts → ℕ → List Lasting → Part (Unit {0})
fill_lasting G k [] = give tt
fill_lasting G k (o ∷ os) = fill_one G k o >> fill_lasting G (k + 1) os

-- no activation
abbrev pub idle : Frame
idle = record { act = 0; base = 0; returned = None }

-- the arguments over what is there
abbrev pub pushed : List ℤ → List Entry → List Entry
pushed [] ops = ops
pushed (z ∷ zs) ops = pushed zs (with 0 (Int z) ops)

abbrev pub entry_config : TestCall → Option (Option ℕ) → Option Config
entry_config c (Some (Some e)) = Some (At e idle (pushed c.args (with 0 (Function c.entry) [])) [])
entry_config c _ = None

-- where the machine is at the beginning of a test's call
abbrev pub begin : Acts → TestCall → Option Config
begin G c = entry_config c (slice_get G.entries c.entry.0)

-- the machine is there, if it could begin
abbrev pub begun : Bool → Config → Option Config
begun true c = Some c
begun false c = None

abbrev pub drive_from : Acts → ℕ → Option Config → Part (Unit {0})
drive_from G steps None = stop Lost
drive_from G steps (Some c) = drive G steps c

-- the test's calls, one after another, each with at most so many steps
abbrev pub run_calls : Acts → ℕ → List TestCall → Part (Unit {0})
run_calls G steps [] = give tt
run_calls G steps (c ∷ cs) = drive_from G steps (begin G c) >> run_calls G steps cs

-- the run of a test
abbrev pub run : Acts → ℕ → List TestCall → Part (Unit {0})
run G steps calls = make_lasting G.lasting >> (fill_lasting G 0 G.lasting >> run_calls G steps calls)
