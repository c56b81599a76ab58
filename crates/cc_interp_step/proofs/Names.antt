-- The objects of some names, and some cells, one after another.
use Rattle.std.proofs.Common.{◌≡◌, ℕ, zero, suc, ◌+◌, ◌-◌, ◌<◌, List, refl, ap, arith}
use Rattle.cc_store.specs.declared.value.Pointer.{Pointer}
use Rattle.cc_store.specs.declared.value.Value.{Value}
use Rattle.cc_store.specs.declared.value.Value.TheVariants.{Points}
use Rattle.cc_acts.specs.declared.frame.Entry.{Entry}
use Rattle.cc_acts.specs.Runs.{Part, ◌>>=◌, ◌>>◌}
use Rattle.cc_acts.specs.Values.{cell_on}
use Rattle.cc_acts.specs.Parts.{end_name, end_names, read, read_cells, with, fill, fill_same}

pub names_more : (base n : ℕ) → 0 < n → (end_name (base + (n - 1)) >> end_names base (n - 1)) ≡ end_names base n
names_more base zero lt = absurd (omega arith)
names_more base (suc k) lt = let e : suc k - 1 ≡ k = omega arith in ap (λ j. end_name (base + j) >> end_names base j) e

pub cells_more : (occ act : ℕ) (p : Pointer) (k n : ℕ) (ops : List Entry) → 0 < n → (read occ act (Points (cell_on p k)) >>= λ v. read_cells occ act p (k + 1) (n - 1) (with occ v ops)) ≡ read_cells occ act p k n ops
cells_more occ act p k zero ops lt = absurd (omega arith)
cells_more occ act p k (suc n) ops lt = let e : suc n - 1 ≡ n = omega arith in ap (λ j. read occ act (Points (cell_on p k)) >>= λ v. read_cells occ act p (k + 1) j (with occ v ops)) e

pub same_more : (occ act : ℕ) (p : Pointer) (k n : ℕ) (v : Value) → 0 < n → (fill occ act (cell_on p k) v >> fill_same occ act p (k + 1) (n - 1) v) ≡ fill_same occ act p k n v
same_more occ act p k zero v lt = absurd (omega arith)
same_more occ act p k (suc n) v lt = let e : suc n - 1 ≡ n = omega arith in ap (λ j. fill occ act (cell_on p k) v >> fill_same occ act p (k + 1) j v) e
