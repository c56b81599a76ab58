-- One filler, and then the others.
use Rattle.std.proofs.Common.{◌≡◌, ℕ, List, [], ◌∷◌, refl, sym, ap, ◌∙◌}
use Rattle.cc_store.specs.declared.value.Pointer.{Pointer}
use Rattle.cc_acts.specs.declared.acts.Filler.{Filler}
use Rattle.cc_acts.specs.declared.acts.Filler.TheVariants.{Cells, Operand}
use Rattle.cc_acts.specs.declared.frame.Entry.{Entry}
use Rattle.cc_acts.specs.declared.state.State.{State}
use Rattle.cc_acts.specs.Runs.{Run, Then, Goes, Stops, Cut, Part, go_on, give}
use Rattle.cc_acts.specs.Values.{cell_on}
use Rattle.cc_acts.specs.Parts.{fill_all, fill_same, fill_operand}
use Rattle.std.specs.Prelude.{slice_get, ◌+◌}
use Rattle.cc_interp_step.specs.declared.objects.Cursor.{Cursor}
use Rattle.cc_interp_step.specs.Fills.{filled_by}

-- a part that only gives, in between
given_on : {A B C : Type 0} (r : Run A) (x : B) (f : B → Part C) → go_on (go_on r (λ _. give x)) f ≡ go_on r (λ _. f x)
given_on (Then e r) x f = ap (Then e) (given_on r x f)
given_on (Goes y s) x f = refl
given_on (Stops why) x f = refl
given_on Cut x f = refl

pub one_filler : (occ act : ℕ) (p : Pointer) (es : List Entry) (c : Cursor) (f : Filler) (fs all : List Filler) (s : State) → all ≡ f ∷ fs → go_on (filled_by occ act p es c f s) (λ d. fill_all occ act p es d.k d.i fs) ≡ fill_all occ act p es c.k c.i all s
one_filler occ act p es c (Cells n v) fs all s e =
    given_on (fill_same occ act p c.k n v s) (record { k = c.k + n; i = c.i }) (λ d. fill_all occ act p es d.k d.i fs)
    ∙ ap (λ gs. fill_all occ act p es c.k c.i gs s) (sym e)
one_filler occ act p es c (Operand to) fs all s e =
    given_on (fill_operand occ act (cell_on p c.k) to (slice_get es c.i) s) (record { k = c.k + 1; i = c.i + 1 }) (λ d. fill_all occ act p es d.k d.i fs)
    ∙ ap (λ gs. fill_all occ act p es c.k c.i gs s) (sym e)
