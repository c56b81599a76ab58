-- The rows of the calls that are chosen.
use Rattle.std.proofs.Common.{◌≡◌, ◌≢◌, ℕ, zero, suc, ◌+◌, ◌-◌, ◌<◌, ◌≤◌, inl, inr, ⊎_elim, List, [], ◌∷◌, ◌++◌, length, Some, Bool, true, false, cond, eqb, refl, sym, ap, ◌∙◌, subst, arith, Contains, slice_get, get_or, not}
use Rattle.std.specs.Prelude.{◌↔◌}
use Rattle.std.proofs.lemmas.Bool.{cases_eq, eqb-true, eqb-false, not-true, not-false}
use Rattle.std.proofs.lemmas.List.Elements.{All-nil, All-push, Contains-push, Contains-push_cases, Contains-append_left}
use Rattle.std.proofs.lemmas.Option.{slice_get_read, slice_get_within, same_Some}
use Rattle.cc_base.specs.Edges.{IsMarked}
use Rattle.cc_base.proofs.Lists.{Contains-nil}
use Rattle.cc_first_runs.specs.Program as tree
use Rattle.cc_first_runs.specs.Program.{IsSite}
use Rattle.cc_first_runs.specs.Couplings.{Row, IsBefore, IsOrdered, IsCoupling, AreCouplings}
use Rattle.cc_first_runs.specs.Points.{At, IsReachable}
use Rattle.cc_first.specs.SoundProgram.{IsSound}
use Rattle.cc_first.specs.Numbers.{place}
use Rattle.cc_first.specs.Views.{name_view, program_view, IsCallOf, AreCallsOf}
use Rattle.cc_first.specs.declared.program.Call.{Call}
use Rattle.cc_first.specs.declared.program.Function.{Function}
use Rattle.cc_first.specs.declared.program.Program.{Program}
use Rattle.cc_first.proofs.PathPlaces.{ascends_at, nested_at, place_own}
use Rattle.cc_first.proofs.PathSites.{view_of, function_view, linked_at, site_at, flat_of}
use Rattle.cc_first.proofs.ProgramNames.{Contains-here, Contains-there}

-- the row of call k
abbrev pub row_of : List Call → ℕ → Call → Row
row_of calls k call = record { f = call.caller; i = place calls k call.caller; g = call.callee }

-- places grow
place_step : (calls : List Call) (k f : ℕ) → place calls k f ≤ place calls (suc k) f
place_step [] k f = omega arith
place_step (c ∷ calls) zero f = omega arith
place_step (c ∷ calls) (suc k) f = by (eqb c.caller f) (place_step calls k f)
  where
    by : (b : Bool) → place calls k f ≤ place calls (suc k) f → cond b (suc (place calls k f)) (place calls k f) ≤ cond b (suc (place calls (suc k) f)) (place calls (suc k) f)
    by true le = omega arith
    by false le = le

place_grows : (calls : List Call) (m d f : ℕ) → place calls m f ≤ place calls (m + d) f
place_grows calls m zero f = (let e : m + 0 ≡ m = omega arith in subst (λ n. place calls m f ≤ place calls n f) (sym e) (omega arith))
place_grows calls m (suc d) f =
    let e : m + suc d ≡ suc (m + d) = omega arith in
    subst (λ n. place calls m f ≤ place calls n f) (sym e) (let one = place_grows calls m d f in let two = place_step calls (m + d) f in omega arith)

-- an earlier call's row stands before a later call's
rows_before : (program : Program) (j k : ℕ) (a b : Call) → IsSound program → j < k → slice_get program.calls.items j ≡ Some a → slice_get program.calls.items k ≡ Some b → IsBefore (row_of program.calls.items j a) (row_of program.calls.items k b)
rows_before program j k a b sound lt at_j at_k = ⊎_elim
    (λ same. inr (
      same,
      (
          let own = place_own program.calls.items j a b.caller at_j same in
          let e : suc j + (k - suc j) ≡ k = omega arith in
          let grows : place program.calls.items (suc j) b.caller ≤ place program.calls.items k b.caller = subst (λ n. place program.calls.items (suc j) b.caller ≤ place program.calls.items n b.caller) e (place_grows program.calls.items (suc j) (k - suc j) b.caller) in
          let here : place program.calls.items j a.caller ≡ place program.calls.items j b.caller = ap (place program.calls.items j) same in
          omega arith),
    ))
    (λ differ. inl (let le = ascends_at program.calls.items j k a b sound.ascending lt at_j at_k in omega arith))
    (cases_eq a.caller b.caller)

ordered_push : (rows : List Row) (row : Row) → IsOrdered rows → ((r : Row) → Contains rows r → IsBefore r row) → IsOrdered (rows ++ row ∷ [])
ordered_push [] row ordered before = (All-nil (IsBefore row), tt)
ordered_push (r ∷ rows) row ordered before =
    (All-push (IsBefore r) rows row ordered.0 (before r (Contains-here r rows)), ordered_push rows row ordered.1 (λ q has. before q (Contains-there r q rows has)))

calls_push : (program : tree.Program) (rows : List Row) (calls : List Call) (row : Row) (call : Call) → AreCallsOf program rows calls → IsCallOf program row call → AreCallsOf program (rows ++ row ∷ []) (calls ++ call ∷ [])
calls_push program [] [] row call are is = (is, tt)
calls_push program [] (c ∷ calls) row call are is = absurd are
calls_push program (r ∷ rows) [] row call are is = absurd are
calls_push program (r ∷ rows) (c ∷ calls) row call are is = (are.0, calls_push program rows calls row call are.1 is)

-- what a call is in the program
module _ (program : Program) (k : ℕ) (call : Call) (sound : IsSound program) (at : slice_get program.calls.items k ≡ Some call) where
  site_call : (site : IsSite (program_view program) call.caller (place program.calls.items k call.caller) call.callee) → (caller : Function) → slice_get program.functions.items call.caller ≡ Some caller → site.call ≡ name_view call.name
  site_call site caller there =
      let seen : site.caller ≡ view_of program.calls.items call.caller caller = same_Some site.caller (view_of program.calls.items call.caller caller) (sym site.is_caller ∙ function_view program call.caller caller there) in
      same_Some site.call (name_view call.name)
      (sym (subst (λ (f : tree.Function). slice_get f.calls (place program.calls.items k call.caller) ≡ Some site.call) seen site.is_call) ∙ nested_at program.calls.items k call call.caller at refl)

  module _ (caller callee : Function) (is_caller : slice_get program.functions.items call.caller ≡ Some caller) (is_callee : slice_get program.functions.items call.callee ≡ Some callee) where
    caller_file : (site : IsSite (program_view program) call.caller (place program.calls.items k call.caller) call.callee) → site.caller.file ≡ caller.file.0
    caller_file site = ap (λ (f : tree.Function). f.file) (same_Some site.caller (view_of program.calls.items call.caller caller) (sym site.is_caller ∙ function_view program call.caller caller is_caller))

    callee_file : (site : IsSite (program_view program) call.caller (place program.calls.items k call.caller) call.callee) → site.callee.file ≡ callee.file.0
    callee_file site = ap (λ (f : tree.Function). f.file) (same_Some site.callee (view_of program.calls.items call.callee callee) (sym site.is_callee ∙ function_view program call.callee callee is_callee))

    -- it is a coupling where the files differ and a path leads to it, and only there
    pub coupling_at : caller.file.0 ≢ callee.file.0 → IsReachable (program_view program) program.entry (At call.caller (place program.calls.items k call.caller)) → IsCoupling (program_view program) program.entry (row_of program.calls.items k call)
    coupling_at apart path = record {
      site = site_at program k call sound at;
      apart = λ same. apart (sym (caller_file (site_at program k call sound at)) ∙ same ∙ callee_file (site_at program k call sound at));
      reachable = path;
    }

    pub coupling_apart : IsCoupling (program_view program) program.entry (row_of program.calls.items k call) → caller.file.0 ≢ callee.file.0
    coupling_apart coupling same = coupling.apart (caller_file coupling.site ∙ same ∙ sym (callee_file coupling.site))

-- the calls that are chosen of the first n
pub record IsChosen (program : Program) (n : ℕ) (chosen : List Call) : Type 0 where
  rows : List Row
  are : AreCallsOf (program_view program) rows chosen
  sound : (row : Row) → Contains rows row → IsCoupling (program_view program) program.entry row
  from : (row : Row) → Contains rows row → (k : ℕ) × (call : Call) × (k < n) × (slice_get program.calls.items k ≡ Some call) × (row_of program.calls.items k call ≡ row)
  complete : (k : ℕ) (call : Call) → k < n → slice_get program.calls.items k ≡ Some call → IsCoupling (program_view program) program.entry (row_of program.calls.items k call) → Contains rows (row_of program.calls.items k call)
  ordered : IsOrdered rows

pub chosen_none : (program : Program) (chosen : List Call) → chosen ≡ [] → IsChosen program 0 chosen
chosen_none program chosen empty = record {
  rows = [];
  are = subst (AreCallsOf (program_view program) []) (sym empty) tt;
  sound = λ row has. absurd (Contains-nil row has);
  from = λ row has. absurd (Contains-nil row has);
  complete = λ k call lt at coupling. absurd (omega arith);
  ordered = tt;
}

-- one that is no coupling is left out
pub chosen_skip : (program : Program) (n : ℕ) (call : Call) (chosen : List Call) → slice_get program.calls.items n ≡ Some call → (IsCoupling (program_view program) program.entry (row_of program.calls.items n call) → ⊥) → IsChosen program n chosen → IsChosen program (n + 1) chosen
chosen_skip program n call chosen at none known = record {
  rows = known.rows;
  are = known.are;
  sound = known.sound;
  from = λ row has. (let k = known.from row has in (k.0, k.1, (let lt = k.2 in omega arith), k.3, k.4));
  complete = λ k c lt there coupling. ⊎_elim
      (λ same. absurd (none (subst (λ (d : Call). IsCoupling (program_view program) program.entry (row_of program.calls.items n d)) (same_Some c call (sym there ∙ ap (slice_get program.calls.items) same ∙ at))
      (subst (λ j. IsCoupling (program_view program) program.entry (row_of program.calls.items j c)) same coupling))))
      (λ differ. known.complete k c (omega arith) there coupling)
      (cases_eq k n);
  ordered = known.ordered;
}

-- and one that is a coupling is taken
pub chosen_more : (program : Program) (n : ℕ) (call : Call) (chosen : List Call) (caller : Function) → IsSound program → slice_get program.calls.items n ≡ Some call → slice_get program.functions.items call.caller ≡ Some caller → IsCoupling (program_view program) program.entry (row_of program.calls.items n call) → IsChosen program n chosen → IsChosen program (n + 1) (chosen ++ call ∷ [])
chosen_more program n call chosen caller is_sound at is_caller coupling known = record {
  rows = known.rows ++ row_of program.calls.items n call ∷ [];
  are = calls_push (program_view program) known.rows chosen (row_of program.calls.items n call) call known.are
      (site_at program n call is_sound at, refl, refl, site_call program n call is_sound at (site_at program n call is_sound at) caller is_caller);
  sound = λ row has. ⊎_elim (known.sound row) (λ e. subst (IsCoupling (program_view program) program.entry) e coupling) (Contains-push_cases known.rows (row_of program.calls.items n call) row has);
  from = λ row has. ⊎_elim
      (λ old. (let k = known.from row old in (k.0, k.1, (let lt = k.2 in omega arith), k.3, k.4)))
      (λ e. (n, call, omega arith, at, e))
      (Contains-push_cases known.rows (row_of program.calls.items n call) row has);
  complete = λ k c lt there is. ⊎_elim
      (λ same.
      let d : c ≡ call = same_Some c call (sym there ∙ ap (slice_get program.calls.items) same ∙ at) in
      let row : row_of program.calls.items n call ≡ row_of program.calls.items k c = ap (λ (e : Call). row_of program.calls.items n e) (sym d) ∙ ap (λ j. row_of program.calls.items j c) (sym same) in
      subst (Contains (known.rows ++ row_of program.calls.items n call ∷ [])) row (Contains-push known.rows (row_of program.calls.items n call)))
      (λ differ. Contains-append_left known.rows (row_of program.calls.items n call ∷ []) (row_of program.calls.items k c) (known.complete k c (omega arith) there is))
      (cases_eq k n);
  ordered = ordered_push known.rows (row_of program.calls.items n call) known.ordered
      (λ row has. (let k = known.from row has in subst (λ (r : Row). IsBefore r (row_of program.calls.items n call)) k.4 (rows_before program k.0 n k.1 call is_sound k.2 k.3 at)));
}

-- all calls were tried
pub chosen_all : (program : Program) (n : ℕ) (chosen : List Call) → IsSound program → length program.calls.items ≤ n → IsChosen program n chosen → (rows : List Row) × AreCouplings (program_view program) program.entry rows × AreCallsOf (program_view program) rows chosen
chosen_all program n chosen is_sound long known = (
  known.rows,
  record {
    sound = known.sound;
    complete = λ row coupling. (
        let flat = flat_of program row.f row.i row.g is_sound coupling.site in
        let same : row_of program.calls.items flat.number flat.call ≡ row = row_same row flat.number flat.call flat.caller flat.placed flat.callee in
        subst (Contains known.rows) same
        (known.complete flat.number flat.call (let lt = slice_get_within program.calls.items flat.number flat.call flat.at in omega arith) flat.at (subst (IsCoupling (program_view program) program.entry) (sym same) coupling)));
    ordered = known.ordered;
  },
  known.are,
)
  where
    row_same : (row : Row) (k : ℕ) (call : Call) → call.caller ≡ row.f → place program.calls.items k row.f ≡ row.i → call.callee ≡ row.g → row_of program.calls.items k call ≡ row
    row_same row k call f i g =
        ap (λ h. record { f = h; i = place program.calls.items k h; g = call.callee }) f
        ∙ ap (λ j. record { f = row.f; i = j; g = call.callee }) i
        ∙ ap (λ h. record { f = row.f; i = row.i; g = h }) g

-- what the code read of a call, its functions, and whether it is reached
pub record IsRead (program : Program) (n : ℕ) (call : Call) (caller callee : Function) (reached : List Bool) (mark : Bool) : Type 0 where
  pub at : slice_get program.calls.items n ≡ Some call
  pub is_caller : slice_get program.functions.items call.caller ≡ Some caller
  pub is_callee : slice_get program.functions.items call.callee ≡ Some callee
  pub marked : slice_get reached n ≡ Some mark
  pub exact : IsMarked reached n ↔ IsReachable (program_view program) program.entry (At call.caller (place program.calls.items n call.caller))

pub is_read : (program : Program) (n : ℕ) (call : Call) (caller callee : Function) (reached : List Bool) (mark : Bool) → IsSound program → n < length program.calls.items → length reached ≡ length program.calls.items
    → ((k : ℕ) (c : Call) → slice_get program.calls.items k ≡ Some c → IsMarked reached k ↔ IsReachable (program_view program) program.entry (At c.caller (place program.calls.items k c.caller)))
    → call ≡ get_or program.calls.items n call → caller ≡ get_or program.functions.items call.caller caller → callee ≡ get_or program.functions.items call.callee callee → mark ≡ get_or reached n mark → IsRead program n call caller callee reached mark
is_read program n call caller callee reached mark sound lt long exact is caller_is callee_is mark_is =
    let at = slice_get_read program.calls.items (length program.calls.items) n call refl lt is in
    let linked = linked_at program n call sound at in
    record {
      at = at;
      is_caller = slice_get_read program.functions.items (length program.functions.items) call.caller caller refl linked.caller caller_is;
      is_callee = slice_get_read program.functions.items (length program.functions.items) call.callee callee refl (slice_get_within program.functions.items call.callee linked.callee linked.is_callee) callee_is;
      marked = slice_get_read reached (length reached) n mark refl (omega arith) mark_is;
      exact = exact n call at;
    }

pub read_taken : (program : Program) (n : ℕ) (call : Call) (caller callee : Function) (reached : List Bool) (mark differ : Bool) (chosen : List Call) → IsSound program → IsRead program n call caller callee reached mark → mark ≡ true → differ ≡ not (eqb caller.file.0 callee.file.0) → differ ≡ true → IsChosen program n chosen → IsChosen program (n + 1) (chosen ++ call ∷ [])
read_taken program n call caller callee reached mark differ chosen sound read is differ_is differs known =
    chosen_more program n call chosen caller sound read.at read.is_caller
    (coupling_at program n call sound read.at caller callee read.is_caller read.is_callee (eqb-false caller.file.0 callee.file.0 (not-true (eqb caller.file.0 callee.file.0) (sym differ_is ∙ differs))) (read.exact.0 (read.marked ∙ ap Some is)))
    known

pub read_same : (program : Program) (n : ℕ) (call : Call) (caller callee : Function) (reached : List Bool) (mark differ : Bool) (chosen : List Call) → IsSound program → IsRead program n call caller callee reached mark → differ ≡ not (eqb caller.file.0 callee.file.0) → differ ≡ false → IsChosen program n chosen → IsChosen program (n + 1) chosen
read_same program n call caller callee reached mark differ chosen sound read differ_is same known =
    chosen_skip program n call chosen read.at (λ coupling. coupling_apart program n call sound read.at caller callee read.is_caller read.is_callee coupling (eqb-true caller.file.0 callee.file.0 (not-false (eqb caller.file.0 callee.file.0) (sym differ_is ∙ same)))) known

pub read_unreached : (program : Program) (n : ℕ) (call : Call) (caller callee : Function) (reached : List Bool) (mark : Bool) (chosen : List Call) → IsRead program n call caller callee reached mark → mark ≡ false → IsChosen program n chosen → IsChosen program (n + 1) chosen
read_unreached program n call caller callee reached mark chosen read is known =
    chosen_skip program n call chosen read.at (λ coupling. (let e : Some true ≡ Some false = sym (read.exact.1 coupling.reachable) ∙ read.marked ∙ ap Some is in cc)) known
