-- What holds of the program that is made.
use Rattle.std.proofs.Common.{◌≡◌, ◌≢◌, ℕ, zero, suc, ◌+◌, ◌<◌, ◌≤◌, ⊎_elim, List, [], ◌∷◌, ◌++◌, length, map, filter, get_or, Some, Bool, cond, eqb, refl, sym, ap, ◌∙◌, subst, arith, All, AllPairs, Contains, slice_get, position, length-append, append_assoc, append-nil, Bor}
use Rattle.std.specs.List.{AllZip}
use Rattle.std.specs.Str.{bytes_eq}
use Rattle.std.proofs.lemmas.Bool.{cases_order, eq-eqb, ne_eqb}
use Rattle.std.proofs.lemmas.List.{length-map, map-append}
use Rattle.std.proofs.lemmas.List.Elements.{All-nil, All-cons, All-head, All-tail, All-append, All-weaker, filter-append}
use Rattle.std.proofs.lemmas.Option.{slice_get_within, get_or_from_slice_get, same_Some}
use Rattle.cc_first_runs.specs.Program as tree
use Rattle.cc_first.specs.Linked.{IsLinked}
use Rattle.cc_first.specs.SoundProgram.{IsLinkedCall, IsSound}
use Rattle.cc_first.specs.Linking.{AreCalls, AreNumbered, IsCallFrom, bare, bare_view, names_of, texts_of}
use Rattle.cc_first.specs.Linked.{heads_of, IsWhole}
use Rattle.cc_first.specs.Views.{name_view, calls_view, functions_view, program_view}
use Rattle.cc_first.specs.declared.program.Call.{Call}
use Rattle.cc_first.specs.declared.program.Function.{Function}
use Rattle.cc_first.specs.declared.program.Program.{Program}
use Rattle.cc_first.proofs.ProgramNames.{Contains-slice_get, name_at}
use Rattle.cc_first.proofs.ProgramParts.{calls_append, heads_known}

-- the calls of each function stand together, in the order of the functions, of which the first has number f
abbrev AreFrom : ℕ → tree.Program → List Call → Type 0
AreFrom f [] calls = calls ≡ []
AreFrom f (function ∷ rest) calls =
    (own : List Call) × (others : List Call) × (calls ≡ own ++ others) × (map (λ call. name_view call.name) own ≡ function.calls)
    × All (λ call. call.caller ≡ f) own × AreFrom (f + 1) rest others

slice_get-behind : {A : Type 0} (xs : List A) (x : A) (ys : List A) → slice_get (xs ++ x ∷ ys) (length xs) ≡ Some x
slice_get-behind [] x ys = refl
slice_get-behind (z ∷ xs) x ys = slice_get-behind xs x ys

-- a name has one number
pub same_place : (names : List (List ℕ)) (i j : ℕ) (x : List ℕ) → AllPairs (λ a b. a ≢ b) names → slice_get names i ≡ Some x → slice_get names j ≡ Some x → i ≡ j
same_place names i j x once at_i at_j =
    let i_is : get_or names i x ≡ x = get_or_from_slice_get names i x x at_i in
    let j_is : get_or names j x ≡ x = get_or_from_slice_get names j x x at_j in
    ⊎_elim (λ e. e)
    (λ order. ⊎_elim
    (λ lt. absurd (once i j x lt (slice_get_within names j x at_j) (i_is ∙ sym j_is)))
    (λ lt. absurd (once j i x lt (slice_get_within names i x at_i) (j_is ∙ sym i_is)))
    order)
    (cases_order i j)

own_callers : (names : List (List ℕ)) (caller f : ℕ) (called : List tree.Name) (own : List Call) → caller ≡ f → AllZip (IsCallFrom names caller) called own → All (λ (call : Call). call.caller ≡ f) own
own_callers names caller f [] [] e zipped = All-nil (λ (call : Call). call.caller ≡ f)
own_callers names caller f [] (call ∷ own) e zipped = absurd zipped
own_callers names caller f (name ∷ called) [] e zipped = absurd zipped
own_callers names caller f (name ∷ called) (call ∷ own) e zipped = All-cons (λ (c : Call). c.caller ≡ f) call own (zipped.0.placed ∙ e) (own_callers names caller f called own e zipped.1)

own_names : (names : List (List ℕ)) (caller : ℕ) (called : List tree.Name) (own : List Call) → AllZip (IsCallFrom names caller) called own → map (λ (call : Call). name_view call.name) own ≡ called
own_names names caller [] [] zipped = refl
own_names names caller [] (call ∷ own) zipped = absurd zipped
own_names names caller (name ∷ called) [] zipped = absurd zipped
own_names names caller (name ∷ called) (call ∷ own) zipped = ap (λ n. n ∷ map (λ (c : Call). name_view c.name) own) zipped.0.named ∙ ap (λ ns. name ∷ ns) (own_names names caller called own zipped.1)

-- calls of functions whose names stand once carry the numbers of these functions
numbered_calls : (names earlier : List (List ℕ)) (f : ℕ) (program : tree.Program) (calls : List Call) → length earlier ≡ f → names ≡ earlier ++ heads_of program → AllPairs (λ a b. a ≢ b) names → AreCalls names program calls → AreFrom f program calls
numbered_calls names earlier f [] calls long is once are = are
numbered_calls names earlier f (function ∷ program) calls long is once (caller, own, others, at, split, zipped, are) =
    let here : slice_get names (length earlier) ≡ Some function.head.text = ap (λ ns. slice_get ns (length earlier)) is ∙ slice_get-behind earlier function.head.text (heads_of program) in
    let placed : caller ≡ f = same_place names caller (length earlier) function.head.text once at here ∙ long in
    let longer : length (earlier ++ function.head.text ∷ []) ≡ f + 1 = omega (arith, length-append earlier (function.head.text ∷ []), long) in (
      own,
      others,
      split,
      own_names names caller function.calls own zipped,
      own_callers names caller f function.calls own placed zipped,
      numbered_calls names (earlier ++ function.head.text ∷ []) (f + 1) program others longer (is ∙ sym (append_assoc earlier (function.head.text ∷ []) (heads_of program))) once are,
    )

-- what is behind a function's calls is of later functions
are_later : (f : ℕ) (program : tree.Program) (calls : List Call) → AreFrom f program calls → All (λ (call : Call). f ≤ call.caller) calls
are_later f [] calls none = subst (λ cs. All (λ (call : Call). f ≤ call.caller) cs) (sym none) (All-nil (λ (call : Call). f ≤ call.caller))
are_later f (function ∷ program) calls (own, others, split, names, callers, are) =
    subst (λ cs. All (λ (call : Call). f ≤ call.caller) cs) (sym split)
    (All-append (λ (call : Call). f ≤ call.caller) own others
    (All-weaker (λ (call : Call). call.caller ≡ f) (λ (call : Call). f ≤ call.caller) (λ call e. omega arith) own callers)
    (All-weaker (λ (call : Call). f + 1 ≤ call.caller) (λ (call : Call). f ≤ call.caller) (λ call e. omega arith) others (are_later (f + 1) program others are)))

-- a filter that drops all, and one that keeps all
filter_none : (f : ℕ) (calls : List Call) → All (λ (call : Call). call.caller ≢ f) calls → filter (λ (call : Call). eqb call.caller f) calls ≡ []
filter_none f [] all = refl
filter_none f (call ∷ calls) all =
    ap (λ b. cond b (call ∷ filter (λ (c : Call). eqb c.caller f) calls) (filter (λ (c : Call). eqb c.caller f) calls)) (ne_eqb call.caller f (All-head (λ (c : Call). c.caller ≢ f) call calls all))
    ∙ filter_none f calls (All-tail (λ (c : Call). c.caller ≢ f) call calls all)

filter_all : (f : ℕ) (calls : List Call) → All (λ (call : Call). call.caller ≡ f) calls → filter (λ (call : Call). eqb call.caller f) calls ≡ calls
filter_all f [] all = refl
filter_all f (call ∷ calls) all =
    ap (λ b. cond b (call ∷ filter (λ (c : Call). eqb c.caller f) calls) (filter (λ (c : Call). eqb c.caller f) calls)) (eq-eqb call.caller f (All-head (λ (c : Call). c.caller ≡ f) call calls all))
    ∙ ap (λ cs. call ∷ cs) (filter_all f calls (All-tail (λ (c : Call). c.caller ≡ f) call calls all))

-- a function's calls, which stand between those of earlier and of later functions
own_view : (f : ℕ) (before own others : List Call) → All (λ (call : Call). call.caller < f) before → All (λ (call : Call). call.caller ≡ f) own → All (λ (call : Call). f + 1 ≤ call.caller) others → calls_view (before ++ (own ++ others)) f ≡ map (λ (call : Call). name_view call.name) own
own_view f before own others earlier here later =
    let test : Call → Bool = λ call. eqb call.caller f in
    ap (map (λ (call : Call). name_view call.name))
    (filter-append test before (own ++ others)
    ∙ ap (λ cs. cs ++ filter test (own ++ others)) (filter_none f before (All-weaker (λ (call : Call). call.caller < f) (λ (call : Call). call.caller ≢ f) (λ call lt e. omega arith) before earlier))
    ∙ filter-append test own others
    ∙ ap (λ cs. cs ++ filter test others) (filter_all f own here)
    ∙ ap (λ cs. own ++ cs) (filter_none f others (All-weaker (λ (call : Call). f + 1 ≤ call.caller) (λ (call : Call). call.caller ≢ f) (λ call lt e. omega arith) others later))
    ∙ append-nil own)

-- the functions with their calls are those of the program
view_from : (before calls : List Call) (f : ℕ) (functions : List Function) (program : tree.Program) → All (λ (call : Call). call.caller < f) before → map bare_view functions ≡ map bare program → AreFrom f program calls → functions_view (before ++ calls) f functions ≡ program
view_from before calls f [] [] earlier same are = refl
view_from before calls f [] (x ∷ program) earlier same are = absurd (let e = same in cc)
view_from before calls f (x ∷ functions) [] earlier same are = absurd (let e = same in cc)
view_from before calls f (x ∷ functions) (function ∷ program) earlier same (own, others, split, names, callers, are) =
    let head : bare_view x ≡ bare function = (let e = same in cc) in
    let tail : map bare_view functions ≡ map bare program = (let e = same in cc) in
    let own_calls : calls_view (before ++ calls) f ≡ function.calls = ap (λ cs. calls_view (before ++ cs) f) split ∙ own_view f before own others earlier callers (are_later (f + 1) program others are) ∙ names in
    let regroup : before ++ calls ≡ (before ++ own) ++ others = ap (λ cs. before ++ cs) split ∙ sym (append_assoc before own others) in
    let earlier_too : All (λ (call : Call). call.caller < f + 1) (before ++ own) = All-append (λ (call : Call). call.caller < f + 1) before own
    (All-weaker (λ (call : Call). call.caller < f) (λ (call : Call). call.caller < f + 1) (λ call lt. omega arith) before earlier)
    (All-weaker (λ (call : Call). call.caller ≡ f) (λ (call : Call). call.caller < f + 1) (λ call e. omega arith) own callers) in
    ap (λ cs. record { head = name_view x.head; file = x.file.0; calls = cs } ∷ functions_view (before ++ calls) (f + 1) functions) own_calls
    ∙ ap (λ (b : tree.Function). record { head = b.head; file = b.file; calls = function.calls } ∷ functions_view (before ++ calls) (f + 1) functions) head
    ∙ ap (λ fs. function ∷ fs) (ap (λ cs. functions_view cs (f + 1) functions) regroup ∙ view_from (before ++ own) others (f + 1) functions program earlier_too tail are)

-- calls stand in the order of their functions
all_pairs_cons : {A : Type 0} (R : A → A → Type 0) (x : A) (xs : List A) → All (R x) xs → AllPairs R xs → AllPairs R (x ∷ xs)
all_pairs_cons R x xs all pairs zero zero d lt within = absurd (omega arith)
all_pairs_cons R x xs all pairs zero (suc j) d lt within = all j d (omega arith)
all_pairs_cons R x xs all pairs (suc i) zero d lt within = absurd (omega arith)
all_pairs_cons R x xs all pairs (suc i) (suc j) d lt within = pairs i j d (omega arith) (omega arith)

ascending_own : (f : ℕ) (own others : List Call) → All (λ (call : Call). call.caller ≡ f) own → All (λ (call : Call). f ≤ call.caller) others → AllPairs (λ (a b : Call). a.caller ≤ b.caller) others → AllPairs (λ (a b : Call). a.caller ≤ b.caller) (own ++ others)
ascending_own f [] others here later pairs = pairs
ascending_own f (call ∷ own) others here later pairs =
    let first : call.caller ≡ f = All-head (λ (c : Call). c.caller ≡ f) call own here in
    let rest = All-tail (λ (c : Call). c.caller ≡ f) call own here in
    all_pairs_cons (λ (a b : Call). a.caller ≤ b.caller) call (own ++ others)
    (All-append (λ (b : Call). call.caller ≤ b.caller) own others
    (All-weaker (λ (c : Call). c.caller ≡ f) (λ (b : Call). call.caller ≤ b.caller) (λ c e. omega arith) own rest)
    (All-weaker (λ (c : Call). f ≤ c.caller) (λ (b : Call). call.caller ≤ b.caller) (λ c e. omega arith) others later))
    (ascending_own f own others rest later pairs)

ascending_from : (f : ℕ) (program : tree.Program) (calls : List Call) → AreFrom f program calls → AllPairs (λ (a b : Call). a.caller ≤ b.caller) calls
ascending_from f [] calls none = subst (λ cs. AllPairs (λ (a b : Call). a.caller ≤ b.caller) cs) (sym none) (λ i j d lt within. absurd (omega arith))
ascending_from f (function ∷ program) calls (own, others, split, names, callers, are) =
    subst (λ cs. AllPairs (λ (a b : Call). a.caller ≤ b.caller) cs) (sym split)
    (ascending_own f own others callers (All-weaker (λ (call : Call). f + 1 ≤ call.caller) (λ (call : Call). f ≤ call.caller) (λ call lt. omega arith) others (are_later (f + 1) program others are)) (ascending_from (f + 1) program others are))

-- the function that has a name
pub function_at : (functions : List Function) (i : ℕ) (text : List ℕ) → slice_get (texts_of functions) i ≡ Some text → (function : Function) × (slice_get functions i ≡ Some function) × (function.head.text.now ≡ text)
function_at [] i text at = absurd (let e = at in cc)
function_at (function ∷ functions) zero text at = (function, refl, same_Some function.head.text.now text at)
function_at (function ∷ functions) (suc i) text at = function_at functions i text at

pub head_at : (program : tree.Program) (i : ℕ) (text : List ℕ) → slice_get (heads_of program) i ≡ Some text → (function : tree.Function) × (slice_get program i ≡ Some function) × (function.head.text ≡ text)
head_at [] i text at = absurd (let e = at in cc)
head_at (function ∷ program) zero text at = (function, refl, same_Some function.head.text text at)
head_at (function ∷ program) (suc i) text at = head_at program i text at

-- each call is linked
own_linked : (functions : List Function) (caller : ℕ) (text : List ℕ) (called : List tree.Name) (own : List Call) → slice_get (texts_of functions) caller ≡ Some text → AllZip (IsCallFrom (texts_of functions) caller) called own → All (IsLinkedCall functions) own
own_linked functions caller text [] [] at zipped = All-nil (IsLinkedCall functions)
own_linked functions caller text [] (call ∷ own) at zipped = absurd zipped
own_linked functions caller text (name ∷ called) [] at zipped = absurd zipped
own_linked functions caller text (name ∷ called) (call ∷ own) at zipped =
    let callee = function_at functions call.callee name.text zipped.0.callee in
    let within : caller < length functions = omega (arith, slice_get_within (texts_of functions) caller text at, length-map functions (λ (f : Function). f.head.text.now)) in
    let placed : call.caller ≡ caller = zipped.0.placed in
    All-cons (IsLinkedCall functions) call own
    (record { caller = omega arith; callee = callee.0; is_callee = callee.1; named = callee.2 ∙ ap (λ (n : tree.Name). n.text) (sym zipped.0.named) })
    (own_linked functions caller text called own at zipped.1)

are_linked : (functions : List Function) (program : tree.Program) (calls : List Call) → AreCalls (texts_of functions) program calls → All (IsLinkedCall functions) calls
are_linked functions [] calls none = subst (All (IsLinkedCall functions)) (sym none) (All-nil (IsLinkedCall functions))
are_linked functions (function ∷ program) calls (caller, own, others, at, split, zipped, are) =
    subst (All (IsLinkedCall functions)) (sym split)
    (All-append (IsLinkedCall functions) own others (own_linked functions caller function.head.text function.calls own at zipped) (are_linked functions program others are))

-- each called name has a body
own_called : (names : List (List ℕ)) (caller : ℕ) (called : List tree.Name) (own : List Call) → AllZip (IsCallFrom names caller) called own → All (λ (call : tree.Name). Contains names call.text) called
own_called names caller [] own zipped = All-nil (λ (call : tree.Name). Contains names call.text)
own_called names caller (name ∷ called) [] zipped = absurd zipped
own_called names caller (name ∷ called) (call ∷ own) zipped = All-cons (λ (n : tree.Name). Contains names n.text) name called (Contains-slice_get names call.callee name.text zipped.0.callee) (own_called names caller called own zipped.1)

are_called : (names : List (List ℕ)) (program : tree.Program) (calls : List Call) → AreCalls names program calls → All (λ (function : tree.Function). All (λ (call : tree.Name). Contains names call.text) function.calls) program
are_called names [] calls none = All-nil (λ (function : tree.Function). All (λ (call : tree.Name). Contains names call.text) function.calls)
are_called names (function ∷ program) calls (caller, own, others, at, split, zipped, are) =
    All-cons (λ (f : tree.Function). All (λ (call : tree.Name). Contains names call.text) f.calls) function program (own_called names caller function.calls own zipped) (are_called names program others are)

-- the program that was made, with an entry that the set found
pub program_made : (made : Program) (keys : List (Bor (List ℕ))) (program : tree.Program) (entry : List ℕ) → AreNumbered made.functions.items keys → map bare_view made.functions.items ≡ map bare program → AreCalls (names_of keys) program made.calls.items → position (λ key. bytes_eq entry key.now) keys ≡ Some made.entry → (program_view made ≡ program) × IsLinked (program_view made) entry made.entry × IsSound made
program_made made keys program entry numbered same are found = (
  view,
  subst (λ p. IsLinked p entry made.entry) (sym view) (whole, record { function = holder.0; is = holder.1; named = holder.2 }),
  record {
    calls = are_linked made.functions.items program made.calls.items (subst (λ names. AreCalls names program made.calls.items) numbered.same are);
    entry = omega (arith, slice_get_within (texts_of made.functions.items) made.entry entry entry_at, length-map made.functions.items (λ (f : Function). f.head.text.now));
    ascending = ascending_from 0 program made.calls.items from;
    once = numbered.once;
  },
)
  where
    heads : texts_of made.functions.items ≡ heads_of program
    heads = heads_known made.functions.items [] program same

    once : AllPairs (λ a b. a ≢ b) (heads_of program)
    once = subst (λ names. AllPairs (λ a b. a ≢ b) names) heads numbered.once

    calls : AreCalls (heads_of program) program made.calls.items
    calls = subst (λ names. AreCalls names program made.calls.items) (numbered.same ∙ heads) are

    from : AreFrom 0 program made.calls.items
    from = numbered_calls (heads_of program) [] 0 program made.calls.items refl refl once calls

    view : program_view made ≡ program
    view = view_from [] made.calls.items 0 made.functions.items program (All-nil (λ (call : Call). call.caller < 0)) same from

    entry_at : slice_get (texts_of made.functions.items) made.entry ≡ Some entry
    entry_at = ap (λ names. slice_get names made.entry) (sym numbered.same) ∙ name_at entry keys made.entry found

    holder : (function : tree.Function) × (slice_get program made.entry ≡ Some function) × (function.head.text ≡ entry)
    holder = head_at program made.entry entry (ap (λ names. slice_get names made.entry) (sym heads) ∙ entry_at)

    whole : IsWhole program
    whole = record { once = once; called = are_called (heads_of program) program made.calls.items calls }

-- the functions of two files, begun with none
pub functions_made : (none first both : List Function) (p q : tree.Program) → none ≡ [] → map bare_view first ≡ map bare_view none ++ map bare p → map bare_view both ≡ map bare_view first ++ map bare q → map bare_view both ≡ map bare (p ++ q)
functions_made none first both p q empty one two =
    two ∙ ap (λ fs. fs ++ map bare q) (one ∙ ap (λ fs. map bare_view fs ++ map bare p) empty) ∙ sym (map-append bare p q)

-- and their calls
pub calls_made : (names : List (List ℕ)) (none first both a b : List Call) (p q : tree.Program) → none ≡ [] → first ≡ none ++ a → both ≡ first ++ b → AreCalls names p a → AreCalls names q b → AreCalls names (p ++ q) both
calls_made names none first both a b p q empty one two are others =
    subst (AreCalls names (p ++ q)) (sym (two ∙ ap (λ cs. cs ++ b) (one ∙ ap (λ cs. cs ++ a) empty))) (calls_append names p q a b are others)

-- the names are the heads of the program
pub names_are : (none functions : List Function) (keys : List (Bor (List ℕ))) (p : tree.Program) → none ≡ [] → AreNumbered functions keys → map bare_view functions ≡ map bare_view none ++ map bare p → names_of keys ≡ heads_of p
names_are none functions keys p empty numbered same = numbered.same ∙ heads_known functions none p same ∙ ap (λ fs. texts_of fs ++ heads_of p) empty

pub texts_are : (none functions : List Function) (p : tree.Program) → none ≡ [] → map bare_view functions ≡ map bare_view none ++ map bare p → texts_of functions ≡ heads_of p
texts_are none functions p empty same = heads_known functions none p same ∙ ap (λ fs. texts_of fs ++ heads_of p) empty
