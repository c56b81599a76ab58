-- The functions of a file, part by part.
use Rattle.std.proofs.Common.{◌≡◌, ◌≢◌, ℕ, ◌+◌, ◌<◌, List, [], ◌∷◌, ◌++◌, length, map, get_or, take, drop, Some, refl, sym, ap, ◌∙◌, subst, All, AllPairs, Contains, slice_get, append_assoc, append-nil, true, Bor}
use Rattle.std.proofs.lemmas.List.{map-append, map_more, map_push, take-append-drop, drop_more}
use Rattle.std.specs.List.{AllZip, list_any}
use Rattle.std.specs.Str.{bytes_eq}
use Rattle.std.proofs.lemmas.List.Elements.{All-contains, Contains-append_right}
use Rattle.std.specs.declared.vec.Vec.{Vec}
use Rattle.std.specs.declared.alloc.Global.{Global}
use Rattle.cc_first_runs.specs.Program as tree
use Rattle.cc_first.specs.Linking.{AreCalls, AreNumbered, IsCallFrom, bare, bare_view, texts_of}
use Rattle.cc_first.specs.Linked.{heads_of}
use Rattle.cc_first.specs.Unit as unit
use Rattle.cc_first.specs.Unit.{Declaration, Definition, functions_of}
use Rattle.cc_first.specs.Views.{name_view, part_view, parts_view}
use Rattle.cc_first.specs.declared.unit.Name.{Name}
use Rattle.cc_first.specs.declared.unit.Part.{Part}
use Rattle.cc_first.specs.declared.unit.Part.TheVariants as code
use Rattle.cc_first.specs.declared.program.Function.{Function}
use Rattle.cc_first.specs.declared.program.Call.{Call}
use Rattle.cc_first.proofs.ProgramNames.{Contains-here, among_names, apart_once}

pub functions_of-append : (file : ℕ) (xs ys : List unit.Part) → functions_of file (xs ++ ys) ≡ functions_of file xs ++ functions_of file ys
functions_of-append file [] ys = refl
functions_of-append file (Declaration name ∷ xs) ys = functions_of-append file xs ys
functions_of-append file (Definition name calls ∷ xs) ys = ap (λ fs. record { head = name; file = file; calls = calls } ∷ fs) (functions_of-append file xs ys)

-- the functions of one part more
pub functions_more : (file : ℕ) (parts : List Part) (i : ℕ) (part : Part) → i < length parts → part ≡ get_or parts i part → functions_of file (parts_view (take (i + 1) parts)) ≡ functions_of file (parts_view (take i parts)) ++ functions_of file (part_view part ∷ [])
functions_more file parts i part lt is =
    let more : parts_view (take (i + 1) parts) ≡ parts_view (take i parts) ++ part_view part ∷ [] = map_more part_view parts i part lt ∙ ap (λ p. parts_view (take i parts) ++ part_view p ∷ []) (sym is) in
    ap (functions_of file) more ∙ functions_of-append file (parts_view (take i parts)) (part_view part ∷ [])

-- those of the parts before it, of it and of those behind it
pub functions_split : (file : ℕ) (parts : List Part) (i : ℕ) (part : Part) → i < length parts → part ≡ get_or parts i part → functions_of file (parts_view parts) ≡ functions_of file (parts_view (take i parts)) ++ (functions_of file (part_view part ∷ []) ++ functions_of file (parts_view (drop (i + 1) parts)))
functions_split file parts i part lt is =
    let split : parts ≡ take i parts ++ part ∷ drop (i + 1) parts = sym (take-append-drop i parts) ∙ ap (λ ps. take i parts ++ ps) (drop_more parts i part lt ∙ ap (λ p. p ∷ drop (i + 1) parts) (sym is)) in
    ap (λ ps. functions_of file (parts_view ps)) split
    ∙ ap (functions_of file) (map-append part_view (take i parts) (part ∷ drop (i + 1) parts))
    ∙ functions_of-append file (parts_view (take i parts)) (part_view part ∷ parts_view (drop (i + 1) parts))
    ∙ ap (λ fs. functions_of file (parts_view (take i parts)) ++ fs) (functions_of-append file (part_view part ∷ []) (parts_view (drop (i + 1) parts)))

pub heads_of-bare : (program : tree.Program) → heads_of (map bare program) ≡ heads_of program
heads_of-bare [] = refl
heads_of-bare (function ∷ program) = ap (λ hs. function.head.text ∷ hs) (heads_of-bare program)

pub heads_of-bare_view : (functions : List Function) → heads_of (map bare_view functions) ≡ texts_of functions
heads_of-bare_view [] = refl
heads_of-bare_view (function ∷ functions) = ap (λ hs. function.head.text.now ∷ hs) (heads_of-bare_view functions)

-- a head that stood before stands twice
pub stands_twice : (before heads : List (List ℕ)) (program first second : tree.Program) (function : tree.Function) (rest : List (List ℕ)) → program ≡ first ++ (function ∷ [] ++ second) → heads ≡ before ++ heads_of first → Contains heads function.head.text → AllPairs (λ a b. a ≢ b) (before ++ (heads_of program ++ rest)) → ⊥
stands_twice before heads program first second function rest split known has once =
    apart_once heads (heads_of second ++ rest) function.head.text has (subst (λ names. AllPairs (λ a b. a ≢ b) names) regroup once)
  where
    heads_split : heads_of program ≡ heads_of first ++ function.head.text ∷ heads_of second
    heads_split = ap heads_of split ∙ map-append (λ (f : tree.Function). f.head.text) first (function ∷ second)

    regroup : before ++ (heads_of program ++ rest) ≡ heads ++ function.head.text ∷ (heads_of second ++ rest)
    regroup =
        ap (λ hs. before ++ (hs ++ rest)) heads_split
        ∙ ap (λ hs. before ++ hs) (append_assoc (heads_of first) (function.head.text ∷ heads_of second) rest)
        ∙ sym (append_assoc before (heads_of first) (function.head.text ∷ (heads_of second ++ rest)))
        ∙ ap (λ hs. hs ++ function.head.text ∷ (heads_of second ++ rest)) (sym known)

-- calls of some functions, and then of some more
pub calls_append : (names : List (List ℕ)) (program more : tree.Program) (calls others : List Call) → AreCalls names program calls → AreCalls names more others → AreCalls names (program ++ more) (calls ++ others)
calls_append names [] more calls others none are = subst (λ cs. AreCalls names more (cs ++ others)) (sym none) are
calls_append names (function ∷ program) more calls others (caller, own, rest, at, is, zipped, are) more_are =
    (caller, own, rest ++ others, at, ap (λ cs. cs ++ others) is ∙ append_assoc own rest others, zipped, calls_append names program more rest others are more_are)

pub calls_one : (names : List (List ℕ)) (function : tree.Function) (caller : ℕ) (own : List Call) → slice_get names caller ≡ Some function.head.text → AllZip (IsCallFrom names caller) function.calls own → AreCalls names (function ∷ []) own
calls_one names function caller own at zipped = (caller, own, [], at, sym (append-nil own), zipped, refl)

-- a function more, where the part is one
pub bare_more : (file : ℕ) (parts : List Part) (i : ℕ) (part : Part) (head : Name) (called : Vec Name Global) (before : tree.Program) (functions : List Function) (function : Function) → i < length parts → part ≡ get_or parts i part → part ≡ code.Definition head called → bare_view function ≡ record { head = name_view head; file = file; calls = [] } → map bare_view functions ≡ before ++ map bare (functions_of file (parts_view (take i parts))) → map bare_view (functions ++ function ∷ []) ≡ before ++ map bare (functions_of file (parts_view (take (i + 1) parts)))
bare_more file parts i part head called before functions function lt at is same known =
    let own : functions_of file (part_view part ∷ []) ≡ record { head = name_view head; file = file; calls = map name_view called.items } ∷ [] = ap (λ p. functions_of file (part_view p ∷ [])) is in
    map_push bare_view functions function
    ∙ ap (λ f. map bare_view functions ++ f ∷ []) same
    ∙ ap (λ fs. fs ++ record { head = name_view head; file = file; calls = [] } ∷ []) known
    ∙ append_assoc before (map bare (functions_of file (parts_view (take i parts)))) (record { head = name_view head; file = file; calls = [] } ∷ [])
    ∙ ap (λ fs. before ++ fs) (sym (map-append bare (functions_of file (parts_view (take i parts))) (record { head = name_view head; file = file; calls = map name_view called.items } ∷ [])))
    ∙ ap (λ fs. before ++ map bare fs) (ap (λ fs. functions_of file (parts_view (take i parts)) ++ fs) (sym own) ∙ sym (functions_more file parts i part lt at))

-- none more, where it is a declaration
pub functions_same : (file : ℕ) (parts : List Part) (i : ℕ) (part : Part) → i < length parts → part ≡ get_or parts i part → functions_of file (part_view part ∷ []) ≡ [] → functions_of file (parts_view (take (i + 1) parts)) ≡ functions_of file (parts_view (take i parts))
functions_same file parts i part lt at none = functions_more file parts i part lt at ∙ ap (λ fs. functions_of file (parts_view (take i parts)) ++ fs) none ∙ append-nil (functions_of file (parts_view (take i parts)))

pub heads_known : (functions begun : List Function) (program : tree.Program) → map bare_view functions ≡ map bare_view begun ++ map bare program → texts_of functions ≡ texts_of begun ++ heads_of program
heads_known functions begun program same =
    sym (heads_of-bare_view functions) ∙ ap heads_of same ∙ map-append (λ (f : tree.Function). f.head.text) (map bare_view begun) (map bare program)
    ∙ ap (λ hs. hs ++ heads_of (map bare program)) (heads_of-bare_view begun)
    ∙ ap (λ hs. texts_of begun ++ hs) (heads_of-bare program)

-- a function whose name has a body already
pub definition_twice : (file : ℕ) (parts : List Part) (i : ℕ) (part : Part) (head : Name) (called : Vec Name Global) (begun functions : List Function) (keys : List (Bor (List ℕ))) (rest : List (List ℕ)) → i < length parts → part ≡ get_or parts i part → part ≡ code.Definition head called → map bare_view functions ≡ map bare_view begun ++ map bare (functions_of file (parts_view (take i parts))) → AreNumbered functions keys → list_any (λ key. bytes_eq head.text.now key.now) keys ≡ true → AllPairs (λ a b. a ≢ b) (texts_of begun ++ (heads_of (functions_of file (parts_view parts)) ++ rest)) → ⊥
definition_twice file parts i part head called begun functions keys rest lt at is known numbered has =
    stands_twice (texts_of begun) (texts_of functions) (functions_of file (parts_view parts)) (functions_of file (parts_view (take i parts))) (functions_of file (parts_view (drop (i + 1) parts)))
    (record { head = name_view head; file = file; calls = map name_view called.items }) rest
    (functions_split file parts i part lt at ∙ ap (λ p. functions_of file (parts_view (take i parts)) ++ (functions_of file (part_view p ∷ []) ++ functions_of file (parts_view (drop (i + 1) parts)))) is)
    (heads_known functions begun (functions_of file (parts_view (take i parts))) known)
    (subst (λ names. Contains names head.text.now) numbered.same (among_names head.text.now keys has))

-- the function of a part is among those of the file
pub definition_within : (file : ℕ) (parts : List Part) (i : ℕ) (part : Part) (head : Name) (called : Vec Name Global) → i < length parts → part ≡ get_or parts i part → part ≡ code.Definition head called → Contains (functions_of file (parts_view parts)) (record { head = name_view head; file = file; calls = map name_view called.items })
definition_within file parts i part head called lt at is =
    let function : tree.Function = record { head = name_view head; file = file; calls = map name_view called.items } in
    let split = functions_split file parts i part lt at ∙ ap (λ p. functions_of file (parts_view (take i parts)) ++ (functions_of file (part_view p ∷ []) ++ functions_of file (parts_view (drop (i + 1) parts)))) is in
    subst (λ fs. Contains fs function) (sym split)
    (Contains-append_right (functions_of file (parts_view (take i parts))) (function ∷ functions_of file (parts_view (drop (i + 1) parts))) function (Contains-here function (functions_of file (parts_view (drop (i + 1) parts)))))

-- each name that the functions call has a body
abbrev pub CallsKnown : List (List ℕ) → tree.Program → Type 0
CallsKnown names program = All (λ (function : tree.Function). Contains names function.head.text × All (λ (call : tree.Name). Contains names call.text) function.calls) program

pub known_at : (names : List (List ℕ)) (program : tree.Program) (function : tree.Function) → CallsKnown names program → Contains program function → Contains names function.head.text × All (λ (call : tree.Name). Contains names call.text) function.calls
known_at names program function all has = All-contains (λ (f : tree.Function). Contains names f.head.text × All (λ (call : tree.Name). Contains names call.text) f.calls) program function all has

-- the calls of one part more
pub calls_more : (names : List (List ℕ)) (file : ℕ) (parts : List Part) (i : ℕ) (part : Part) (head : Name) (called : Vec Name Global) (calls own : List Call) (caller : ℕ) → i < length parts → part ≡ get_or parts i part → part ≡ code.Definition head called → slice_get names caller ≡ Some head.text.now → AllZip (IsCallFrom names caller) (map name_view called.items) own → AreCalls names (functions_of file (parts_view (take i parts))) calls → AreCalls names (functions_of file (parts_view (take (i + 1) parts))) (calls ++ own)
calls_more names file parts i part head called calls own caller lt at is caller_at zipped are =
    let function : tree.Function = record { head = name_view head; file = file; calls = map name_view called.items } in
    let one : functions_of file (part_view part ∷ []) ≡ function ∷ [] = ap (λ p. functions_of file (part_view p ∷ [])) is in
    let more : functions_of file (parts_view (take (i + 1) parts)) ≡ functions_of file (parts_view (take i parts)) ++ function ∷ [] = functions_more file parts i part lt at ∙ ap (λ fs. functions_of file (parts_view (take i parts)) ++ fs) one in
    subst (λ fs. AreCalls names fs (calls ++ own)) (sym more) (calls_append names (functions_of file (parts_view (take i parts))) (function ∷ []) calls own are (calls_one names function caller own caller_at zipped))
