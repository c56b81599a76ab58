-- Files that are open, and the faults of their reading.
use Rattle.std.proofs.Common.{◌≡◌, ◌≤◌, ◌<◌, ◌+◌, ◌⊎◌, ℕ, true, List, [], ◌∷◌, ◌++◌, length, arith, refl, sym, ap, ◌∙◌, subst, inl, inr}
use Rattle.std.specs.Prelude.{◌&&◌, All, Option, Some, None, IfSome, nat_le, nat_lt}
use Rattle.std.proofs.lemmas.Bool.Decides.{nat_tests}
use Rattle.std.proofs.lemmas.List.{get_or_append_left, length-append}
use Rattle.std.proofs.lemmas.List.Elements.{All-append, All-cons, All-nil}
use Rattle.std.specs.FinMap.{get}
use Rattle.cc_base.specs.declared.place.Spot.{Spot}
use Rattle.cc_io.specs.Shelf.{Files}
use Rattle.cc_prep.specs.Faults.{Counts, Caused, IsTold, IsUnread, IsPlaceless, NamesPlace, fault_of}
use Rattle.cc_prep.specs.Files.{NamesFile, IsIncluded, Here, Further, IsInnerFile, IsSource, IsOpen, IsPlace}
use Rattle.cc_prep.specs.Marks.{IsMark, IsSpotIn}
use Rattle.cc_prep.specs.Stops.{IsStopIn}
use Rattle.cc_prep.specs.declared.file.OpenFile.{OpenFile}
use Rattle.cc_prep.specs.declared.fault.Stop.{Stop}
use Rattle.cc_prep.specs.declared.fault.Stop.TheVariants as stop
use Rattle.cc_prep.specs.declared.fault.PrepFault.{PrepFault}
use Rattle.cc_prep.specs.declared.fault.PrepFault.TheVariants as fault

-- a file that an open file names is included
pub included_by : (files : Option Files) (name bytes file contents wanted : List ℕ) (o : Option Spot) → IsSource files name bytes file contents o → NamesFile contents wanted
    → IfSome files (λ files. IsIncluded files bytes wanted)
included_by None name bytes file contents wanted o s n = tt
included_by (Some files) name bytes file contents wanted None s n = Here (subst (λ z. NamesFile z wanted) s.1 n)
included_by (Some files) name bytes file contents wanted (Some at) s n = Further contents (s.0).0 (s.0).1 n

-- an included file with its contents
pub inner_file : (files : Option Files) (bytes wanted contents : List ℕ) → IfSome files (λ files. IsIncluded files bytes wanted) → IfSome files (λ files. get files wanted ≡ Some contents)
    → IsInnerFile files bytes wanted contents
inner_file None bytes wanted contents a b = tt
inner_file (Some files) bytes wanted contents a b = (a, b)

-- the `#` of the outermost `include` line is a place of the project's file
pub outermost_some : (files : Option Files) (name bytes file contents : List ℕ) (o : Option Spot) (at : Spot) → IsSource files name bytes file contents o → o ≡ Some at → IsSpotIn bytes at
outermost_some files name bytes file contents o at s e = (subst (IsSource files name bytes file contents) e s).1

pub outermost_none : (files : Option Files) (name bytes file contents : List ℕ) (o : Option Spot) (at : Spot) → IsSource files name bytes file contents o → o ≡ None → IsSpotIn contents at → IsSpotIn bytes at
outermost_none files name bytes file contents o at s e h = subst (λ z. IsSpotIn z at) (subst (IsSource files name bytes file contents) e s).1 h

-- an included file, before its first line
pub opened_file : (files : Option Files) (name bytes : List ℕ) (file : OpenFile) (wanted contents : List ℕ) (at : Spot) → file.name ≡ wanted → file.bytes ≡ contents → file.outermost ≡ Some at
    → IsMark contents file.mark → length contents ≤ 1048576 → IsInnerFile files bytes wanted contents → IsSpotIn bytes at → IsOpen files name bytes file
opened_file files name bytes file wanted contents at n b o mark small inner spot =
    let source : IsSource files name bytes wanted contents (Some at) = (inner, spot) in
    let with_name : IsSource files name bytes file.name contents (Some at) = subst (λ w. IsSource files name bytes w contents (Some at)) (sym n) source in
    let with_bytes : IsSource files name bytes file.name file.bytes (Some at) = subst (λ w. IsSource files name bytes file.name w (Some at)) (sym b) with_name in
    record {
      source = subst (IsSource files name bytes file.name file.bytes) (sym o) with_bytes;
      small = subst (λ w. length w ≤ 1048576) (sym b) small;
      mark = subst (λ w. IsMark w file.mark) (sym b) mark;
    }

-- a file that was read on
pub still_open : (files : Option Files) (name bytes : List ℕ) (old new : OpenFile) → IsOpen files name bytes old → new.name ≡ old.name → new.bytes ≡ old.bytes → new.outermost ≡ old.outermost
    → IsMark old.bytes new.mark → IsOpen files name bytes new
still_open files name bytes old new h n b o mark =
    let with_name : IsSource files name bytes new.name old.bytes old.outermost = subst (λ w. IsSource files name bytes w old.bytes old.outermost) (sym n) h.source in
    let with_bytes : IsSource files name bytes new.name new.bytes old.outermost = subst (λ w. IsSource files name bytes new.name w old.outermost) (sym b) with_name in
    record {
      source = subst (IsSource files name bytes new.name new.bytes) (sym o) with_bytes;
      small = subst (λ w. length w ≤ 1048576) (sym b) h.small;
      mark = subst (λ w. IsMark w new.mark) (sym b) mark;
    }

-- what is told of a file that can't be had
pub unread_told : (o : Option Files) (bytes wanted : List ℕ) (f : PrepFault) → IfSome o (λ files. IsIncluded files bytes wanted) → IfSome o (λ files. IsUnread files wanted f)
    → IfSome o (λ files. IsTold files bytes f)
unread_told None bytes wanted f i u = tt
unread_told (Some files) bytes wanted (fault.Lexical file at rule) i u = absurd u
unread_told (Some files) bytes wanted (fault.Directive file at rule) i u = absurd u
unread_told (Some files) bytes wanted (fault.ReadFault file) i u = subst (IsIncluded files bytes) (sym u) i
unread_told (Some files) bytes wanted (fault.Missing file) i u = (subst (IsIncluded files bytes) (sym u.0) i, ap (get files) u.0 ∙ u.1)
unread_told (Some files) bytes wanted (fault.TooLong file) i u = (subst (IsIncluded files bytes) (sym u.0) i, u.1, ap (get files) u.0 ∙ u.2, u.3)
unread_told (Some files) bytes wanted fault.Memory i u = tt

pub placeless_place : (o : Option Files) (name bytes : List ℕ) (f : PrepFault) → IsPlaceless f → NamesPlace o name bytes f
placeless_place o name bytes (fault.Lexical file at rule) h = absurd h
placeless_place o name bytes (fault.Directive file at rule) h = absurd h
placeless_place o name bytes (fault.ReadFault file) h = tt
placeless_place o name bytes (fault.Missing file) h = tt
placeless_place o name bytes (fault.TooLong file) h = tt
placeless_place o name bytes fault.Memory h = tt

-- ---- The fault by which the reading of an open file stops

place_of : (files : Option Files) (name bytes file contents : List ℕ) (o : Option Spot) (at : Spot) → IsSource files name bytes file contents o → IsSpotIn contents at → IsPlace files name bytes file at
place_of files name bytes file contents None at s h = inl (s.0, subst (λ z. IsSpotIn z at) s.1 h)
place_of files name bytes file contents (Some a) at s h = inr (contents, s.0, h)

stop_place : (files : Option Files) (name bytes file contents : List ℕ) (o : Option Spot) (s : Stop) → IsSource files name bytes file contents o → IsStopIn contents o s
    → NamesPlace files name bytes (fault_of name file s)
stop_place files name bytes file contents o (stop.Lexical at rule) s h = place_of files name bytes file contents o at s h
stop_place files name bytes file contents o (stop.Directive at rule) s h = place_of files name bytes file contents o at s h
stop_place files name bytes file contents None (stop.TooManyTokens at) s h = inl (refl, subst (λ z. IsSpotIn z at) s.1 h)
stop_place files name bytes file contents (Some a) (stop.TooManyTokens at) s h = inl (refl, subst (IsSpotIn bytes) (sym h) s.1)
stop_place files name bytes file contents o stop.Memory s h = tt

abbrev pub IsStopped : (name file : List ℕ) → Stop → PrepFault → Type 0
IsStopped name file s f = (f ≡ fault_of name file s) ⊎ (f ≡ fault.Memory)

pub stopped_place : (files : Option Files) (name bytes file contents : List ℕ) (o : Option Spot) (s : Stop) (f : PrepFault) → IsSource files name bytes file contents o → IsStopIn contents o s
    → IsStopped name file s f → NamesPlace files name bytes f
stopped_place files name bytes file contents o s f source h (inl e) = subst (NamesPlace files name bytes) (sym e) (stop_place files name bytes file contents o s source h)
stopped_place files name bytes file contents o s f source h (inr e) = subst (NamesPlace files name bytes) (sym e) tt

fault_told : (files : Files) (name file bytes : List ℕ) (s : Stop) → IsTold files bytes (fault_of name file s)
fault_told files name file bytes (stop.Lexical at rule) = tt
fault_told files name file bytes (stop.Directive at rule) = tt
fault_told files name file bytes (stop.TooManyTokens at) = tt
fault_told files name file bytes stop.Memory = tt

pub stopped_told : (o : Option Files) (name file bytes : List ℕ) (s : Stop) (f : PrepFault) → IsStopped name file s f → IfSome o (λ files. IsTold files bytes f)
stopped_told None name file bytes s f h = tt
stopped_told (Some files) name file bytes s f (inl e) = subst (IsTold files bytes) (sym e) (fault_told files name file bytes s)
stopped_told (Some files) name file bytes s f (inr e) = subst (IsTold files bytes) (sym e) tt

fault_caused : (old new : Counts) (name file : List ℕ) (s : Stop) → Caused old new (fault_of name file s)
fault_caused old new name file (stop.Lexical at rule) = tt
fault_caused old new name file (stop.Directive at rule) = tt
fault_caused old new name file (stop.TooManyTokens at) = tt
fault_caused old new name file stop.Memory = tt

pub stopped_caused : (old new : Counts) (name file : List ℕ) (s : Stop) (f : PrepFault) → IsStopped name file s f → Caused old new f
stopped_caused old new name file s f (inl e) = subst (Caused old new) (sym e) (fault_caused old new name file s)
stopped_caused old new name file s f (inr e) = subst (Caused old new) (sym e) tt

-- what is told over all files
pub told_all : (o : Option Files) (bytes : List ℕ) (f : PrepFault) → ((files : Files) → IsTold files bytes f) → IfSome o (λ files. IsTold files bytes f)
told_all None bytes f h = tt
told_all (Some files) bytes f h = h files

-- ---- Lists of open files

-- what holds of all of a list holds of all of its front
pub all_front : {X : Type 0} (P : X → Type 0) (xs ys : List X) → All P (xs ++ ys) → All P xs
all_front P xs ys all = λ k d h. subst P (get_or_append_left xs ys d k h) (all k d (omega (arith, length-append xs ys, h)))

pub all_two : {X : Type 0} (P : X → Type 0) (xs : List X) (x y : X) → All P xs → P x → P y → All P ((xs ++ x ∷ []) ++ y ∷ [])
all_two P xs x y all a b = All-append P (xs ++ x ∷ []) (y ∷ []) (All-append P xs (x ∷ []) all (All-cons P x [] a (All-nil P))) (All-cons P y [] b (All-nil P))

pub may_less : (depth includes : ℕ) → true ≡ (nat_le depth 16 && nat_lt includes 1000) → includes < 1000
may_less depth includes e = grind (arith, nat_tests)

pub length_two : {X : Type 0} (xs new : List X) (x y : X) → new ≡ (xs ++ x ∷ []) ++ y ∷ [] → length new ≡ length xs + 2
length_two xs new x y e = omega (arith, ap length e, length-append (xs ++ x ∷ []) (y ∷ []), length-append xs (x ∷ []))
