-- One more row, and one more record.
use Rattle.std.proofs.Common.{◌≡◌, ◌≢◌, ℕ, ◌+◌, ◌<◌, false, List, [], ◌∷◌, ◌++◌, length, map, get_or, take, OnOk, Result, Ok, Err, Vec, Global, ap, ◌∙◌, sym, arith, refl}
use Rattle.std.proofs.lemmas.List.{take_more, length-take, map-append}
use Rattle.csv.specs.Writing.{default_writer, row_text, writer_setup, fields_written, has_written}
use Rattle.csv.specs.declared.writer.QuoteStyle.TheVariants as style
use Rattle.csv.specs.declared.writer.Writer.{Writer}
use Rattle.cc_first.specs.ListingRows.{IsFresh, fields_from, fields_of_call, header_fields, row_fields, written}
use Rattle.cc_first.specs.Project.{Project}
use Rattle.cc_first.specs.declared.listing.Row.{Row}
use Rattle.cc_first.specs.declared.program.Function.{Function}
use Rattle.cc_first.specs.declared.program.Call.{Call}

fields_from-push : (project : Project) (functions : List Function) (n m : ℕ) (calls : List Call) (call : Call) → m ≡ n + length calls
    → fields_from project functions n (calls ++ call ∷ []) ≡ fields_from project functions n calls ++ fields_of_call project functions m call ∷ []
fields_from-push project functions n m [] call e = let same : m ≡ n = omega arith in rw same refl
fields_from-push project functions n m (first ∷ calls) call e =
    ap (λ rest. fields_of_call project functions n first ∷ rest) (fields_from-push project functions (n + 1) m calls call (omega arith))

fields_more : (project : Project) (functions : List Function) (calls : List Call) (i : ℕ) (d : Call) → i < length calls
    → fields_from project functions 1 (take (i + 1) calls)
    ≡ fields_from project functions 1 (take i calls) ++ fields_of_call project functions (i + 1) (get_or calls i d) ∷ []
fields_more project functions calls i d h =
    ap (λ front. fields_from project functions 1 front) (take_more calls i d h)
    ∙ fields_from-push project functions 1 (i + 1) (take i calls) (get_or calls i d) (omega (arith, length-take i calls))

-- a row behind the rows so far
pub rows_more : (project : Project) (functions : List Function) (calls : List Call) (i : ℕ) (d : Call) (rows more : List Row) (row : Row)
    → i < length calls → more ≡ rows ++ row ∷ [] → map row_fields rows ≡ fields_from project functions 1 (take i calls)
    → row_fields row ≡ fields_of_call project functions (i + 1) (get_or calls i d)
    → map row_fields more ≡ fields_from project functions 1 (take (i + 1) calls)
rows_more project functions calls i d rows more row h is before here =
    ap (map row_fields) is ∙ (map-append row_fields rows (row ∷ [])
    ∙ (ap (λ front. front ++ row_fields row ∷ []) before
    ∙ (ap (λ fields. fields_from project functions 1 (take i calls) ++ fields ∷ []) here ∙ sym (fields_more project functions calls i d h))))

-- the header behind what is written so far
pub header_more : {A E : Type 0} (r : Result A E) (old new : Writer (Vec ℕ Global)) (fields : List (List ℕ)) → IsFresh old → fields ≡ header_fields
    → OnOk r (fields_written old ≡ 0 → has_written old ≡ false → (writer_setup old).style ≢ style.NonNumeric
    → written new ≡ written old ++ row_text (writer_setup old) fields)
    → OnOk r (fields_written new ≡ 0) → OnOk r (has_written new ≡ false) → OnOk r (writer_setup new ≡ writer_setup old)
    → OnOk r (IsFresh new × (written new ≡ written old ++ row_text default_writer header_fields))
header_more (Ok a) old new fields fresh same bytes ended clean setup =
    let apart : (writer_setup old).style ≢ style.NonNumeric =
    λ e. let two : style.Necessary ≡ style.NonNumeric = ap (λ cfg. cfg.style) (sym fresh.setup) ∙ e in cc in (
      record { setup = setup ∙ fresh.setup; fields = ended; clean = clean },
      bytes fresh.fields fresh.clean apart ∙ (ap (λ cfg. written old ++ row_text cfg fields) fresh.setup ∙ ap (λ f. written old ++ row_text default_writer f) same),
    )
header_more (Err e) old new fields fresh same bytes ended clean setup = tt
